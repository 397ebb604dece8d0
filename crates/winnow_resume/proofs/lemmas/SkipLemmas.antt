-- What is skipped leaves a narrower rest.
use Rattle.std.proofs.Common.{◌<◌, Bool, true, refl, ap, arith}
use Rattle.winnow_stream.specs.Source.{width}
use Rattle.winnow_stream.proofs.lemmas.FrontLemmas.{width-append}
use Rattle.winnow_parser.specs.Outcome.{Ahead, Meaning}
use Rattle.winnow_parser.specs.Laws.{IsParser}
use Rattle.winnow_resume.specs.Skipping.{Skips, BreaksAt-moves}

-- a recovery that has to take some tokens leaves fewer
pub Skips-narrower : {O T : Type 0} (means : Meaning O T) (recover : Meaning (Unit {0}) T)
    → IsParser means → (records partial : Bool) (a c : Ahead T)
    → Skips true records means recover partial a c → width c.tokens < width a.tokens
Skips-narrower means recover p records partial a c (on, h) =
    let m = BreaksAt-moves p partial a h.0 h.1.0 in
    omega (arith, h.1.1.1 refl, ap width m.whole, width-append m.taken h.0.tokens)
