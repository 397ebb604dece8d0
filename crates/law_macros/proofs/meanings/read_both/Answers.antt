use Rattle.std.proofs.Common.{rules}
use Rattle.winnow_parser.specs.Rows.{Row3}
use Rattle.winnow_macros.proofs.lemmas.MadeLemmas.{Maps-on}
use Rattle.law_macros.specs.Kinds.{HasBoth}
use Rattle.law_macros.proofs.meanings.read_both.Goals as goal

pub returns : goal.returns
returns g c =
    let row = Row3 (g.A.Parser.means c.args.first) (g.S.Parser.means c.args.sign) (g.B.Parser.means c.args.second) in
    let means = rw (c.seq-parser.ensures.inner, c.seq-parser.ensures.f) at c.parse_next.ensures.means in
    let error = rw c.seq-parser.ensures.inner at c.parse_next.ensures.error in
    record { means = Maps-on _ HasBoth row (λ values both h. search rules) _ _ _ means; error = error }
