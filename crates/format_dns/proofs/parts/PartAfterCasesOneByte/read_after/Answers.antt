use Rattle.std.proofs.Common.{◌≡◌, ◌+◌, ◌-◌, ◌*◌, ◌/◌, ◌%◌, [], ◌∷◌, refl, sym, ◌∙◌, ap, arith}
use Rattle.winnow_parser.specs.Answer.{ahead, failed}
use Rattle.winnow_codec.specs.Byte.{SpellsByte}
use Rattle.winnow_codec.specs.Bytes.{SpellsBytes}
use Rattle.winnow_codec.specs.Frames.{SpellsInside}
use Rattle.winnow_codec.specs.WholeFormats.{SpellsRest}
use Rattle.winnow_codec.proofs.lemmas.Lists.{takes-none}
use Rattle.winnow_codec.proofs.lemmas.Reading.{none-has}
use Rattle.format_dns.specs.Parts.{SpellsAfter}
use Rattle.format_dns.proofs.lemmas.PartLemmas.{has-label, has-low}
use Rattle.format_dns.proofs.parts.PartAfterCasesOneByte.read_after.Goals as goal

pub returns-then-label-eq0-clause-means : goal.returns-then-label-eq0-clause-means
returns-then-label-eq0-clause-means g c = ([], ((c.if-label-eq0.true, refl), takes-none _))

pub returns-in-Err-clause-means : goal.returns-in-Err-clause-means
returns-in-Err-clause-means g c =
    none-has (SpellsInside (SpellsBytes c.sized.result.frame.size) SpellsRest) (SpellsAfter c.args.label) (has-label c.args.label c.sized.result.frame.size (ap (λ f. f.frame.size) c.sized.ensures) c.if-label-eq0.false c.if-label-lt64.true)
    (g.I.StreamIsPartial.expects_more c.args.input.now) (ahead g.I.Rest.location g.I.Stream.remaining c.args.input.now)
    (failed c.in-Err.failure (ahead g.I.Rest.location g.I.Stream.remaining c.read.new.input)) c.in-Err.ensures.means

pub returns-in-Ok-read-clause-means : goal.returns-in-Ok-read-clause-means
returns-in-Ok-read-clause-means g c =
    let one = c.in-Ok-read.ensures.means in
    let low = one.1.0.0 in
    let here : ((c.args.label - 192) * 256 + c.in-Ok-read.low) % 256 ≡ c.in-Ok-read.low = grind (arith, low) in
    let there : ((c.args.label - 192) * 256 + c.in-Ok-read.low) / 256 ≡ c.args.label - 192 = grind (arith, low) in (
      one.0,
      (
        (
          omega (arith, c.if-label-lt192.false, there),
          omega (arith, c.ranges.label.fits, low),
          one.1.0.1 ∙ ap (λ n. n ∷ []) (sym here),
        ),
        one.1.1,
      ),
    )

pub returns-in-Err-read-clause-means : goal.returns-in-Err-read-clause-means
returns-in-Err-read-clause-means g c =
    none-has SpellsByte (SpellsAfter c.args.label) (has-low c.args.label (omega (arith, c.if-label-lt192.false)))
    (g.I.StreamIsPartial.expects_more c.args.input.now) (ahead g.I.Rest.location g.I.Stream.remaining c.args.input.now)
    (failed c.in-Err-read.failure (ahead g.I.Rest.location g.I.Stream.remaining c.read-2.new.input)) c.in-Err-read.ensures.means
