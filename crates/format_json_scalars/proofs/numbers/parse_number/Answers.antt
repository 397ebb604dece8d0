use Rattle.std.proofs.Common.{subst}
use Rattle.winnow_parser.specs.Answer.{ahead, failed}
use Rattle.format_lemmas.proofs.lemmas.GatheredLemmas.{gathered-fails}
use Rattle.format_json_scalars.specs.Numbers.{is_number_byte, IsNumber}
use Rattle.format_json_scalars.specs.Meanings.{IsNumberOf, Run}
use Rattle.format_json_scalars.proofs.numbers.parse_number.Goals as goal

pub returns-in-Ok-number_of-clause-means : goal.returns-in-Ok-number_of-clause-means
returns-in-Ok-number_of-clause-means g c =
    (c.in-Ok.slice, (subst (λ t. IsNumberOf t c.in-Ok-number_of.number) c.as_bytes.ensures c.in-Ok-number_of.ensures, rw (c.verify_map-run.ensures.inner, c.take_while.ensures.set, c.take_while.ensures.counts.0, c.take_while.ensures.counts.1, c.new.ensures.start, c.new.ensures.end) at c.in-Ok.ensures.means))

pub returns-clause-means : goal.returns-clause-means
returns-clause-means g c =
    let stands = ahead g.I.Rest.location g.I.Stream.remaining in
    let bytes = g.I.Slice.AsBytes.bytes in
    gathered-fails (λ slice. IsNumberOf (bytes slice)) (Run g.I.Token.AsChar.code g.I.Stream.is_slice bytes is_number_byte IsNumber)
    (g.I.StreamIsPartial.expects_more c.args.input.now) (stands c.args.input.now) (failed c.in-Err.failure (stands c.parse_next.new.input))
    (rw (c.verify_map-run.ensures.inner, c.take_while.ensures.set, c.take_while.ensures.counts.0, c.take_while.ensures.counts.1, c.new.ensures.start, c.new.ensures.end) at c.in-Err.ensures.means)
