use Rattle.std.proofs.Common.{ap, sym, ◌∙◌, length}
use Rattle.winnow_parser.specs.Answer.{ahead}
use Rattle.winnow_codec.specs.FormatNumbers.{SpellsNumber}
use Rattle.winnow_codec.proofs.lemmas.Fixed.{offset-short, short-needs, short-backtracks}
use Rattle.winnow_codec.proofs.wide_numbers.SixteenBytesFormat.read.Goals as goal

pub returns-in-Err-clause-means : goal.returns-in-Err-clause-means
returns-in-Err-clause-means g c =
    short-needs (SpellsNumber g.O.ByteOrder.order 16 g.V.WideNumber.value_of) 16
    (λ v bytes s. ap length s.1.2 ∙ g.met.O.ByteOrder.ordered.wide_count s.0)
    (g.I.StreamIsPartial.expects_more c.args.input.now) (ahead g.I.Rest.location g.I.Stream.remaining c.args.input.now) c.in-Err.needed
    (sym c.is_partial.ensures ∙ c.if-is_partial.true)
    (offset-short g.I.Stream.counts_shortage (g.I.Stream.remaining c.args.input.now) _ c.in-Err.needed (sym c.offset_at.ensures ∙ c.in-Err.is))

pub returns-in-Err-2-clause-means : goal.returns-in-Err-2-clause-means
returns-in-Err-2-clause-means g c =
    short-backtracks (SpellsNumber g.O.ByteOrder.order 16 g.V.WideNumber.value_of) 16
    (λ v bytes s. ap length s.1.2 ∙ g.met.O.ByteOrder.ordered.wide_count s.0)
    (g.I.StreamIsPartial.expects_more c.args.input.now) (ahead g.I.Rest.location g.I.Stream.remaining c.args.input.now)
    (sym c.is_partial.ensures ∙ c.if-is_partial.false)
    (offset-short g.I.Stream.counts_shortage (g.I.Stream.remaining c.args.input.now) _ c.in-Err-2.field-0 (sym c.offset_at.ensures ∙ c.in-Err-2.is))
