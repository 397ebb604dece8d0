use Rattle.std.proofs.Common.{ap, sym, ◌∙◌, subst, length, ◌<◌}
use Rattle.winnow_parser.specs.Answer.{ahead}
use Rattle.winnow_codec.specs.FormatNumbers.{bytes_in, SpellsNumber}
use Rattle.winnow_codec.proofs.lemmas.Fixed.{offset-short, short-needs, short-backtracks}
use Rattle.winnow_codec.proofs.numbers.NumberFormat.read.Goals as goal

pub returns-in-Err-clause-means : goal.returns-in-Err-clause-means
returns-in-Err-clause-means g c =
    let count = bytes_in g.W.FixedWidth.width in
    let lacks = offset-short g.I.Stream.counts_shortage (g.I.Stream.remaining c.args.input.now) _ c.in-Err.needed (sym c.offset_at.ensures ∙ c.in-Err.is) in
    short-needs (SpellsNumber g.O.ByteOrder.order count g.W.FixedWidth.value_of) count
    (λ v bytes s. ap length s.1.2 ∙ g.met.O.ByteOrder.ordered.count g.W.FixedWidth.width s.0)
    (g.I.StreamIsPartial.expects_more c.args.input.now) (ahead g.I.Rest.location g.I.Stream.remaining c.args.input.now) c.in-Err.needed
    (sym c.is_partial.ensures ∙ c.if-is_partial.true)
    (subst (λ k. length (g.I.Stream.remaining c.args.input.now) < k) (c.bytes.ensures ∙ ap bytes_in c.width-width.ensures) lacks)

pub returns-in-Err-2-clause-means : goal.returns-in-Err-2-clause-means
returns-in-Err-2-clause-means g c =
    let count = bytes_in g.W.FixedWidth.width in
    let lacks = offset-short g.I.Stream.counts_shortage (g.I.Stream.remaining c.args.input.now) _ c.in-Err-2.field-0 (sym c.offset_at.ensures ∙ c.in-Err-2.is) in
    short-backtracks (SpellsNumber g.O.ByteOrder.order count g.W.FixedWidth.value_of) count
    (λ v bytes s. ap length s.1.2 ∙ g.met.O.ByteOrder.ordered.count g.W.FixedWidth.width s.0)
    (g.I.StreamIsPartial.expects_more c.args.input.now) (ahead g.I.Rest.location g.I.Stream.remaining c.args.input.now)
    (sym c.is_partial.ensures ∙ c.if-is_partial.false)
    (subst (λ k. length (g.I.Stream.remaining c.args.input.now) < k) (c.bytes.ensures ∙ ap bytes_in c.width-width.ensures) lacks)
