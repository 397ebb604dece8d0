use Rattle.std.proofs.Common.{◌≤◌, length, ap, sym, ◌∙◌, subst}
use Rattle.winnow_stream.proofs.lemmas.OffsetLemmas.{offset_at-within}
use Rattle.winnow_parser.specs.Answer.{ahead}
use Rattle.winnow_binary.specs.Numerals.{bytes_in}
use Rattle.winnow_binary.proofs.lemmas.NumberLemmas.{fixed-numeral}
use Rattle.winnow_binary.proofs.numbers.NumeralParser.parse_next.Goals as goal

pub returns-in-Ok-clause-means : goal.returns-in-Ok-clause-means
returns-in-Ok-clause-means g c =
    let stands = ahead g.I.Rest.location g.I.Stream.remaining in
    let partial = g.I.StreamIsPartial.expects_more c.args.input.now in
    let within = offset_at-within g.I.Stream.counts_shortage _ _ c.in-Ok.field-0 (sym c.offset_at.ensures ∙ c.in-Ok.is) in
    let enough = subst (λ k. k ≤ length (g.I.Stream.remaining c.args.input.now)) c.bytes.ensures within in
    fixed-numeral g.I.Stream.counts_shortage partial (bytes_in c.width-width.result) (bytes_in g.R.BinaryNumber.width) g.R.BinaryNumber.value_of
    c.args.self.now.order (stands c.args.input.now) (stands c.next_number.new.input) c.next_number.result c.from_number.result
    (g.met.I.Stream.positive_widths c.args.input.now c.requires.valid) enough (ap bytes_in c.width-width.ensures)
    c.next_number.ensures.number c.next_number.ensures.stands c.from_number.ensures
