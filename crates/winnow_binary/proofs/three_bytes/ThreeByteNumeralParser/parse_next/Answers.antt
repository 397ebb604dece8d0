use Rattle.std.proofs.Common.{refl, sym, ◌∙◌}
use Rattle.winnow_stream.proofs.lemmas.OffsetLemmas.{offset_at-within}
use Rattle.winnow_parser.specs.Answer.{ahead}
use Rattle.winnow_binary.proofs.lemmas.NumberLemmas.{fixed-numeral}
use Rattle.winnow_binary.proofs.three_bytes.ThreeByteNumeralParser.parse_next.Goals as goal

pub returns-in-Ok-clause-means : goal.returns-in-Ok-clause-means
returns-in-Ok-clause-means g c =
    let stands = ahead g.I.Rest.location g.I.Stream.remaining in
    let partial = g.I.StreamIsPartial.expects_more c.args.input.now in
    let enough = offset_at-within g.I.Stream.counts_shortage _ _ c.in-Ok.field-0 (sym c.offset_at.ensures ∙ c.in-Ok.is) in
    fixed-numeral g.I.Stream.counts_shortage partial 3 3 g.R.ThreeByteNumber.value_of_three
    c.args.self.now.order (stands c.args.input.now) (stands c.three.new.input) c.three.result c.from_three_bytes.result
    (g.met.I.Stream.positive_widths c.args.input.now c.requires.valid) enough refl
    c.three.ensures.number c.three.ensures.stands c.from_three_bytes.ensures
