use Rattle.std.proofs.Common.{refl, sym, ◌∙◌}
use Rattle.winnow_stream.proofs.lemmas.OffsetLemmas.{offset_at-within}
use Rattle.winnow_parser.specs.Answer.{ahead}
use Rattle.winnow_binary.proofs.lemmas.NumberLemmas.{fixed-numeral}
use Rattle.winnow_binary.proofs.sixteen_bytes.SixteenByteNumeralParser.parse_next.Goals as goal

pub returns-in-Ok-clause-means : goal.returns-in-Ok-clause-means
returns-in-Ok-clause-means g c =
    let stands = ahead g.I.Rest.location g.I.Stream.remaining in
    let partial = g.I.StreamIsPartial.expects_more c.args.input.now in
    let enough = offset_at-within g.I.Stream.counts_shortage _ _ c.in-Ok.field-0 (sym c.offset_at.ensures ∙ c.in-Ok.is) in
    fixed-numeral g.I.Stream.counts_shortage partial 16 16 g.R.SixteenByteNumber.value_of_sixteen
    c.args.self.now.order (stands c.args.input.now) (stands c.sixteen.new.input) c.sixteen.result c.from_sixteen_bytes.result
    (g.met.I.Stream.positive_widths c.args.input.now c.requires.valid) enough refl
    c.sixteen.ensures.number c.sixteen.ensures.stands c.from_sixteen_bytes.ensures
