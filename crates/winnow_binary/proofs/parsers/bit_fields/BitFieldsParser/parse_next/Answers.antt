use Rattle.std.proofs.Common.{◌≡◌, ◌/◌, sum, arith, sym, ◌∙◌, inl}
use Rattle.winnow_stream.proofs.lemmas.OffsetLemmas.{offset_at-within}
use Rattle.winnow_parser.specs.Answer.{ahead}
use Rattle.winnow_binary.proofs.lemmas.NumberLemmas.{fixed-numeral}
use Rattle.winnow_binary.specs.Fields.{fields_in}
use Rattle.winnow_binary.proofs.parsers.bit_fields.BitFieldsParser.parse_next.Goals as goal

pub returns-in-Ok-clause-means : goal.returns-in-Ok-clause-means
returns-in-Ok-clause-means g c =
    let stands = ahead g.I.Rest.location g.I.Stream.remaining in
    let parser = c.args.self.now in
    let fills = c.in-Some.ensures in
    let count : c.in-Some.count ≡ sum parser.widths / 8 = omega (arith, fills.1) in
    let enough = offset_at-within g.I.Stream.counts_shortage _ _ c.in-Ok.field-0 (sym c.offset_at.ensures ∙ c.in-Ok.is) in
    let read = c.next_number-number in
    let partial = g.I.StreamIsPartial.expects_more c.args.input.now in
    inl (
      fills.0,
      fixed-numeral g.I.Stream.counts_shortage partial c.in-Some.count (sum parser.widths / 8) (fields_in parser.order parser.widths) parser.order
          (stands c.args.input.now) (stands read.new.input) read.result c.fields_in.result (g.met.I.Stream.positive_widths c.args.input.now c.requires.valid)
          enough count read.ensures.number read.ensures.stands c.fields_in.ensures,
    )
