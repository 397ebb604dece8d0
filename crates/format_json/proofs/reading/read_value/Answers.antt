use Rattle.std.proofs.Common.{◌≡◌, [], refl, sym, subst}
use Rattle.winnow_stream.specs.Source.{units}
use Rattle.format_json.specs.Language.{after_blanks}
use Rattle.format_json.specs.Answers.{IsReading}
use Rattle.format_json.specs.declared.reading.Reading.TheVariants.{Nothing, Whole, Begun, Damaged}
use Rattle.format_json_scalars.proofs.lemmas.StringStreamLemmas.{source-is, moved-to, offset-fits, text-is}
use Rattle.format_json.proofs.lemmas.ValueStreamLemmas.{value-as, value-missed, value-none, value-place, value-open, blank-missed, damaged-missed, value-answers, value-once}
use Rattle.format_json.proofs.reading.read_value.Goals as goal

pub returns-in-Ok-Nothing-clause-answer : goal.returns-in-Ok-Nothing-clause-answer
returns-in-Ok-Nothing-clause-answer g c =
    let r = g.I.Stream.remaining c.args.input.now in
    let t = c.as_bytes.result.now in
    let depth = c.args.depth in
    let partial = g.I.StreamIsPartial.expects_more c.args.input.now in
    let same : r ≡ units t =
    source-is g.I.Stream.is_slice g.I.Slice.AsBytes.bytes c.requires.bytes r c.peek_finish-ahead.result t (g.met.I.Stream.positive_widths c.args.input.now c.requires.valid) c.peek_finish-ahead.ensures.answer c.as_bytes.ensures in
    let is = subst (λ p. IsReading depth p t Nothing) c.is_partial.ensures (value-as depth c.is_partial.result t c.read_bytes.result c.in-Ok-Nothing.field-0 Nothing c.read_bytes.ensures c.in-Ok-Nothing.is c.in-Ok-Nothing.field-0-is) in
    (refl, is.0, subst (λ l. after_blanks l ≡ []) (sym (text-is r t same)) is.1)

pub returns-in-Ok-Nothing-clause-complete : goal.returns-in-Ok-Nothing-clause-complete
returns-in-Ok-Nothing-clause-complete g c =
    let r = g.I.Stream.remaining c.args.input.now in
    let t = c.as_bytes.result.now in
    let depth = c.args.depth in
    let partial = g.I.StreamIsPartial.expects_more c.args.input.now in
    let same : r ≡ units t =
    source-is g.I.Stream.is_slice g.I.Slice.AsBytes.bytes c.requires.bytes r c.peek_finish-ahead.result t (g.met.I.Stream.positive_widths c.args.input.now c.requires.valid) c.peek_finish-ahead.ensures.answer c.as_bytes.ensures in
    let is = subst (λ p. IsReading depth p t Nothing) c.is_partial.ensures (value-as depth c.is_partial.result t c.read_bytes.result c.in-Ok-Nothing.field-0 Nothing c.read_bytes.ensures c.in-Ok-Nothing.is c.in-Ok-Nothing.field-0-is) in
    λ v after h. absurd (blank-missed depth partial r t same is.1 v after h)

pub returns-in-Ok-Begun-clause-answer : goal.returns-in-Ok-Begun-clause-answer
returns-in-Ok-Begun-clause-answer g c =
    let r = g.I.Stream.remaining c.args.input.now in
    let t = c.as_bytes.result.now in
    let depth = c.args.depth in
    let partial = g.I.StreamIsPartial.expects_more c.args.input.now in
    let same : r ≡ units t =
    source-is g.I.Stream.is_slice g.I.Slice.AsBytes.bytes c.requires.bytes r c.peek_finish-ahead.result t (g.met.I.Stream.positive_widths c.args.input.now c.requires.valid) c.peek_finish-ahead.ensures.answer c.as_bytes.ensures in
    let is = subst (λ p. IsReading depth p t Begun) c.is_partial.ensures (value-as depth c.is_partial.result t c.read_bytes.result c.in-Ok-Begun.field-0 Begun c.read_bytes.ensures c.in-Ok-Begun.is c.in-Ok-Begun.field-0-is) in
    (is.0, value-missed depth partial r t same is.1, value-open depth partial r t same is.2)

pub returns-in-Ok-Begun-clause-complete : goal.returns-in-Ok-Begun-clause-complete
returns-in-Ok-Begun-clause-complete g c =
    let r = g.I.Stream.remaining c.args.input.now in
    let t = c.as_bytes.result.now in
    let depth = c.args.depth in
    let partial = g.I.StreamIsPartial.expects_more c.args.input.now in
    let same : r ≡ units t =
    source-is g.I.Stream.is_slice g.I.Slice.AsBytes.bytes c.requires.bytes r c.peek_finish-ahead.result t (g.met.I.Stream.positive_widths c.args.input.now c.requires.valid) c.peek_finish-ahead.ensures.answer c.as_bytes.ensures in
    let is = subst (λ p. IsReading depth p t Begun) c.is_partial.ensures (value-as depth c.is_partial.result t c.read_bytes.result c.in-Ok-Begun.field-0 Begun c.read_bytes.ensures c.in-Ok-Begun.is c.in-Ok-Begun.field-0-is) in
    λ v after h. absurd (value-missed depth partial r t same is.1 v after h)

pub next_slice-requires-clause-offset : goal.next_slice-requires-clause-offset
next_slice-requires-clause-offset g c =
    let r = g.I.Stream.remaining c.args.input.now in
    let t = c.as_bytes.result.now in
    let depth = c.args.depth in
    let partial = g.I.StreamIsPartial.expects_more c.args.input.now in
    let same : r ≡ units t =
    source-is g.I.Stream.is_slice g.I.Slice.AsBytes.bytes c.requires.bytes r c.peek_finish-ahead.result t (g.met.I.Stream.positive_widths c.args.input.now c.requires.valid) c.peek_finish-ahead.ensures.answer c.as_bytes.ensures in
    let is = subst (λ p. IsReading depth p t (Whole c.in-Ok-Whole.value c.in-Ok-Whole.width)) c.is_partial.ensures (value-as depth c.is_partial.result t c.read_bytes.result c.in-Ok-Whole.field-0 (Whole c.in-Ok-Whole.value c.in-Ok-Whole.width) c.read_bytes.ensures c.in-Ok-Whole.is c.in-Ok-Whole.field-0-is) in
    offset-fits r t same c.in-Ok-Whole.width is.0

pub returns-in-Ok-Whole-clause-answer : goal.returns-in-Ok-Whole-clause-answer
returns-in-Ok-Whole-clause-answer g c =
    let r = g.I.Stream.remaining c.args.input.now in
    let t = c.as_bytes.result.now in
    let depth = c.args.depth in
    let partial = g.I.StreamIsPartial.expects_more c.args.input.now in
    let same : r ≡ units t =
    source-is g.I.Stream.is_slice g.I.Slice.AsBytes.bytes c.requires.bytes r c.peek_finish-ahead.result t (g.met.I.Stream.positive_widths c.args.input.now c.requires.valid) c.peek_finish-ahead.ensures.answer c.as_bytes.ensures in
    let is = subst (λ p. IsReading depth p t (Whole c.in-Ok-Whole.value c.in-Ok-Whole.width)) c.is_partial.ensures (value-as depth c.is_partial.result t c.read_bytes.result c.in-Ok-Whole.field-0 (Whole c.in-Ok-Whole.value c.in-Ok-Whole.width) c.read_bytes.ensures c.in-Ok-Whole.is c.in-Ok-Whole.field-0-is) in
    value-answers depth partial r t same c.in-Ok-Whole.value c.in-Ok-Whole.width (g.I.Stream.remaining c.next_slice.new.self) is c.next_slice.ensures.remains

pub returns-in-Ok-Whole-clause-complete : goal.returns-in-Ok-Whole-clause-complete
returns-in-Ok-Whole-clause-complete g c =
    let r = g.I.Stream.remaining c.args.input.now in
    let t = c.as_bytes.result.now in
    let depth = c.args.depth in
    let partial = g.I.StreamIsPartial.expects_more c.args.input.now in
    let same : r ≡ units t =
    source-is g.I.Stream.is_slice g.I.Slice.AsBytes.bytes c.requires.bytes r c.peek_finish-ahead.result t (g.met.I.Stream.positive_widths c.args.input.now c.requires.valid) c.peek_finish-ahead.ensures.answer c.as_bytes.ensures in
    let is = subst (λ p. IsReading depth p t (Whole c.in-Ok-Whole.value c.in-Ok-Whole.width)) c.is_partial.ensures (value-as depth c.is_partial.result t c.read_bytes.result c.in-Ok-Whole.field-0 (Whole c.in-Ok-Whole.value c.in-Ok-Whole.width) c.read_bytes.ensures c.in-Ok-Whole.is c.in-Ok-Whole.field-0-is) in
    value-once depth partial r t same c.in-Ok-Whole.value c.in-Ok-Whole.width (g.I.Stream.remaining c.next_slice.new.self) is c.next_slice.ensures.remains

pub returns-in-Ok-Whole-clause-onward : goal.returns-in-Ok-Whole-clause-onward
returns-in-Ok-Whole-clause-onward g c =
    let r = g.I.Stream.remaining c.args.input.now in
    let t = c.as_bytes.result.now in
    let depth = c.args.depth in
    let partial = g.I.StreamIsPartial.expects_more c.args.input.now in
    let same : r ≡ units t =
    source-is g.I.Stream.is_slice g.I.Slice.AsBytes.bytes c.requires.bytes r c.peek_finish-ahead.result t (g.met.I.Stream.positive_widths c.args.input.now c.requires.valid) c.peek_finish-ahead.ensures.answer c.as_bytes.ensures in
    let is = subst (λ p. IsReading depth p t (Whole c.in-Ok-Whole.value c.in-Ok-Whole.width)) c.is_partial.ensures (value-as depth c.is_partial.result t c.read_bytes.result c.in-Ok-Whole.field-0 (Whole c.in-Ok-Whole.value c.in-Ok-Whole.width) c.read_bytes.ensures c.in-Ok-Whole.is c.in-Ok-Whole.field-0-is) in
    moved-to _ _ r (g.I.Stream.remaining c.next_slice.new.self) c.in-Ok-Whole.width (offset-fits r t same c.in-Ok-Whole.width is.0) c.next_slice.ensures.location c.next_slice.ensures.remains

pub next_slice-requires-in-Ok-Damaged-clause-offset : goal.next_slice-requires-in-Ok-Damaged-clause-offset
next_slice-requires-in-Ok-Damaged-clause-offset g c =
    let r = g.I.Stream.remaining c.args.input.now in
    let t = c.as_bytes.result.now in
    let depth = c.args.depth in
    let partial = g.I.StreamIsPartial.expects_more c.args.input.now in
    let same : r ≡ units t =
    source-is g.I.Stream.is_slice g.I.Slice.AsBytes.bytes c.requires.bytes r c.peek_finish-ahead.result t (g.met.I.Stream.positive_widths c.args.input.now c.requires.valid) c.peek_finish-ahead.ensures.answer c.as_bytes.ensures in
    let is = subst (λ p. IsReading depth p t (Damaged c.in-Ok-Damaged.width)) c.is_partial.ensures (value-as depth c.is_partial.result t c.read_bytes.result c.in-Ok-Damaged.field-0 (Damaged c.in-Ok-Damaged.width) c.read_bytes.ensures c.in-Ok-Damaged.is c.in-Ok-Damaged.field-0-is) in
    offset-fits r t same c.in-Ok-Damaged.width is.0

pub returns-clause-answer : goal.returns-clause-answer
returns-clause-answer g c =
    let r = g.I.Stream.remaining c.args.input.now in
    let t = c.as_bytes.result.now in
    let depth = c.args.depth in
    let partial = g.I.StreamIsPartial.expects_more c.args.input.now in
    let same : r ≡ units t =
    source-is g.I.Stream.is_slice g.I.Slice.AsBytes.bytes c.requires.bytes r c.peek_finish-ahead.result t (g.met.I.Stream.positive_widths c.args.input.now c.requires.valid) c.peek_finish-ahead.ensures.answer c.as_bytes.ensures in
    let is = subst (λ p. IsReading depth p t (Damaged c.in-Ok-Damaged.width)) c.is_partial.ensures (value-as depth c.is_partial.result t c.read_bytes.result c.in-Ok-Damaged.field-0 (Damaged c.in-Ok-Damaged.width) c.read_bytes.ensures c.in-Ok-Damaged.is c.in-Ok-Damaged.field-0-is) in
    (value-none depth partial r t same is.1, value-place depth partial r t same c.in-Ok-Damaged.width (g.I.Stream.remaining c.next_slice-in-Ok-Damaged.new.self) is.0 is.2 c.next_slice-in-Ok-Damaged.ensures.remains)

pub returns-clause-complete : goal.returns-clause-complete
returns-clause-complete g c =
    let r = g.I.Stream.remaining c.args.input.now in
    let t = c.as_bytes.result.now in
    let depth = c.args.depth in
    let partial = g.I.StreamIsPartial.expects_more c.args.input.now in
    let same : r ≡ units t =
    source-is g.I.Stream.is_slice g.I.Slice.AsBytes.bytes c.requires.bytes r c.peek_finish-ahead.result t (g.met.I.Stream.positive_widths c.args.input.now c.requires.valid) c.peek_finish-ahead.ensures.answer c.as_bytes.ensures in
    let is = subst (λ p. IsReading depth p t (Damaged c.in-Ok-Damaged.width)) c.is_partial.ensures (value-as depth c.is_partial.result t c.read_bytes.result c.in-Ok-Damaged.field-0 (Damaged c.in-Ok-Damaged.width) c.read_bytes.ensures c.in-Ok-Damaged.is c.in-Ok-Damaged.field-0-is) in
    λ v after h. absurd (damaged-missed depth partial r t same is.1 v after h)

pub returns-clause-onward : goal.returns-clause-onward
returns-clause-onward g c =
    let r = g.I.Stream.remaining c.args.input.now in
    let t = c.as_bytes.result.now in
    let depth = c.args.depth in
    let partial = g.I.StreamIsPartial.expects_more c.args.input.now in
    let same : r ≡ units t =
    source-is g.I.Stream.is_slice g.I.Slice.AsBytes.bytes c.requires.bytes r c.peek_finish-ahead.result t (g.met.I.Stream.positive_widths c.args.input.now c.requires.valid) c.peek_finish-ahead.ensures.answer c.as_bytes.ensures in
    let is = subst (λ p. IsReading depth p t (Damaged c.in-Ok-Damaged.width)) c.is_partial.ensures (value-as depth c.is_partial.result t c.read_bytes.result c.in-Ok-Damaged.field-0 (Damaged c.in-Ok-Damaged.width) c.read_bytes.ensures c.in-Ok-Damaged.is c.in-Ok-Damaged.field-0-is) in
    moved-to _ _ r (g.I.Stream.remaining c.next_slice-in-Ok-Damaged.new.self) c.in-Ok-Damaged.width (offset-fits r t same c.in-Ok-Damaged.width is.0) c.next_slice-in-Ok-Damaged.ensures.location c.next_slice-in-Ok-Damaged.ensures.remains
