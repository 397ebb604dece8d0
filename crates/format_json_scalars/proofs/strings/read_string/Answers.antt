use Rattle.std.proofs.Common.{◌≡◌, refl, sym, ◌∙◌, subst}
use Rattle.winnow_stream.specs.Source.{units}
use Rattle.format_lemmas.specs.Bytes.{StartsWith}
use Rattle.format_json_scalars.specs.declared.strings.Reading.TheVariants.{Nothing, Missing, Whole, Begun, Damaged}
use Rattle.format_json_scalars.proofs.lemmas.StringLemmas.{begun-missed, damaged-missed, missing-missed}
use Rattle.format_json_scalars.proofs.lemmas.StringStreamLemmas.{source-is, read-as, moved-to, offset-fits, missed, no-quote, not-empty, whole-answers, whole-once, damaged-cuts, begun-cuts, begun-needs, nothing-needs}
use Rattle.format_json_scalars.proofs.strings.read_string.Goals as goal

pub returns-in-Ok-Nothing-clause-answer : goal.returns-in-Ok-Nothing-clause-answer
returns-in-Ok-Nothing-clause-answer g c =
    let r = g.I.Stream.remaining c.args.input.now in
    let t = c.as_bytes.result.now in
    let same : r ≡ units t =
    source-is g.I.Stream.is_slice g.I.Slice.AsBytes.bytes c.requires.bytes r c.peek_finish-ahead.result t (g.met.I.Stream.positive_widths c.args.input.now c.requires.valid) c.peek_finish-ahead.ensures.answer c.as_bytes.ensures in
    let is = read-as t c.read_bytes.result c.in-Ok-Nothing.field-0 Nothing c.read_bytes.ensures c.in-Ok-Nothing.is c.in-Ok-Nothing.field-0-is in
    (sym c.if-is_partial.ensures, nothing-needs r t same is)

pub returns-in-Ok-Nothing-clause-complete : goal.returns-in-Ok-Nothing-clause-complete
returns-in-Ok-Nothing-clause-complete g c =
    let r = g.I.Stream.remaining c.args.input.now in
    let t = c.as_bytes.result.now in
    let same : r ≡ units t =
    source-is g.I.Stream.is_slice g.I.Slice.AsBytes.bytes c.requires.bytes r c.peek_finish-ahead.result t (g.met.I.Stream.positive_widths c.args.input.now c.requires.valid) c.peek_finish-ahead.ensures.answer c.as_bytes.ensures in
    let is = read-as t c.read_bytes.result c.in-Ok-Nothing.field-0 Nothing c.read_bytes.ensures c.in-Ok-Nothing.is c.in-Ok-Nothing.field-0-is in
    λ ds after. missed r t same ds after (missing-missed t ds after (subst (λ l. ¬ (StartsWith 34 l)) (sym is) (λ e. e)))

pub returns-in-Ok-Nothing-2-clause-answer : goal.returns-in-Ok-Nothing-2-clause-answer
returns-in-Ok-Nothing-2-clause-answer g c =
    let r = g.I.Stream.remaining c.args.input.now in
    let t = c.as_bytes.result.now in
    let same : r ≡ units t =
    source-is g.I.Stream.is_slice g.I.Slice.AsBytes.bytes c.requires.bytes r c.peek_finish-ahead.result t (g.met.I.Stream.positive_widths c.args.input.now c.requires.valid) c.peek_finish-ahead.ensures.answer c.as_bytes.ensures in
    let is = read-as t c.read_bytes.result c.in-Ok-Nothing.field-0 Nothing c.read_bytes.ensures c.in-Ok-Nothing.is c.in-Ok-Nothing.field-0-is in
    (refl, no-quote r t same (subst (λ l. ¬ (StartsWith 34 l)) (sym is) (λ e. e)), λ more. absurd (let f = c.if-is_partial.ensures ∙ more in cc f))

pub returns-in-Ok-Nothing-2-clause-complete : goal.returns-in-Ok-Nothing-2-clause-complete
returns-in-Ok-Nothing-2-clause-complete g c =
    let r = g.I.Stream.remaining c.args.input.now in
    let t = c.as_bytes.result.now in
    let same : r ≡ units t =
    source-is g.I.Stream.is_slice g.I.Slice.AsBytes.bytes c.requires.bytes r c.peek_finish-ahead.result t (g.met.I.Stream.positive_widths c.args.input.now c.requires.valid) c.peek_finish-ahead.ensures.answer c.as_bytes.ensures in
    let is = read-as t c.read_bytes.result c.in-Ok-Nothing.field-0 Nothing c.read_bytes.ensures c.in-Ok-Nothing.is c.in-Ok-Nothing.field-0-is in
    λ ds after. missed r t same ds after (missing-missed t ds after (subst (λ l. ¬ (StartsWith 34 l)) (sym is) (λ e. e)))

pub returns-in-Ok-Missing-clause-answer : goal.returns-in-Ok-Missing-clause-answer
returns-in-Ok-Missing-clause-answer g c =
    let r = g.I.Stream.remaining c.args.input.now in
    let t = c.as_bytes.result.now in
    let same : r ≡ units t =
    source-is g.I.Stream.is_slice g.I.Slice.AsBytes.bytes c.requires.bytes r c.peek_finish-ahead.result t (g.met.I.Stream.positive_widths c.args.input.now c.requires.valid) c.peek_finish-ahead.ensures.answer c.as_bytes.ensures in
    let is = read-as t c.read_bytes.result c.in-Ok-Missing.field-0 Missing c.read_bytes.ensures c.in-Ok-Missing.is c.in-Ok-Missing.field-0-is in
    (refl, no-quote r t same is.1, λ more. not-empty r t same is.0)

pub returns-in-Ok-Missing-clause-complete : goal.returns-in-Ok-Missing-clause-complete
returns-in-Ok-Missing-clause-complete g c =
    let r = g.I.Stream.remaining c.args.input.now in
    let t = c.as_bytes.result.now in
    let same : r ≡ units t =
    source-is g.I.Stream.is_slice g.I.Slice.AsBytes.bytes c.requires.bytes r c.peek_finish-ahead.result t (g.met.I.Stream.positive_widths c.args.input.now c.requires.valid) c.peek_finish-ahead.ensures.answer c.as_bytes.ensures in
    let is = read-as t c.read_bytes.result c.in-Ok-Missing.field-0 Missing c.read_bytes.ensures c.in-Ok-Missing.is c.in-Ok-Missing.field-0-is in
    λ ds after. missed r t same ds after (missing-missed t ds after is.1)

pub next_slice-requires-clause-offset : goal.next_slice-requires-clause-offset
next_slice-requires-clause-offset g c =
    let r = g.I.Stream.remaining c.args.input.now in
    let t = c.as_bytes.result.now in
    let same : r ≡ units t =
    source-is g.I.Stream.is_slice g.I.Slice.AsBytes.bytes c.requires.bytes r c.peek_finish-ahead.result t (g.met.I.Stream.positive_widths c.args.input.now c.requires.valid) c.peek_finish-ahead.ensures.answer c.as_bytes.ensures in
    let is = read-as t c.read_bytes.result c.in-Ok-Whole.field-0 (Whole c.in-Ok-Whole.value c.in-Ok-Whole.width) c.read_bytes.ensures c.in-Ok-Whole.is c.in-Ok-Whole.field-0-is in
    offset-fits r t same c.in-Ok-Whole.width is.0

pub returns-in-Ok-Whole-clause-answer : goal.returns-in-Ok-Whole-clause-answer
returns-in-Ok-Whole-clause-answer g c =
    let r = g.I.Stream.remaining c.args.input.now in
    let t = c.as_bytes.result.now in
    let same : r ≡ units t =
    source-is g.I.Stream.is_slice g.I.Slice.AsBytes.bytes c.requires.bytes r c.peek_finish-ahead.result t (g.met.I.Stream.positive_widths c.args.input.now c.requires.valid) c.peek_finish-ahead.ensures.answer c.as_bytes.ensures in
    let is = read-as t c.read_bytes.result c.in-Ok-Whole.field-0 (Whole c.in-Ok-Whole.value c.in-Ok-Whole.width) c.read_bytes.ensures c.in-Ok-Whole.is c.in-Ok-Whole.field-0-is in
    whole-answers r t same c.in-Ok-Whole.value c.in-Ok-Whole.width (g.I.Stream.remaining c.next_slice.new.self) is c.next_slice.ensures.remains

pub returns-in-Ok-Whole-clause-complete : goal.returns-in-Ok-Whole-clause-complete
returns-in-Ok-Whole-clause-complete g c =
    let r = g.I.Stream.remaining c.args.input.now in
    let t = c.as_bytes.result.now in
    let same : r ≡ units t =
    source-is g.I.Stream.is_slice g.I.Slice.AsBytes.bytes c.requires.bytes r c.peek_finish-ahead.result t (g.met.I.Stream.positive_widths c.args.input.now c.requires.valid) c.peek_finish-ahead.ensures.answer c.as_bytes.ensures in
    let is = read-as t c.read_bytes.result c.in-Ok-Whole.field-0 (Whole c.in-Ok-Whole.value c.in-Ok-Whole.width) c.read_bytes.ensures c.in-Ok-Whole.is c.in-Ok-Whole.field-0-is in
    whole-once r t same c.in-Ok-Whole.value c.in-Ok-Whole.width (g.I.Stream.remaining c.next_slice.new.self) is c.next_slice.ensures.remains

pub returns-in-Ok-Whole-clause-onward : goal.returns-in-Ok-Whole-clause-onward
returns-in-Ok-Whole-clause-onward g c =
    let r = g.I.Stream.remaining c.args.input.now in
    let t = c.as_bytes.result.now in
    let same : r ≡ units t =
    source-is g.I.Stream.is_slice g.I.Slice.AsBytes.bytes c.requires.bytes r c.peek_finish-ahead.result t (g.met.I.Stream.positive_widths c.args.input.now c.requires.valid) c.peek_finish-ahead.ensures.answer c.as_bytes.ensures in
    let is = read-as t c.read_bytes.result c.in-Ok-Whole.field-0 (Whole c.in-Ok-Whole.value c.in-Ok-Whole.width) c.read_bytes.ensures c.in-Ok-Whole.is c.in-Ok-Whole.field-0-is in
    moved-to _ _ r (g.I.Stream.remaining c.next_slice.new.self) c.in-Ok-Whole.width (offset-fits r t same c.in-Ok-Whole.width is.0) c.next_slice.ensures.location c.next_slice.ensures.remains

pub returns-in-Ok-Begun-clause-answer : goal.returns-in-Ok-Begun-clause-answer
returns-in-Ok-Begun-clause-answer g c =
    let r = g.I.Stream.remaining c.args.input.now in
    let t = c.as_bytes.result.now in
    let same : r ≡ units t =
    source-is g.I.Stream.is_slice g.I.Slice.AsBytes.bytes c.requires.bytes r c.peek_finish-ahead.result t (g.met.I.Stream.positive_widths c.args.input.now c.requires.valid) c.peek_finish-ahead.ensures.answer c.as_bytes.ensures in
    let is = read-as t c.read_bytes.result c.in-Ok-Begun.field-0 (Begun c.in-Ok-Begun.field-0-0) c.read_bytes.ensures c.in-Ok-Begun.is c.in-Ok-Begun.field-0-is in
    (sym c.if-is_partial-2.ensures, begun-needs r t same c.in-Ok-Begun.field-0-0 is)

pub returns-in-Ok-Begun-clause-complete : goal.returns-in-Ok-Begun-clause-complete
returns-in-Ok-Begun-clause-complete g c =
    let r = g.I.Stream.remaining c.args.input.now in
    let t = c.as_bytes.result.now in
    let same : r ≡ units t =
    source-is g.I.Stream.is_slice g.I.Slice.AsBytes.bytes c.requires.bytes r c.peek_finish-ahead.result t (g.met.I.Stream.positive_widths c.args.input.now c.requires.valid) c.peek_finish-ahead.ensures.answer c.as_bytes.ensures in
    let is = read-as t c.read_bytes.result c.in-Ok-Begun.field-0 (Begun c.in-Ok-Begun.field-0-0) c.read_bytes.ensures c.in-Ok-Begun.is c.in-Ok-Begun.field-0-is in
    λ ds after. missed r t same ds after (begun-missed t ds after c.in-Ok-Begun.field-0-0 is)

pub next_slice-requires-in-Ok-Begun-2-clause-offset : goal.next_slice-requires-in-Ok-Begun-2-clause-offset
next_slice-requires-in-Ok-Begun-2-clause-offset g c =
    let r = g.I.Stream.remaining c.args.input.now in
    let t = c.as_bytes.result.now in
    let same : r ≡ units t =
    source-is g.I.Stream.is_slice g.I.Slice.AsBytes.bytes c.requires.bytes r c.peek_finish-ahead.result t (g.met.I.Stream.positive_widths c.args.input.now c.requires.valid) c.peek_finish-ahead.ensures.answer c.as_bytes.ensures in
    let is = read-as t c.read_bytes.result c.in-Ok-Begun.field-0 (Begun c.in-Ok-Begun.field-0-0) c.read_bytes.ensures c.in-Ok-Begun.is c.in-Ok-Begun.field-0-is in
    offset-fits r t same c.in-Ok-Begun.field-0-0 is.0.0

pub returns-in-Ok-Begun-2-clause-answer : goal.returns-in-Ok-Begun-2-clause-answer
returns-in-Ok-Begun-2-clause-answer g c =
    let r = g.I.Stream.remaining c.args.input.now in
    let t = c.as_bytes.result.now in
    let same : r ≡ units t =
    source-is g.I.Stream.is_slice g.I.Slice.AsBytes.bytes c.requires.bytes r c.peek_finish-ahead.result t (g.met.I.Stream.positive_widths c.args.input.now c.requires.valid) c.peek_finish-ahead.ensures.answer c.as_bytes.ensures in
    let is = read-as t c.read_bytes.result c.in-Ok-Begun.field-0 (Begun c.in-Ok-Begun.field-0-0) c.read_bytes.ensures c.in-Ok-Begun.is c.in-Ok-Begun.field-0-is in
    begun-cuts r t same (g.I.StreamIsPartial.expects_more c.args.input.now) c.in-Ok-Begun.field-0-0 (g.I.Stream.remaining c.next_slice-in-Ok-Begun-2.new.self) (sym c.if-is_partial-2.ensures) is c.next_slice-in-Ok-Begun-2.ensures.remains

pub returns-in-Ok-Begun-2-clause-complete : goal.returns-in-Ok-Begun-2-clause-complete
returns-in-Ok-Begun-2-clause-complete g c =
    let r = g.I.Stream.remaining c.args.input.now in
    let t = c.as_bytes.result.now in
    let same : r ≡ units t =
    source-is g.I.Stream.is_slice g.I.Slice.AsBytes.bytes c.requires.bytes r c.peek_finish-ahead.result t (g.met.I.Stream.positive_widths c.args.input.now c.requires.valid) c.peek_finish-ahead.ensures.answer c.as_bytes.ensures in
    let is = read-as t c.read_bytes.result c.in-Ok-Begun.field-0 (Begun c.in-Ok-Begun.field-0-0) c.read_bytes.ensures c.in-Ok-Begun.is c.in-Ok-Begun.field-0-is in
    λ ds after. missed r t same ds after (begun-missed t ds after c.in-Ok-Begun.field-0-0 is)

pub returns-in-Ok-Begun-2-clause-onward : goal.returns-in-Ok-Begun-2-clause-onward
returns-in-Ok-Begun-2-clause-onward g c =
    let r = g.I.Stream.remaining c.args.input.now in
    let t = c.as_bytes.result.now in
    let same : r ≡ units t =
    source-is g.I.Stream.is_slice g.I.Slice.AsBytes.bytes c.requires.bytes r c.peek_finish-ahead.result t (g.met.I.Stream.positive_widths c.args.input.now c.requires.valid) c.peek_finish-ahead.ensures.answer c.as_bytes.ensures in
    let is = read-as t c.read_bytes.result c.in-Ok-Begun.field-0 (Begun c.in-Ok-Begun.field-0-0) c.read_bytes.ensures c.in-Ok-Begun.is c.in-Ok-Begun.field-0-is in
    moved-to _ _ r (g.I.Stream.remaining c.next_slice-in-Ok-Begun-2.new.self) c.in-Ok-Begun.field-0-0 (offset-fits r t same c.in-Ok-Begun.field-0-0 is.0.0) c.next_slice-in-Ok-Begun-2.ensures.location c.next_slice-in-Ok-Begun-2.ensures.remains

pub next_slice-requires-in-Ok-Damaged-clause-offset : goal.next_slice-requires-in-Ok-Damaged-clause-offset
next_slice-requires-in-Ok-Damaged-clause-offset g c =
    let r = g.I.Stream.remaining c.args.input.now in
    let t = c.as_bytes.result.now in
    let same : r ≡ units t =
    source-is g.I.Stream.is_slice g.I.Slice.AsBytes.bytes c.requires.bytes r c.peek_finish-ahead.result t (g.met.I.Stream.positive_widths c.args.input.now c.requires.valid) c.peek_finish-ahead.ensures.answer c.as_bytes.ensures in
    let is = read-as t c.read_bytes.result c.in-Ok-Damaged.field-0 (Damaged c.in-Ok-Damaged.width) c.read_bytes.ensures c.in-Ok-Damaged.is c.in-Ok-Damaged.field-0-is in
    offset-fits r t same c.in-Ok-Damaged.width is.0.0

pub returns-clause-answer : goal.returns-clause-answer
returns-clause-answer g c =
    let r = g.I.Stream.remaining c.args.input.now in
    let t = c.as_bytes.result.now in
    let same : r ≡ units t =
    source-is g.I.Stream.is_slice g.I.Slice.AsBytes.bytes c.requires.bytes r c.peek_finish-ahead.result t (g.met.I.Stream.positive_widths c.args.input.now c.requires.valid) c.peek_finish-ahead.ensures.answer c.as_bytes.ensures in
    let is = read-as t c.read_bytes.result c.in-Ok-Damaged.field-0 (Damaged c.in-Ok-Damaged.width) c.read_bytes.ensures c.in-Ok-Damaged.is c.in-Ok-Damaged.field-0-is in
    damaged-cuts r t same (g.I.StreamIsPartial.expects_more c.args.input.now) c.in-Ok-Damaged.width (g.I.Stream.remaining c.next_slice-in-Ok-Damaged.new.self) is c.next_slice-in-Ok-Damaged.ensures.remains

pub returns-clause-complete : goal.returns-clause-complete
returns-clause-complete g c =
    let r = g.I.Stream.remaining c.args.input.now in
    let t = c.as_bytes.result.now in
    let same : r ≡ units t =
    source-is g.I.Stream.is_slice g.I.Slice.AsBytes.bytes c.requires.bytes r c.peek_finish-ahead.result t (g.met.I.Stream.positive_widths c.args.input.now c.requires.valid) c.peek_finish-ahead.ensures.answer c.as_bytes.ensures in
    let is = read-as t c.read_bytes.result c.in-Ok-Damaged.field-0 (Damaged c.in-Ok-Damaged.width) c.read_bytes.ensures c.in-Ok-Damaged.is c.in-Ok-Damaged.field-0-is in
    λ ds after. missed r t same ds after (damaged-missed t ds after c.in-Ok-Damaged.width is)

pub returns-clause-onward : goal.returns-clause-onward
returns-clause-onward g c =
    let r = g.I.Stream.remaining c.args.input.now in
    let t = c.as_bytes.result.now in
    let same : r ≡ units t =
    source-is g.I.Stream.is_slice g.I.Slice.AsBytes.bytes c.requires.bytes r c.peek_finish-ahead.result t (g.met.I.Stream.positive_widths c.args.input.now c.requires.valid) c.peek_finish-ahead.ensures.answer c.as_bytes.ensures in
    let is = read-as t c.read_bytes.result c.in-Ok-Damaged.field-0 (Damaged c.in-Ok-Damaged.width) c.read_bytes.ensures c.in-Ok-Damaged.is c.in-Ok-Damaged.field-0-is in
    moved-to _ _ r (g.I.Stream.remaining c.next_slice-in-Ok-Damaged.new.self) c.in-Ok-Damaged.width (offset-fits r t same c.in-Ok-Damaged.width is.0.0) c.next_slice-in-Ok-Damaged.ensures.location c.next_slice-in-Ok-Damaged.ensures.remains
