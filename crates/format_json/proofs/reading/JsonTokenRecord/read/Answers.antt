use Rattle.std.proofs.Common.{ap, sym, ◌∙◌, subst}
use Rattle.winnow_stream.specs.Source.{units}
use Rattle.winnow_stream.proofs.lemmas.UnitLemmas.{front-units, units-same}
use Rattle.format_json.specs.Language.{after_blanks}
use Rattle.format_json.specs.TokenAnswers.{IsTokenFound}
use Rattle.format_json.specs.declared.found.Found.TheVariants.{Whole, Begun, Damaged}
use Rattle.format_json_scalars.proofs.lemmas.StringStreamLemmas.{moved-to, offset-fits}
use Rattle.format_json.proofs.lemmas.TokenStreamLemmas.{token-as, token-answers, damage-answers, begun-answers}
use Rattle.format_json.proofs.reading.JsonTokenRecord.read.Goals as goal

pub next_slice-requires-clause-offset : goal.next_slice-requires-clause-offset
next_slice-requires-clause-offset c =
    let now = c.args.input.now.input.input.now in
    let t = c.peek_finish-bytes.result.now in
    let same = ap units (sym (units-same t now (c.peek_finish-bytes.ensures.answer ∙ sym (front-units now)))) in
    let is = token-as c.is_partial.result t (after_blanks t) c.token_at.result c.in-Ok-Whole.field-0 (Whole c.in-Ok-Whole.token c.in-Ok-Whole.width) c.token_at.ensures c.in-Ok-Whole.is c.in-Ok-Whole.field-0-is in
    offset-fits (units now) t same c.in-Ok-Whole.width is.0

pub next_slice-requires-in-Ok-Damaged-clause-offset :
    goal.next_slice-requires-in-Ok-Damaged-clause-offset
next_slice-requires-in-Ok-Damaged-clause-offset c =
    let now = c.args.input.now.input.input.now in
    let t = c.peek_finish-bytes.result.now in
    let same = ap units (sym (units-same t now (c.peek_finish-bytes.ensures.answer ∙ sym (front-units now)))) in
    let is = token-as c.is_partial.result t (after_blanks t) c.token_at.result c.in-Ok-Damaged.field-0 (Damaged c.in-Ok-Damaged.width) c.token_at.ensures c.in-Ok-Damaged.is c.in-Ok-Damaged.field-0-is in
    offset-fits (units now) t same c.in-Ok-Damaged.width is.0

pub returns-in-Ok-Begun-clause-means : goal.returns-in-Ok-Begun-clause-means
returns-in-Ok-Begun-clause-means c =
    let now = c.args.input.now.input.input.now in
    let t = c.peek_finish-bytes.result.now in
    let same = ap units (sym (units-same t now (c.peek_finish-bytes.ensures.answer ∙ sym (front-units now)))) in
    let is = token-as c.is_partial.result t (after_blanks t) c.token_at.result c.in-Ok-Begun.field-0 Begun c.token_at.ensures c.in-Ok-Begun.is c.in-Ok-Begun.field-0-is in
    let needs = begun-answers c.is_partial.result (units now) t same is in
    (sym c.is_partial.ensures ∙ needs.0, c.new.ensures, needs.1)

pub returns-in-Ok-Whole-clause-means : goal.returns-in-Ok-Whole-clause-means
returns-in-Ok-Whole-clause-means c =
    let now = c.args.input.now.input.input.now in
    let new = units c.next_slice.new.self.input.input.now in
    let t = c.peek_finish-bytes.result.now in
    let same = ap units (sym (units-same t now (c.peek_finish-bytes.ensures.answer ∙ sym (front-units now)))) in
    let n = c.in-Ok-Whole.width in
    let is = subst (λ p. IsTokenFound p t (after_blanks t) (Whole c.in-Ok-Whole.token n)) c.is_partial.ensures
    (token-as c.is_partial.result t (after_blanks t) c.token_at.result c.in-Ok-Whole.field-0 (Whole c.in-Ok-Whole.token n) c.token_at.ensures c.in-Ok-Whole.is c.in-Ok-Whole.field-0-is) in (
      moved-to _ _ (units now) new n (offset-fits (units now) t same n is.0) c.next_slice.ensures.location c.next_slice.ensures.remains,
      token-answers _ (units now) t same c.in-Ok-Whole.token n new is c.next_slice.ensures.remains,
    )

pub returns-in-Ok-Damaged-clause-means : goal.returns-in-Ok-Damaged-clause-means
returns-in-Ok-Damaged-clause-means c =
    let now = c.args.input.now.input.input.now in
    let new = units c.next_slice-in-Ok-Damaged.new.self.input.input.now in
    let t = c.peek_finish-bytes.result.now in
    let same = ap units (sym (units-same t now (c.peek_finish-bytes.ensures.answer ∙ sym (front-units now)))) in
    let n = c.in-Ok-Damaged.width in
    let is = subst (λ p. IsTokenFound p t (after_blanks t) (Damaged n)) c.is_partial.ensures
    (token-as c.is_partial.result t (after_blanks t) c.token_at.result c.in-Ok-Damaged.field-0 (Damaged n) c.token_at.ensures c.in-Ok-Damaged.is c.in-Ok-Damaged.field-0-is) in (
      moved-to _ _ (units now) new n (offset-fits (units now) t same n is.0) c.next_slice-in-Ok-Damaged.ensures.location c.next_slice-in-Ok-Damaged.ensures.remains,
      damage-answers _ (units now) t same n new is c.next_slice-in-Ok-Damaged.ensures.remains,
    )
