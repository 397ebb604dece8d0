use Rattle.std.proofs.Common.{false, inl, refl}
use Rattle.format_json.specs.Language.{ValueAhead}
use Rattle.format_json.specs.Damage.{BreaksOff}
use Rattle.format_json.specs.declared.found.Found.TheVariants.{Whole, Damaged}
use Rattle.format_json.proofs.lemmas.FoundLemmas.{found-same}
use Rattle.format_json.proofs.lemmas.DocumentLemmas.{no-document, blanks-fit, only-document, more-follows, follows-place}
use Rattle.format_json.proofs.lemmas.DamageLemmas.{placed-same}
use Rattle.format_json.proofs.reading.read_document.Goals as goal

pub returns-else-offset-text-clause-damaged : goal.returns-else-offset-text-clause-damaged
returns-else-offset-text-clause-damaged c =
    let text = c.args.text.now in
    let v = c.in-Whole.value in
    let n = c.in-Whole.width in
    let found = found-same (ValueAhead false c.args.depth) false text text c.in_ok-value.field-0 (Whole v n) c.in_ok-value.ensures.found refl c.in-Whole.is in (
      blanks-fit c.args.depth text v n c.blank_count.result found c.blank_count.ensures.within c.blank_count.ensures.rest,
      more-follows c.args.depth text v n c.blank_count.result found c.blank_count.ensures.within c.blank_count.ensures.rest c.if-offset-text.false,
      follows-place c.args.depth text v n c.blank_count.result found c.blank_count.ensures.within c.blank_count.ensures.rest c.if-offset-text.false,
    )

pub returns-then-offset-text-clause-only : goal.returns-then-offset-text-clause-only
returns-then-offset-text-clause-only c =
    let text = c.args.text.now in
    let v = c.in-Whole.value in
    let n = c.in-Whole.width in
    let found = found-same (ValueAhead false c.args.depth) false text text c.in_ok-value.field-0 (Whole v n) c.in_ok-value.ensures.found refl c.in-Whole.is in
    only-document c.args.depth text v n c.blank_count.result found c.blank_count.ensures.within c.blank_count.ensures.rest

pub returns-in-Damaged-clause-damaged : goal.returns-in-Damaged-clause-damaged
returns-in-Damaged-clause-damaged c =
    let text = c.args.text.now in
    let n = c.in-Damaged.offset in
    let found = found-same (ValueAhead false c.args.depth) false text text c.in_ok-value.field-0 (Damaged n) c.in_ok-value.ensures.found refl c.in-Damaged.is in
    let place = placed-same (BreaksOff false c.args.depth) text text c.in_ok-value.field-0 (Damaged n) c.in_ok-value.ensures.place refl c.in-Damaged.is in
    (found.0, no-document c.args.depth text n found, inl place)
