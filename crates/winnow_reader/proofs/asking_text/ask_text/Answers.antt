use Rattle.std.proofs.Common.{length, subst, ◌∙◌, ap, inl, inr, ◌-◌}
use Rattle.winnow_stream.specs.Shortage.{needed}
use Rattle.winnow_parser.specs.Outcome.{Gives, Fails, Backtracks, Cuts, Needs, Refuses}
use Rattle.winnow_parser.specs.Answer.{failed}
use Rattle.winnow_wrap.specs.Flag.{flag}
use Rattle.winnow_error.specs.declared.failure.Failure.TheVariants.{Backtrack, Cut}
use Rattle.winnow_reader.specs.TextPlace.{stands_text}
use Rattle.winnow_reader.specs.Wanted.{size_of}
use Rattle.winnow_reader.proofs.lemmas.Utf8Lemmas.{answers-of, told-of-text, left-of, damage-place, damage-of, following-of}
use Rattle.winnow_reader.proofs.asking_text.ask_text.Goals as goal

pub returns-in-Ok-clause-answer : goal.returns-in-Ok-clause-answer
returns-in-Ok-clause-answer g c =
    let means = g.R.TextRecord.means c.args.parser.now in
    let front = c.text_front-damaged in
    let there = stands_text c.read-answer.new.input in
    let n = length front.result.0.now in
    let told = c.stream_over_text-input.ensures.flag ∙ c.goes_on.ensures in
    let left = left-of c.args.place c.args.bytes.now there n c.eof_offset.result c.saturating_sub-taken.result c.saturating_sub-taken.ensures front.ensures.len c.eof_offset.ensures in
    let answer = answers-of c.args.place c.args.bytes.now means c.args.partial _ n _ front.result.0.now (Gives c.in-Ok.value there) front.ensures.len front.ensures.text told c.stream_over_text-input.ensures.stands c.in-Ok.ensures.means in
    (there, (answer, left))

pub returns-in-Err-Incomplete-clause-answer : goal.returns-in-Err-Incomplete-clause-answer
returns-in-Err-Incomplete-clause-answer g c =
    let means = g.R.TextRecord.means c.args.parser.now in
    let front = c.text_front-damaged in
    let there = stands_text c.read-answer.new.input in
    let n = length front.result.0.now in
    let told = c.stream_over_text-input.ensures.flag ∙ c.goes_on.ensures in
    let given = subst (λ failure. means (flag c.stream_over_text-input.result) (stands_text c.stream_over_text-input.result) (Fails (failed failure there))) c.in-Err-Incomplete.field-0-is c.in-Err-Incomplete.ensures.means in
    let answer = answers-of c.args.place c.args.bytes.now means c.args.partial _ n _ front.result.0.now (Fails (Needs c.in-Err-Incomplete.field-0-0)) front.ensures.len front.ensures.text told c.stream_over_text-input.ensures.stands given in
    let damage = damage-of c.args.place c.args.bytes.now c.args.partial front.result.1 front.ensures.damaged ∙ c.if-damaged.true in
    inr ((damage, (c.in-Err-Incomplete.field-0-0, answer)), damage-place c.args.place c.args.bytes.now n front.ensures.len)

pub returns-in-Err-Incomplete-2-clause-answer : goal.returns-in-Err-Incomplete-2-clause-answer
returns-in-Err-Incomplete-2-clause-answer g c =
    let means = g.R.TextRecord.means c.args.parser.now in
    let front = c.text_front-damaged in
    let there = stands_text c.read-answer.new.input in
    let n = length front.result.0.now in
    let told = c.stream_over_text-input.ensures.flag ∙ c.goes_on.ensures in
    let given = subst (λ failure. means (flag c.stream_over_text-input.result) (stands_text c.stream_over_text-input.result) (Fails (failed failure there))) c.in-Err-Incomplete.field-0-is c.in-Err-Incomplete.ensures.means in
    let answer = answers-of c.args.place c.args.bytes.now means c.args.partial _ n _ front.result.0.now (Fails (Needs c.in-Err-Incomplete.field-0-0)) front.ensures.len front.ensures.text told c.stream_over_text-input.ensures.stands given in
    let whole = damage-of c.args.place c.args.bytes.now c.args.partial front.result.1 front.ensures.damaged ∙ c.if-damaged.false in
    let following = following-of c.args.place c.args.bytes.now n front.ensures.len in
    (whole, (c.in-Err-Incomplete.field-0-0, (answer, c.needed_past.ensures ∙ ap (λ k. needed (size_of c.in-Err-Incomplete.field-0-0 - k)) following)))

pub returns-in-Err-Backtrack-clause-answer : goal.returns-in-Err-Backtrack-clause-answer
returns-in-Err-Backtrack-clause-answer g c =
    let means = g.R.TextRecord.means c.args.parser.now in
    let front = c.text_front-damaged in
    let there = stands_text c.read-answer.new.input in
    let n = length front.result.0.now in
    let told = c.stream_over_text-input.ensures.flag ∙ c.goes_on.ensures in
    let left = left-of c.args.place c.args.bytes.now there n c.eof_offset.result c.saturating_sub-taken.result c.saturating_sub-taken.ensures front.ensures.len c.eof_offset.ensures in
    let given = subst (λ failure. means (flag c.stream_over_text-input.result) (stands_text c.stream_over_text-input.result) (Fails (failed failure there))) c.in-Err-Backtrack.field-0-is c.in-Err-Backtrack.ensures.means in
    let answer = answers-of c.args.place c.args.bytes.now means c.args.partial _ n _ front.result.0.now (Fails (Backtracks there)) front.ensures.len front.ensures.text told c.stream_over_text-input.ensures.stands given in
    (there, (answer, left))

pub returns-in-Err-Cut-clause-answer : goal.returns-in-Err-Cut-clause-answer
returns-in-Err-Cut-clause-answer g c =
    let means = g.R.TextRecord.means c.args.parser.now in
    let front = c.text_front-damaged in
    let there = stands_text c.read-answer.new.input in
    let n = length front.result.0.now in
    let told = c.stream_over_text-input.ensures.flag ∙ c.goes_on.ensures in
    let left = left-of c.args.place c.args.bytes.now there n c.eof_offset.result c.saturating_sub-taken.result c.saturating_sub-taken.ensures front.ensures.len c.eof_offset.ensures in
    let given = subst (λ failure. means (flag c.stream_over_text-input.result) (stands_text c.stream_over_text-input.result) (Fails (failed failure there))) c.in-Err-Cut.field-0-is c.in-Err-Cut.ensures.means in
    let answer = answers-of c.args.place c.args.bytes.now means c.args.partial _ n _ front.result.0.now (Fails (Cuts there)) front.ensures.len front.ensures.text told c.stream_over_text-input.ensures.stands given in
    inl (there, (answer, left))

pub returns-in-Err-Refused-clause-answer : goal.returns-in-Err-Refused-clause-answer
returns-in-Err-Refused-clause-answer g c =
    let means = g.R.TextRecord.means c.args.parser.now in
    let front = c.text_front-damaged in
    let there = stands_text c.read-answer.new.input in
    let n = length front.result.0.now in
    let told = c.stream_over_text-input.ensures.flag ∙ c.goes_on.ensures in
    let given = subst (λ failure. means (flag c.stream_over_text-input.result) (stands_text c.stream_over_text-input.result) (Fails (failed failure there))) c.in-Err-Refused.field-0-is c.in-Err-Refused.ensures.means in
    let answer = answers-of c.args.place c.args.bytes.now means c.args.partial _ n _ front.result.0.now (Fails Refuses) front.ensures.len front.ensures.text told c.stream_over_text-input.ensures.stands given in
    answer

pub returns-in-Err-Incomplete-clause-damage : goal.returns-in-Err-Incomplete-clause-damage
returns-in-Err-Incomplete-clause-damage g c =
    let means = g.R.TextRecord.means c.args.parser.now in
    let front = c.text_front-damaged in
    let there = stands_text c.read-answer.new.input in
    let n = length front.result.0.now in
    let told = c.stream_over_text-input.ensures.flag ∙ c.goes_on.ensures in
    let given = subst (λ failure. means (flag c.stream_over_text-input.result) (stands_text c.stream_over_text-input.result) (Fails (failed failure there))) c.in-Err-Incomplete.field-0-is c.in-Err-Incomplete.ensures.means in
    let answer = answers-of c.args.place c.args.bytes.now means c.args.partial _ n _ front.result.0.now (Fails (Needs c.in-Err-Incomplete.field-0-0)) front.ensures.len front.ensures.text told c.stream_over_text-input.ensures.stands given in
    let damage = damage-of c.args.place c.args.bytes.now c.args.partial front.result.1 front.ensures.damaged ∙ c.if-damaged.true in
    ((damage, (c.in-Err-Incomplete.field-0-0, answer)), damage-place c.args.place c.args.bytes.now n front.ensures.len)

pub returns-in-Err-Backtrack-clause-damage : goal.returns-in-Err-Backtrack-clause-damage
returns-in-Err-Backtrack-clause-damage g c =
    let means = g.R.TextRecord.means c.args.parser.now in
    let front = c.text_front-damaged in
    let there = stands_text c.read-answer.new.input in
    let n = length front.result.0.now in
    let told = c.stream_over_text-input.ensures.flag ∙ c.goes_on.ensures in
    let left = left-of c.args.place c.args.bytes.now there n c.eof_offset.result c.saturating_sub-taken.result c.saturating_sub-taken.ensures front.ensures.len c.eof_offset.ensures in
    let given = subst (λ failure. means (flag c.stream_over_text-input.result) (stands_text c.stream_over_text-input.result) (Fails (failed failure there))) c.in-Err-Backtrack.field-0-is c.in-Err-Backtrack.ensures.means in
    let answer = answers-of c.args.place c.args.bytes.now means c.args.partial _ n _ front.result.0.now (Fails (Backtracks there)) front.ensures.len front.ensures.text told c.stream_over_text-input.ensures.stands given in
    (there, (answer, left))

pub returns-in-Err-Backtrack-clause-error : goal.returns-in-Err-Backtrack-clause-error
returns-in-Err-Backtrack-clause-error g c =
    let errors = g.R.TextRecord.errors c.args.parser.now in
    let front = c.text_front-damaged in
    let input = c.stream_over_text-input.result in
    let there = stands_text c.read-answer.new.input in
    let n = length front.result.0.now in
    let told = c.stream_over_text-input.ensures.flag ∙ c.goes_on.ensures in
    let left = left-of c.args.place c.args.bytes.now there n c.eof_offset.result c.saturating_sub-taken.result c.saturating_sub-taken.ensures front.ensures.len c.eof_offset.ensures in
    let given = subst (λ failure. errors (flag input) (stands_text input) there failure) c.in-Err-Backtrack.field-0-is c.in-Err-Backtrack.ensures.error in
    (there, (told-of-text c.args.place c.args.bytes.now (λ more a. errors more a there (Backtrack c.in-Err-Backtrack.error)) c.args.partial _ n _ front.result.0.now front.ensures.len front.ensures.text told c.stream_over_text-input.ensures.stands given, left))

pub returns-in-Err-Cut-clause-damage : goal.returns-in-Err-Cut-clause-damage
returns-in-Err-Cut-clause-damage g c =
    let means = g.R.TextRecord.means c.args.parser.now in
    let front = c.text_front-damaged in
    let there = stands_text c.read-answer.new.input in
    let n = length front.result.0.now in
    let told = c.stream_over_text-input.ensures.flag ∙ c.goes_on.ensures in
    let left = left-of c.args.place c.args.bytes.now there n c.eof_offset.result c.saturating_sub-taken.result c.saturating_sub-taken.ensures front.ensures.len c.eof_offset.ensures in
    let given = subst (λ failure. means (flag c.stream_over_text-input.result) (stands_text c.stream_over_text-input.result) (Fails (failed failure there))) c.in-Err-Cut.field-0-is c.in-Err-Cut.ensures.means in
    let answer = answers-of c.args.place c.args.bytes.now means c.args.partial _ n _ front.result.0.now (Fails (Cuts there)) front.ensures.len front.ensures.text told c.stream_over_text-input.ensures.stands given in
    (there, (answer, left))

pub returns-in-Err-Cut-clause-error : goal.returns-in-Err-Cut-clause-error
returns-in-Err-Cut-clause-error g c =
    let errors = g.R.TextRecord.errors c.args.parser.now in
    let front = c.text_front-damaged in
    let input = c.stream_over_text-input.result in
    let there = stands_text c.read-answer.new.input in
    let n = length front.result.0.now in
    let told = c.stream_over_text-input.ensures.flag ∙ c.goes_on.ensures in
    let left = left-of c.args.place c.args.bytes.now there n c.eof_offset.result c.saturating_sub-taken.result c.saturating_sub-taken.ensures front.ensures.len c.eof_offset.ensures in
    let given = subst (λ failure. errors (flag input) (stands_text input) there failure) c.in-Err-Cut.field-0-is c.in-Err-Cut.ensures.error in
    (there, (told-of-text c.args.place c.args.bytes.now (λ more a. errors more a there (Cut c.in-Err-Cut.error)) c.args.partial _ n _ front.result.0.now front.ensures.len front.ensures.text told c.stream_over_text-input.ensures.stands given, left))
