use Rattle.std.specs.Prelude.{min}
use Rattle.std.proofs.Common.{◌≡◌, ◌+◌, ◌-◌, length, subst, ◌∙◌, ap, inl, inr, arith}
use Rattle.winnow_stream.specs.Shortage.{needed}
use Rattle.winnow_stream.proofs.lemmas.UnitLemmas.{length-units}
use Rattle.winnow_parser.specs.Outcome.{Gives, Fails, Backtracks, Cuts, Needs, Refuses}
use Rattle.winnow_parser.specs.Answer.{failed}
use Rattle.winnow_wrap.specs.Flag.{flag, partial_inner}
use Rattle.winnow_wrap.specs.Located.{locating_inner, location_of}
use Rattle.winnow_error.specs.declared.failure.Failure.TheVariants.{Backtrack, Cut}
use Rattle.winnow_reader.specs.Place.{stands, bytes_at}
use Rattle.winnow_reader.specs.Wanted.{size_of}
use Rattle.winnow_reader.specs.First.{first_ahead, goes_on}
use Rattle.winnow_reader_limit.proofs.lemmas.FirstLemmas.{answers-of, left-of, still-of, over-of, within-of}
use Rattle.winnow_reader_limit.proofs.asking.ask_first.Goals as goal

pub returns-in-Ok-clause-answer : goal.returns-in-Ok-clause-answer
returns-in-Ok-clause-answer g c =
    let means = g.R.Record.means c.args.inner.now in
    let new = c.read-answer.new.input in
    let there = stands new in
    let told = c.stream_over-input.ensures.flag ∙ c.goes_on.ensures in
    let answer = answers-of c.args.greatest c.args.place c.args.bytes.now means c.args.partial _ c.is_over-over.result _ c.first_of-first.result.now (Gives c.in-Ok.value there) c.first_of-first.ensures c.is_over-over.ensures told c.stream_over-input.ensures.stands c.in-Ok.ensures.means in
    let rest = (locating_inner (partial_inner new)).now in
    let moves = (g.met.R.Record.lawful c.args.inner.now).onward (goes_on c.args.greatest c.args.partial (bytes_at c.args.place c.args.bytes.now)) (first_ahead c.args.greatest (bytes_at c.args.place c.args.bytes.now)) (Gives c.in-Ok.value there) answer in
    let left = left-of c.args.greatest c.args.place c.args.bytes.now (location_of (partial_inner new)) rest c.first_of-first.result.now c.saturating_sub-taken.result c.eof_offset.result moves c.first_of-first.ensures c.saturating_sub-taken.ensures c.eof_offset.ensures in
    (there, (answer, left))

pub returns-in-Err-Incomplete-clause-answer : goal.returns-in-Err-Incomplete-clause-answer
returns-in-Err-Incomplete-clause-answer g c =
    let means = g.R.Record.means c.args.inner.now in
    let new = c.read-answer.new.input in
    let there = stands new in
    let told = c.stream_over-input.ensures.flag ∙ c.goes_on.ensures in
    let given = subst (λ failure. means (flag c.stream_over-input.result) (stands c.stream_over-input.result) (Fails (failed failure there))) c.in-Err-Incomplete.field-0-is c.in-Err-Incomplete.ensures.means in
    let answer = answers-of c.args.greatest c.args.place c.args.bytes.now means c.args.partial _ c.is_over-over.result _ c.first_of-first.result.now (Fails (Needs c.in-Err-Incomplete.field-0-0)) c.first_of-first.ensures c.is_over-over.ensures told c.stream_over-input.ensures.stands given in
    let over = over-of c.args.greatest (length c.args.bytes.now) c.is_over-over.result c.is_over-over.ensures c.if-over.true in
    inr ((omega (arith, over, length-units c.args.bytes.now), (c.in-Err-Incomplete.field-0-0, answer)), still-of c.args.place c.args.bytes.now)

pub returns-in-Err-Incomplete-2-clause-answer : goal.returns-in-Err-Incomplete-2-clause-answer
returns-in-Err-Incomplete-2-clause-answer g c =
    let means = g.R.Record.means c.args.inner.now in
    let new = c.read-answer.new.input in
    let there = stands new in
    let told = c.stream_over-input.ensures.flag ∙ c.goes_on.ensures in
    let given = subst (λ failure. means (flag c.stream_over-input.result) (stands c.stream_over-input.result) (Fails (failed failure there))) c.in-Err-Incomplete.field-0-is c.in-Err-Incomplete.ensures.means in
    let answer = answers-of c.args.greatest c.args.place c.args.bytes.now means c.args.partial _ c.is_over-over.result _ c.first_of-first.result.now (Fails (Needs c.in-Err-Incomplete.field-0-0)) c.first_of-first.ensures c.is_over-over.ensures told c.stream_over-input.ensures.stands given in
    let len = length-units c.args.bytes.now in
    let within = within-of c.args.greatest (length c.args.bytes.now) c.is_over-over.result c.is_over-over.ensures c.if-over.false in
    let room : c.saturating_sub-room.result ≡ c.args.greatest - length (bytes_at c.args.place c.args.bytes.now).tokens = omega (arith, c.saturating_sub-room.ensures, len) in
    (omega (arith, within, len), (c.in-Err-Incomplete.field-0-0, (answer, c.needed_within.ensures ∙ ap (λ k. needed (min (size_of c.in-Err-Incomplete.field-0-0) (k + 1))) room)))

pub returns-in-Err-Backtrack-clause-answer : goal.returns-in-Err-Backtrack-clause-answer
returns-in-Err-Backtrack-clause-answer g c =
    let means = g.R.Record.means c.args.inner.now in
    let new = c.read-answer.new.input in
    let there = stands new in
    let told = c.stream_over-input.ensures.flag ∙ c.goes_on.ensures in
    let given = subst (λ failure. means (flag c.stream_over-input.result) (stands c.stream_over-input.result) (Fails (failed failure there))) c.in-Err-Backtrack.field-0-is c.in-Err-Backtrack.ensures.means in
    let answer = answers-of c.args.greatest c.args.place c.args.bytes.now means c.args.partial _ c.is_over-over.result _ c.first_of-first.result.now (Fails (Backtracks there)) c.first_of-first.ensures c.is_over-over.ensures told c.stream_over-input.ensures.stands given in
    let rest = (locating_inner (partial_inner new)).now in
    let moves = (g.met.R.Record.lawful c.args.inner.now).onward (goes_on c.args.greatest c.args.partial (bytes_at c.args.place c.args.bytes.now)) (first_ahead c.args.greatest (bytes_at c.args.place c.args.bytes.now)) (Fails (Backtracks there)) answer in
    let left = left-of c.args.greatest c.args.place c.args.bytes.now (location_of (partial_inner new)) rest c.first_of-first.result.now c.saturating_sub-taken.result c.eof_offset.result moves c.first_of-first.ensures c.saturating_sub-taken.ensures c.eof_offset.ensures in
    (there, (answer, left))

pub returns-in-Err-Cut-clause-answer : goal.returns-in-Err-Cut-clause-answer
returns-in-Err-Cut-clause-answer g c =
    let means = g.R.Record.means c.args.inner.now in
    let new = c.read-answer.new.input in
    let there = stands new in
    let told = c.stream_over-input.ensures.flag ∙ c.goes_on.ensures in
    let given = subst (λ failure. means (flag c.stream_over-input.result) (stands c.stream_over-input.result) (Fails (failed failure there))) c.in-Err-Cut.field-0-is c.in-Err-Cut.ensures.means in
    let answer = answers-of c.args.greatest c.args.place c.args.bytes.now means c.args.partial _ c.is_over-over.result _ c.first_of-first.result.now (Fails (Cuts there)) c.first_of-first.ensures c.is_over-over.ensures told c.stream_over-input.ensures.stands given in
    let rest = (locating_inner (partial_inner new)).now in
    let moves = (g.met.R.Record.lawful c.args.inner.now).onward (goes_on c.args.greatest c.args.partial (bytes_at c.args.place c.args.bytes.now)) (first_ahead c.args.greatest (bytes_at c.args.place c.args.bytes.now)) (Fails (Cuts there)) answer in
    let left = left-of c.args.greatest c.args.place c.args.bytes.now (location_of (partial_inner new)) rest c.first_of-first.result.now c.saturating_sub-taken.result c.eof_offset.result moves c.first_of-first.ensures c.saturating_sub-taken.ensures c.eof_offset.ensures in
    inl (there, (answer, left))

pub returns-in-Err-Refused-clause-answer : goal.returns-in-Err-Refused-clause-answer
returns-in-Err-Refused-clause-answer g c =
    let means = g.R.Record.means c.args.inner.now in
    let new = c.read-answer.new.input in
    let there = stands new in
    let told = c.stream_over-input.ensures.flag ∙ c.goes_on.ensures in
    let given = subst (λ failure. means (flag c.stream_over-input.result) (stands c.stream_over-input.result) (Fails (failed failure there))) c.in-Err-Refused.field-0-is c.in-Err-Refused.ensures.means in
    let answer = answers-of c.args.greatest c.args.place c.args.bytes.now means c.args.partial _ c.is_over-over.result _ c.first_of-first.result.now (Fails Refuses) c.first_of-first.ensures c.is_over-over.ensures told c.stream_over-input.ensures.stands given in
    answer

pub returns-in-Err-Incomplete-clause-why : goal.returns-in-Err-Incomplete-clause-why
returns-in-Err-Incomplete-clause-why g c =
    let means = g.R.Record.means c.args.inner.now in
    let new = c.read-answer.new.input in
    let there = stands new in
    let told = c.stream_over-input.ensures.flag ∙ c.goes_on.ensures in
    let given = subst (λ failure. means (flag c.stream_over-input.result) (stands c.stream_over-input.result) (Fails (failed failure there))) c.in-Err-Incomplete.field-0-is c.in-Err-Incomplete.ensures.means in
    let answer = answers-of c.args.greatest c.args.place c.args.bytes.now means c.args.partial _ c.is_over-over.result _ c.first_of-first.result.now (Fails (Needs c.in-Err-Incomplete.field-0-0)) c.first_of-first.ensures c.is_over-over.ensures told c.stream_over-input.ensures.stands given in
    let over = over-of c.args.greatest (length c.args.bytes.now) c.is_over-over.result c.is_over-over.ensures c.if-over.true in
    (omega (arith, over, length-units c.args.bytes.now), (c.in-Err-Incomplete.field-0-0, answer))

pub returns-in-Err-Cut-clause-why : goal.returns-in-Err-Cut-clause-why
returns-in-Err-Cut-clause-why g c =
    let means = g.R.Record.means c.args.inner.now in
    let new = c.read-answer.new.input in
    let there = stands new in
    let told = c.stream_over-input.ensures.flag ∙ c.goes_on.ensures in
    let given = subst (λ failure. means (flag c.stream_over-input.result) (stands c.stream_over-input.result) (Fails (failed failure there))) c.in-Err-Cut.field-0-is c.in-Err-Cut.ensures.means in
    let answer = answers-of c.args.greatest c.args.place c.args.bytes.now means c.args.partial _ c.is_over-over.result _ c.first_of-first.result.now (Fails (Cuts there)) c.first_of-first.ensures c.is_over-over.ensures told c.stream_over-input.ensures.stands given in
    (there, answer)

pub returns-in-Err-Backtrack-clause-error : goal.returns-in-Err-Backtrack-clause-error
returns-in-Err-Backtrack-clause-error g c =
    let errors = g.R.Record.errors c.args.inner.now in
    let input = c.stream_over-input.result in
    let there = stands c.read-answer.new.input in
    let told = subst (λ failure. errors (flag input) (stands input) there failure) c.in-Err-Backtrack.field-0-is c.in-Err-Backtrack.ensures.error in
    let first = c.stream_over-input.ensures.stands ∙ ap (bytes_at c.args.place) c.first_of-first.ensures in
    (flag input, (there, subst (λ a. errors (flag input) a there (Backtrack c.in-Err-Backtrack.error)) first told))

pub returns-in-Err-Cut-clause-error : goal.returns-in-Err-Cut-clause-error
returns-in-Err-Cut-clause-error g c =
    let errors = g.R.Record.errors c.args.inner.now in
    let input = c.stream_over-input.result in
    let there = stands c.read-answer.new.input in
    let told = subst (λ failure. errors (flag input) (stands input) there failure) c.in-Err-Cut.field-0-is c.in-Err-Cut.ensures.error in
    let first = c.stream_over-input.ensures.stands ∙ ap (bytes_at c.args.place) c.first_of-first.ensures in
    (flag input, (there, subst (λ a. errors (flag input) a there (Cut c.in-Err-Cut.error)) first told))
