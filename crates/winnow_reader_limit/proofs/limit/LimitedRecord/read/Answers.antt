use Rattle.std.proofs.Common.{◌≤◌, length, subst, sym, ap, ◌∙◌}
use Rattle.winnow_stream.proofs.lemmas.UnitLemmas.{is_offset-from_le, front-units, units-same}
use Rattle.winnow_parser.specs.Answer.{outcome}
use Rattle.winnow_wrap.specs.Flag.{partial_inner, flag}
use Rattle.winnow_wrap.specs.Located.{locating_inner, location_of}
use Rattle.winnow_reader.specs.Place.{bytes_at, stands}
use Rattle.winnow_reader.proofs.lemmas.Utf8Lemmas.{past-told}
use Rattle.winnow_reader_limit.specs.Within.{Within}
use Rattle.winnow_reader_limit.specs.Why.{TellsWhy}
use Rattle.winnow_reader_limit.proofs.lemmas.FirstLemmas.{asked-of, told-of, told-here}
use Rattle.winnow_reader_limit.proofs.limit.LimitedRecord.read.Goals as goal

pub next_slice-requires-clause-offset : goal.next_slice-requires-clause-offset
next_slice-requires-clause-offset g c =
    let now = (locating_inner (partial_inner c.args.input.now)).now in
    let bytes = c.peek_finish-bytes.result.now in
    let whole = units-same bytes now (c.peek_finish-bytes.ensures.answer ∙ sym (front-units now)) in
    is_offset-from_le now c.ask_first-answer.result.1 (subst (λ l. c.ask_first-answer.result.1 ≤ length l) whole c.ask_first-answer.ensures.within)

pub returns-clause-means : goal.returns-clause-means
returns-clause-means g c =
    let means = Within c.args.self.now.greatest (g.R.Record.means c.args.self.now.inner) in
    let old = partial_inner c.args.input.now in
    let new = partial_inner c.next_slice.new.self in
    let now = (locating_inner old).now in
    let bytes = c.peek_finish-bytes.result.now in
    let taken = c.ask_first-answer.result.1 in
    let whole = units-same bytes now (c.peek_finish-bytes.ensures.answer ∙ sym (front-units now)) in
    let within = subst (λ l. taken ≤ length l) whole c.ask_first-answer.ensures.within in
    let there = past-told (location_of old) now taken (location_of new) (locating_inner new).now within c.next_slice.ensures.remains c.next_slice.ensures.location in
    asked-of means (outcome c.ask_first-answer.result.0) c.is_partial-partial.result (flag c.args.input.now) c.current_token_start-place.result (location_of old) bytes now taken (stands c.next_slice.new.self)
    c.is_partial-partial.ensures c.current_token_start-place.ensures whole there c.ask_first-answer.ensures.answer

pub returns-clause-why : goal.returns-clause-why
returns-clause-why g c =
    let inner = g.R.Record.means c.args.self.now.inner in
    let greatest = c.args.self.now.greatest in
    let old = partial_inner c.args.input.now in
    let now = (locating_inner old).now in
    let bytes = c.peek_finish-bytes.result.now in
    let whole = units-same bytes now (c.peek_finish-bytes.ensures.answer ∙ sym (front-units now)) in
    told-of (TellsWhy greatest inner) c.ask_first-answer.result.0 c.is_partial-partial.result (flag c.args.input.now) c.current_token_start-place.result (location_of old) bytes now
    c.is_partial-partial.ensures c.current_token_start-place.ensures whole c.ask_first-answer.ensures.why

pub returns-clause-error : goal.returns-clause-error
returns-clause-error g c =
    let errors = g.R.Record.errors c.args.self.now.inner in
    let old = partial_inner c.args.input.now in
    let now = (locating_inner old).now in
    let bytes = c.peek_finish-bytes.result.now in
    let whole = units-same bytes now (c.peek_finish-bytes.ensures.answer ∙ sym (front-units now)) in
    let here = ap (λ l. bytes_at (location_of old) l) (sym whole) ∙ ap (λ p. bytes_at p bytes) (sym c.current_token_start-place.ensures) in
    told-here c.args.self.now.greatest errors c.current_token_start-place.result bytes (stands c.args.input.now) (stands c.next_slice.new.self) (flag c.args.input.now) c.ask_first-answer.result.0 here c.ask_first-answer.ensures.error
