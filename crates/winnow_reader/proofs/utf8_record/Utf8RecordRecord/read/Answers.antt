use Rattle.std.specs.Prelude.{IfErr}
use Rattle.std.proofs.Common.{◌≤◌, length, subst, sym, ◌∙◌}
use Rattle.winnow_stream.proofs.lemmas.UnitLemmas.{is_offset-from_le, front-units, units-same}
use Rattle.winnow_parser.specs.Answer.{outcome}
use Rattle.winnow_wrap.specs.Flag.{partial_inner, flag}
use Rattle.winnow_wrap.specs.Located.{locating_inner, location_of}
use Rattle.winnow_reader.specs.Place.{bytes_at, stands}
use Rattle.winnow_reader.specs.InUtf8.{past}
use Rattle.winnow_reader.specs.TextTelling.{TellsDamage, FrontTold, Utf8Errors}
use Rattle.winnow_reader.proofs.lemmas.Utf8Lemmas.{past-told, asked-of}
use Rattle.winnow_reader.proofs.lemmas.FrontToldLemmas.{both-told, told-there}
use Rattle.winnow_reader.proofs.utf8_record.Utf8RecordRecord.read.Goals as goal

pub next_slice-requires-clause-offset : goal.next_slice-requires-clause-offset
next_slice-requires-clause-offset g c =
    let now = (locating_inner (partial_inner c.args.input.now)).now in
    let bytes = c.peek_finish-bytes.result.now in
    let whole = units-same bytes now (c.peek_finish-bytes.ensures.answer ∙ sym (front-units now)) in
    is_offset-from_le now c.ask_fronts-answer.result.1 (subst (λ l. c.ask_fronts-answer.result.1 ≤ length l) whole c.ask_fronts-answer.ensures.within)

pub returns-clause-means : goal.returns-clause-means
returns-clause-means g c =
    let means = g.R.TextRecord.means c.args.self.now.parser in
    let old = partial_inner c.args.input.now in
    let new = partial_inner c.next_slice.new.self in
    let now = (locating_inner old).now in
    let bytes = c.peek_finish-bytes.result.now in
    let taken = c.ask_fronts-answer.result.1 in
    let whole = units-same bytes now (c.peek_finish-bytes.ensures.answer ∙ sym (front-units now)) in
    let within = subst (λ l. taken ≤ length l) whole c.ask_fronts-answer.ensures.within in
    let there = past-told (location_of old) now taken (location_of new) (locating_inner new).now within c.next_slice.ensures.remains c.next_slice.ensures.location in
    asked-of means (outcome c.ask_fronts-answer.result.0) c.is_partial-partial.result (flag c.args.input.now) c.current_token_start-place.result (location_of old) bytes now taken (stands c.next_slice.new.self)
    c.is_partial-partial.ensures c.current_token_start-place.ensures whole there c.ask_fronts-answer.ensures.answer

pub returns-clause-error : goal.returns-clause-error
returns-clause-error g c =
    let means = g.R.TextRecord.means c.args.self.now.parser in
    let errors = g.R.TextRecord.errors c.args.self.now.parser in
    let old = partial_inner c.args.input.now in
    let new = partial_inner c.next_slice.new.self in
    let now = (locating_inner old).now in
    let bytes = c.peek_finish-bytes.result.now in
    let asked = c.ask_fronts-answer in
    let place = c.current_token_start-place.result in
    let partial = c.is_partial-partial.result in
    let here = bytes_at place bytes in
    let left = past here asked.result.1 in
    let whole = units-same bytes now (c.peek_finish-bytes.ensures.answer ∙ sym (front-units now)) in
    let within = subst (λ l. asked.result.1 ≤ length l) whole asked.ensures.within in
    let there = past-told (location_of old) now asked.result.1 (location_of new) (locating_inner new).now within c.next_slice.ensures.remains c.next_slice.ensures.location in
    let told = both-told (TellsDamage means partial here left) (FrontTold means errors partial here left) asked.result.0 asked.ensures.damage asked.ensures.error in
    told-there (λ more a rest answer. IfErr answer (Utf8Errors means errors more a rest)) asked.result.0 partial (flag c.args.input.now) place (location_of old) bytes now asked.result.1 (stands c.next_slice.new.self)
    c.is_partial-partial.ensures c.current_token_start-place.ensures whole there told
