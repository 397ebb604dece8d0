use Rattle.std.specs.Prelude.{not, min, ◌^◌}
use Rattle.std.proofs.Common.{◌≡◌, ◌+◌, ◌-◌, length, subst, arith}
use Rattle.winnow_stream.specs.Units.{width-units}
use Rattle.winnow_parser.specs.Outcome.{Gives, Fails, Needs}
use Rattle.winnow_parser.specs.Answer.{failed}
use Rattle.winnow_wrap.specs.Flag.{partial_inner, flag}
use Rattle.winnow_wrap.specs.Located.{locating_inner, location_of}
use Rattle.winnow_reader.specs.Place.{bytes_at, stands}
use Rattle.winnow_reader.proofs.lemmas.PlaceLemmas.{length-moved}
use Rattle.winnow_reader.proofs.lemmas.AnswerLemmas.{answer-of, needs-open, value-taken, value-still}
use Rattle.winnow_reader.proofs.asking.ask_record.Goals as goal

pub overflow_sub-taken : goal.overflow_sub-taken
overflow_sub-taken g c =
    let means = g.R.Record.means c.args.parser.now in
    let new = c.read.new.input in
    let here = bytes_at c.args.place c.args.ahead.now in
    let rest = (locating_inner (partial_inner new)).now in
    let v = Gives c.in-Ok.value (stands new) in
    let m = answer-of means _ (not c.args.ended) _ here v c.stream_over-input.ensures.flag c.stream_over-input.ensures.stands c.in-Ok.ensures.means in
    let moved = (g.met.R.Record.lawful c.args.parser.now).onward (not c.args.ended) here v m in
    omega (arith, c.eof_offset.ensures, width-units rest, length-moved c.args.place c.args.ahead.now (location_of (partial_inner new)) rest moved)

pub returns-then-taken-eq0-clause-answer : goal.returns-then-taken-eq0-clause-answer
returns-then-taken-eq0-clause-answer g c =
    let means = g.R.Record.means c.args.parser.now in
    let new = c.read.new.input in
    let here = bytes_at c.args.place c.args.ahead.now in
    let rest = (locating_inner (partial_inner new)).now in
    let v = Gives c.in-Ok.value (stands new) in
    let m = answer-of means _ (not c.args.ended) _ here v c.stream_over-input.ensures.flag c.stream_over-input.ensures.stands c.in-Ok.ensures.means in
    let none : 0 ≡ length c.args.ahead.now - length rest = omega (arith, c.if-taken-eq0.true, c.eof_offset.ensures, width-units rest) in
    (c.in-Ok.value, value-still means (g.met.R.Record.lawful c.args.parser.now) (not c.args.ended) c.args.place c.args.ahead.now c.in-Ok.value (location_of (partial_inner new)) rest none m)

pub returns-else-taken-eq0-clause-answer : goal.returns-else-taken-eq0-clause-answer
returns-else-taken-eq0-clause-answer g c =
    let means = g.R.Record.means c.args.parser.now in
    let new = c.read.new.input in
    let here = bytes_at c.args.place c.args.ahead.now in
    let rest = (locating_inner (partial_inner new)).now in
    let n = length c.args.ahead.now - c.eof_offset.result in
    let v = Gives c.in-Ok.value (stands new) in
    let m = answer-of means _ (not c.args.ended) _ here v c.stream_over-input.ensures.flag c.stream_over-input.ensures.stands c.in-Ok.ensures.means in
    let taken : n ≡ length c.args.ahead.now - length rest = omega (arith, c.eof_offset.ensures, width-units rest) in (
      omega (arith, c.if-taken-eq0.false),
      omega arith,
      value-taken means (g.met.R.Record.lawful c.args.parser.now) (not c.args.ended) c.args.place c.args.ahead.now c.in-Ok.value (location_of (partial_inner new)) rest n taken m,
    )

pub returns-in-Err-Incomplete-clause-answer : goal.returns-in-Err-Incomplete-clause-answer
returns-in-Err-Incomplete-clause-answer g c =
    let means = g.R.Record.means c.args.parser.now in
    let new = c.read.new.input in
    let here = bytes_at c.args.place c.args.ahead.now in
    let need = c.in-Err-Incomplete.needed in
    let told = subst (λ failure. means (flag c.stream_over-input.result) (stands c.stream_over-input.result) (Fails (failed failure (stands new)))) c.in-Err-Incomplete.field-0-is c.in-Err-Incomplete.ensures.means in
    let m = answer-of means _ (not c.args.ended) _ here (Fails (Needs need)) c.stream_over-input.ensures.flag c.stream_over-input.ensures.stands told in
    let open_needs = needs-open means (g.met.R.Record.lawful c.args.parser.now) c.args.ended here need m in
    let wanted = subst (λ n. c.saturating_add.result ≡ min (length c.args.ahead.now + n) (2 ^ 64 - 1)) c.size_of.ensures c.saturating_add.ensures in
    (open_needs.0, (need, (open_needs.1, wanted)))
