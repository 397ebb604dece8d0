use Rattle.std.proofs.Common.{length, ap, arith}
use Rattle.winnow_recover.specs.Recovering.{recoverable_inner}
use Rattle.winnow_parser.specs.Answer.{ahead}
use Rattle.example_settings.specs.Lines.{NoLine, OneSetting, OneFault}
use Rattle.example_settings.proofs.lemmas.LineLemmas.{some-wide, length-behind_line}
use Rattle.example_settings.proofs.reader.read_settings.Goals as goal

pub lines-init : goal.lines-init
lines-init g c =
    let same = g.met.I.Stream.same_rest_remaining (recoverable_inner c.args.input.now) (recoverable_inner c.complete.new.self) c.complete.ensures.rest in
    let valid = g.met.I.Stream.same_rest_valid (recoverable_inner c.args.input.now) (recoverable_inner c.complete.new.self) c.complete.ensures.rest c.requires.valid in
    record { valid = valid; complete = c.complete.ensures.complete; records = rw (← c.complete.ensures.same.1) c.requires.records; read = rw (c.new-settings.ensures.items, ← c.complete.ensures.same.0, c.complete.ensures.location, same) NoLine }

pub lines-smaller-in-Continue-branch-3 : goal.lines-smaller-in-Continue-branch-3
lines-smaller-in-Continue-branch-3 g c =
    omega (arith, length-behind_line (ahead g.I.Rest.location g.I.Stream.remaining (recoverable_inner c.lines.input)) (some-wide _ _ c.lines-test.true c.eof_offset.ensures), ap (λ a. length a.tokens) c.in_ok-setting.ensures.behind)

pub lines-smaller : goal.lines-smaller
lines-smaller g c =
    omega (arith, length-behind_line (ahead g.I.Rest.location g.I.Stream.remaining (recoverable_inner c.lines.input)) (some-wide _ _ c.lines-test.true c.eof_offset.ensures), ap (λ a. length a.tokens) c.in_ok-setting.ensures.behind)

pub lines-preserved-in-Continue-branch-3 : goal.lines-preserved-in-Continue-branch-3
lines-preserved-in-Continue-branch-3 g c =
    let more = OneSetting c.lines.invariant.read (some-wide _ _ c.lines-test.true c.eof_offset.ensures) (rw c.in-Some.is at c.in_ok-setting.ensures.read) in
    record { valid = c.read_line.ensures.valid; complete = c.read_line.ensures.complete; records = c.read_line.ensures.records; read = rw (c.in_ok-push.ensures.items, c.in_ok-setting.ensures.behind) more }

pub lines-preserved : goal.lines-preserved
lines-preserved g c =
    let more = OneFault c.lines.invariant.read (some-wide _ _ c.lines-test.true c.eof_offset.ensures) (rw c.in_default.is at c.in_ok-setting.ensures.read) in
    record { valid = c.read_line.ensures.valid; complete = c.read_line.ensures.complete; records = c.read_line.ensures.records; read = rw c.in_ok-setting.ensures.behind more }
