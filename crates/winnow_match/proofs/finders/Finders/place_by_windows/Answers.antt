use Rattle.std.proofs.Common.{arith, ◌+◌}
use Rattle.std.proofs.lemmas.List.{take_rest}
use Rattle.winnow_match.specs.Search.{SomeOccurs}
use Rattle.winnow_match.proofs.lemmas.SearchLemmas.{first-behind, Nowhere-more, Nowhere-less}
use Rattle.winnow_match.proofs.finders.Finders.place_by_windows.Goals as goal

pub overflow_add-result : goal.overflow_add-result
overflow_add-result c =
    let here = rw (take_rest c.args.input.now c.loop-passed.passed) at c.in-Some.ensures in
    let first = first-behind c.args.self.now c.args.input.now c.loop-passed.passed c.loop-passed.width c.in-Some.at c.requires c.loop-passed.invariant.1 here in
    omega (arith, first.0.high)

pub returns-in-Some : goal.returns-in-Some
returns-in-Some c =
    let here = rw (take_rest c.args.input.now c.loop-passed.passed) at c.in-Some.ensures in
    first-behind c.args.self.now c.args.input.now c.loop-passed.passed c.loop-passed.width c.in-Some.at c.requires c.loop-passed.invariant.1 here

pub loop-passed-preserved : goal.loop-passed-preserved
loop-passed-preserved c =
    let ls = c.args.self.now in
    let none = rw (take_rest c.args.input.now c.loop-passed.passed) at c.in_default.ensures in
    let past = Nowhere-more ls c.args.input.now c.loop-passed.passed c.loop-passed.width c.loop-passed.invariant.1 none in
    (omega arith, Nowhere-less (SomeOccurs ls c.args.input.now) 0 (c.loop-passed.passed + c.loop-passed.width) c.saturating_add-passed.result (omega arith) past)
