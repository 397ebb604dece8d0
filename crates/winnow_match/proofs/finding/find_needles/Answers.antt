use Rattle.std.proofs.Common.{arith, ◌+◌, ◌∙◌, sym, length, drop, length-drop}
use Rattle.std.proofs.lemmas.List.{take_rest}
use Rattle.winnow_match.specs.Search.{bytes_of_needles}
use Rattle.winnow_match.proofs.lemmas.SearchLemmas.{hit-nowhere, hit-behind, pass-one}
use Rattle.winnow_match.proofs.finding.find_needles.Goals as goal

pub returns-in_err-at : goal.returns-in_err-at
returns-in_err-at c =
    let bytes = c.args.input.now in
    let some = sym c.has_empty.ensures ∙ c.if-has_empty.false in
    let none = rw (take_rest bytes c.loop.passed) at c.in_err-at.ensures in
    c.from_residual.ensures ∙ hit-nowhere (bytes_of_needles c.args.needles.now) bytes c.loop.passed some c.loop.invariant.1 c.loop.invariant.0 none

pub returns-in-Some : goal.returns-in-Some
returns-in-Some c =
    let bytes = c.args.input.now in
    let some = sym c.has_empty.ensures ∙ c.if-has_empty.false in
    let next = rw (take_rest bytes c.loop.passed) at c.in_ok-at.ensures in
    let here = rw (take_rest bytes (c.loop.passed + c.in_ok-at.field-0)) at c.in-Some.ensures.value in
    hit-behind (bytes_of_needles c.args.needles.now) bytes c.loop.passed some c.loop.invariant.1 c.in_ok-at.field-0 (length (drop c.loop.passed bytes)) c.in-Some.length next here

pub loop-preserved : goal.loop-preserved
loop-preserved c =
    let bytes = c.args.input.now in
    let some = sym c.has_empty.ensures ∙ c.if-has_empty.false in
    let next = rw (take_rest bytes c.loop.passed) at c.in_ok-at.ensures in
    let here = rw (take_rest bytes (c.loop.passed + c.in_ok-at.field-0)) at c.in_default.ensures.value in
    (omega (arith, next.high, length-drop c.loop.passed bytes, c.loop.invariant.0), pass-one (bytes_of_needles c.args.needles.now) bytes c.loop.passed some c.loop.invariant.1 c.in_ok-at.field-0 (length (drop c.loop.passed bytes)) next here)

pub returns-in_err-at-2 : goal.returns-in_err-at-2
returns-in_err-at-2 c =
    let bytes = c.args.input.now in
    let some = sym c.has_empty.ensures ∙ c.if-has_empty.false in
    let none = rw (take_rest bytes c.loop.passed) at c.in_err-at-2.ensures in
    c.from_residual-in_err-at-2.ensures ∙ hit-nowhere (bytes_of_needles c.args.needles.now) bytes c.loop.passed some c.loop.invariant.1 c.loop.invariant.0 none

pub returns : goal.returns
returns c =
    let bytes = c.args.input.now in
    let some = sym c.has_empty.ensures ∙ c.if-has_empty.false in
    let far = rw (take_rest bytes c.loop.passed) at c.in_ok-at-2.ensures in
    let here = rw (take_rest bytes (c.loop.passed + c.in_ok-at-2.field-0)) at c.in_ok-length.ensures.value in
    hit-behind (bytes_of_needles c.args.needles.now) bytes c.loop.passed some c.loop.invariant.1 c.in_ok-at-2.field-0 (length (drop c.loop.passed bytes)) c.in_ok-length.length far.0 here
