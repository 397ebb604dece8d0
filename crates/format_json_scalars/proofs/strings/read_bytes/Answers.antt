use Rattle.std.proofs.Common.{◌≡◌, ◌<◌, ◌≤◌, length, take, sym, subst, arith}
use Rattle.std.proofs.lemmas.Bool.Decides.{nat_tests}
use Rattle.std.proofs.lemmas.List.{take_rest}
use Rattle.std.specs.String.{string_bytes}
use Rattle.format_json_scalars.specs.Steps.{HasRead}
use Rattle.format_json_scalars.specs.declared.characters.Step.TheVariants.{Taken, Ended, Begun, Wrong}
use Rattle.format_json_scalars.proofs.lemmas.StringLemmas.{starts-with, step-at, read-front, read-on, read-ends, read-stops, read-all}
use Rattle.format_json_scalars.proofs.strings.read_bytes.Goals as goal

pub loop-at-init : goal.loop-at-init
loop-at-init c =
    let bytes = c.args.bytes.now in
    let front = c.ascii_front-front.result.now in
    let some : 0 < length bytes = grind (arith, nat_tests, c.is_empty.ensures, c.if-is_empty.false) in
    let rest = take_rest bytes 1 in
    read-front bytes front (string_bytes c.in_ok-value.value) (starts-with bytes 34 some c.if-bytes-ne34.false)
    (subst (λ t. length front ≤ length t) rest c.ascii_front-front.ensures.within)
    (subst (λ t. front ≡ take (length front) t) rest c.ascii_front-front.ensures.text)
    c.ascii_front-front.ensures.ascii c.in_ok-value.ensures.ok

pub loop-at-preserved : goal.loop-at-preserved
loop-at-preserved c =
    let bytes = c.args.bytes.now in
    let old = string_bytes c.loop-at.value in
    let new = string_bytes c.append_next.new.value in
    read-on bytes old new c.loop-at.at c.in-Taken.width c.loop-at.invariant (step-at bytes old new c.loop-at.at c.in_ok-width.field-0 (Taken c.in-Taken.width) c.in_ok-width.ensures c.in-Taken.is)

pub returns-in-Ended : goal.returns-in-Ended
returns-in-Ended c =
    let bytes = c.args.bytes.now in
    let old = string_bytes c.loop-at.value in
    let new = string_bytes c.append_next.new.value in
    let step = step-at bytes old new c.loop-at.at c.in_ok-width.field-0 Ended c.in_ok-width.ensures c.in-Ended.is in
    read-ends bytes c.loop-at.at c.append_next.new.value (subst (HasRead bytes c.loop-at.at) (sym step.1) c.loop-at.invariant) step.0 c.loop-at-test.true

pub returns-in-Begun : goal.returns-in-Begun
returns-in-Begun c =
    let bytes = c.args.bytes.now in
    let old = string_bytes c.loop-at.value in
    let new = string_bytes c.append_next.new.value in
    let step = step-at bytes old new c.loop-at.at c.in_ok-width.field-0 Begun c.in_ok-width.ensures c.in-Begun.is in
    (read-stops bytes old c.loop-at.at c.loop-at.invariant step.0, step.1)

pub returns-in-Wrong : goal.returns-in-Wrong
returns-in-Wrong c =
    let bytes = c.args.bytes.now in
    let old = string_bytes c.loop-at.value in
    let new = string_bytes c.append_next.new.value in
    let step = step-at bytes old new c.loop-at.at c.in_ok-width.field-0 Wrong c.in_ok-width.ensures c.in-Wrong.is in
    (read-stops bytes old c.loop-at.at c.loop-at.invariant step.0, step.1)

pub returns : goal.returns
returns c = read-all c.args.bytes.now (string_bytes c.loop-at.value) c.loop-at.at c.loop-at.invariant (omega (arith, c.loop-at-test.false))
