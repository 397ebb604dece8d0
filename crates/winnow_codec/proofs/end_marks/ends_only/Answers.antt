use Rattle.std.proofs.Common.{◌<◌, ◌-◌, length, take, get_or, sym, subst, arith}
use Rattle.std.proofs.lemmas.List.{take_more}
use Rattle.winnow_codec.specs.EndMarks.{EndsOnly}
use Rattle.winnow_codec.proofs.lemmas.EndMarks.{ends-none, ends-more, ends-early}
use Rattle.winnow_codec.proofs.end_marks.ends_only.Goals as goal

pub loop-end-init : goal.loop-end-init
loop-end-init c = ends-none c.args.mark.now

pub returns-then-is_marked-clause-each : goal.returns-then-is_marked-clause-each
returns-then-is_marked-clause-each c = λ only.
    let mark = c.args.mark.now in
    let bytes = c.args.bytes.now in
    let end = c.loop-end.end in
    let front = take end bytes in
    let within : end < length bytes = omega (arith, c.loop-end-test.true) in
    absurd (ends-early mark bytes end within (take (length front - length mark) front) (c.is_marked.ensures.ends c.if-is_marked.true) only)

pub loop-end-preserved : goal.loop-end-preserved
loop-end-preserved c =
    let mark = c.args.mark.now in
    let bytes = c.args.bytes.now in
    let end = c.loop-end.end in
    let within : end < length bytes = omega (arith, c.loop-end-test.true) in
    subst (EndsOnly mark) (sym (take_more bytes end 0 within))
    (ends-more mark (take end bytes) (get_or bytes end 0) c.loop-end.invariant
    (λ front e. let yes = c.is_marked.ensures.each front e in let no = c.if-is_marked.false in cc))
