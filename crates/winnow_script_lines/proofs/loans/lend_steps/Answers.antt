use Rattle.std.proofs.lemmas.Result.{IfOk-from_err}
use Rattle.std.proofs.Common.{sym}
use Rattle.std.proofs.lemmas.List.{take_more}
use Rattle.winnow_script_lines.specs.Loans.{IsSameStep}
use Rattle.winnow_script_lines.proofs.lemmas.ZipLemmas.{AllZip-push}
use Rattle.winnow_script_lines.proofs.loans.lend_steps.Goals as goal

pub loop-step-preserved : goal.loop-step-preserved
loop-step-preserved g c =
    let more = take_more c.args.steps.now c.loop-step.step-index c.step-item.result c.loop-step-test.true in
    let pushed = AllZip-push (IsSameStep g.L.Contents.bytes g.L.Lend.lent_bytes) _ _ _ _ c.loop-step.invariant c.lend_step.ensures in
    rw (more, sym c.step-item.is, c.in_ok-push.ensures.items) pushed

-- if memory is refused, there is no value and nothing to promise of it
pub returns-in_err-lent : goal.returns-in_err-lent
returns-in_err-lent g c = IfOk-from_err _ _ c.from_residual.ensures.0

pub returns-in_err-push : goal.returns-in_err-push
returns-in_err-push g c = IfOk-from_err _ _ c.from_residual-in_err-push.ensures.0
