use Rattle.std.proofs.lemmas.Result.{IfOk-from_err}
use Rattle.std.proofs.Common.{[], arith, refl}
use Rattle.winnow_script_lines.specs.Inputs.{DenotesNamed}
use Rattle.winnow_script_lines.proofs.lemmas.WordLemmas.{DenotesNamed-alone}
use Rattle.winnow_script_lines.proofs.lemmas.Utf8Lemmas.{DenotesNamed-text, DenotesNothing-unread}
use Rattle.winnow_script_lines.proofs.inputs.read_line.Goals as goal

-- there is no next line, or it is not UTF-8
pub returns-in_default-clause-fault : goal.returns-in_default-clause-fault
returns-in_default-clause-fault g c =
    let bytes = g.L.Contents.bytes in
    let name = c.args.name.now in
    let text = c.args.lines.now.rest.now in
    rw c.fault-fault.ensures (
      refl,
      DenotesNothing-unread (DenotesNamed bytes name) text (λ read. cc (rw c.in_default.is at c.next_line.ensures.found.1 read)) (λ literal. DenotesNamed-text bytes name _ literal c.utf8.name) (DenotesNamed-alone bytes name [] (λ spaced. omega (arith, spaced))),
    )

-- if memory is refused, there is no value and nothing to promise of it
pub returns-in_err-read_named-clause-told : goal.returns-in_err-read_named-clause-told
returns-in_err-read_named-clause-told g c = IfOk-from_err _ _ c.from_residual.ensures.0

pub returns-in_err-read_named-clause-shorter : goal.returns-in_err-read_named-clause-shorter
returns-in_err-read_named-clause-shorter g c = IfOk-from_err _ _ c.from_residual.ensures.0

pub returns-in_err-read_named-clause-number : goal.returns-in_err-read_named-clause-number
returns-in_err-read_named-clause-number g c = IfOk-from_err _ _ c.from_residual.ensures.0
