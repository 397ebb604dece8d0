use Rattle.winnow_script_lines.specs.Steps.{DenotesStep}
use Rattle.winnow_script_lines.proofs.lemmas.StepLemmas.{DenotesStep-filled}
use Rattle.winnow_script_lines.proofs.lemmas.Utf8Lemmas.{DenotesStep-text, DenotesNothing-unread}
use Rattle.winnow_script_lines.proofs.steps.next_step.Goals as goal

-- there is no next line, or it is not UTF-8
pub returns-in-None-clause-step : goal.returns-in-None-clause-step
returns-in-None-clause-step g c =
    let bytes = g.L.Contents.bytes in
    let text = c.args.lines.now.rest.now in
    DenotesNothing-unread (DenotesStep bytes) text (λ read. cc (rw c.in-None.is at c.next_line.ensures.found.1 read)) (DenotesStep-text bytes _) (DenotesStep-filled bytes)
