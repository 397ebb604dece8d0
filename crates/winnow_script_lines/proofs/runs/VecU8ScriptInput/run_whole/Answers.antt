use Rattle.std.proofs.Common.{◌∙◌}
use Rattle.std.proofs.lemmas.Result.{IfOk-weaker}
use Rattle.winnow_script_lines.proofs.lemmas.GivenLemmas.{byte_lines-given}
use Rattle.winnow_script_lines.proofs.runs.VecU8ScriptInput.run_whole.Goals as goal

-- the lines of the answers that the run gave are those of the script's answers
pub returns : goal.returns
returns c =
    let script = c.in_ok-steps.steps.items in
    IfOk-weaker c.print_answers.result _ _ (λ text given. (script, c.in_ok-steps.ensures, given.2 ∙ byte_lines-given c.args.self.now.items script given.0 given.1))
    (rw (c.as_slice.ensures.value, c.deref.ensures.value) at c.print_answers.ensures)
