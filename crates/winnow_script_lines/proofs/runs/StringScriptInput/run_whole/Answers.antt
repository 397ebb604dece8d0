use Rattle.std.proofs.Common.{◌∙◌, string_bytes}
use Rattle.std.proofs.lemmas.Result.{IfOk-weaker}
use Rattle.winnow_script_lines.proofs.lemmas.GivenLemmas.{text_lines-given}
use Rattle.winnow_script_lines.proofs.runs.StringScriptInput.run_whole.Goals as goal

-- the lines of the answers that the run gave are those of the script's answers
pub returns : goal.returns
returns c =
    let script = c.in_ok-steps.steps.items in
    IfOk-weaker c.print_answers.result _ _ (λ text given. (script, c.in_ok-steps.ensures, given.2 ∙ text_lines-given (string_bytes c.args.self.now) script given.0 given.1))
    (rw (c.as_str.ensures.value, c.deref.ensures.value) at c.print_answers.ensures)
