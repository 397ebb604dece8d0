use Rattle.std.proofs.Common.{◌∙◌, refl, sym}
use Rattle.winnow_script_lines.proofs.lemmas.LineLemmas.{empty_of_length}
use Rattle.winnow_script_lines.proofs.inputs.read_script_input.Goals as goal

pub returns-clause-input : goal.returns-clause-input
returns-clause-input g c =
    let line = c.in_ok-input.ensures in
    let done = empty_of_length c.read_line.new.lines.rest.now (c.if-not-is_empty.ensures.0 refl) in
    (line.told, sym line.rest ∙ done)
