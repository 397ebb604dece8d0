use Rattle.std.proofs.Common.{ap, ◌∙◌}
use Rattle.format_json_scalars.specs.Parts.{is_last}
use Rattle.format_json_scalars.proofs.lemmas.NumberLemmas.{run-tells}
use Rattle.format_json_scalars.proofs.parts.is_number.Goals as goal

pub returns : goal.returns
returns c = run-tells c.args.text.now c.is_last.result (c.is_last.ensures ∙ ap is_last c.last_part.ensures)
