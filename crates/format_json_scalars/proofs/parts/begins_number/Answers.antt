use Rattle.std.proofs.Common.{ap, not, ◌∙◌}
use Rattle.format_json_scalars.specs.Parts.{is_wrong}
use Rattle.format_json_scalars.proofs.lemmas.NumberLemmas.{run-begins}
use Rattle.format_json_scalars.proofs.parts.begins_number.Goals as goal

pub returns : goal.returns
returns c = run-begins c.args.text.now (not c.is_wrong.result) (ap not (c.is_wrong.ensures ∙ ap is_wrong c.last_part.ensures))
