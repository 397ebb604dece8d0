use Rattle.winnow_binary.proofs.lemmas.DeterminedFieldLemmas.{determined-bit_fields, prompt-bit_fields}
use Rattle.winnow_binary.proofs.bit_laws.determined_bit_fields_law.Goals as goal

pub returns-clause-determined : goal.returns-clause-determined
returns-clause-determined c = determined-bit_fields

pub returns-clause-prompt : goal.returns-clause-prompt
returns-clause-prompt c = prompt-bit_fields
