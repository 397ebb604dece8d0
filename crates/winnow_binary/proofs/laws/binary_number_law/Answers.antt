use Rattle.winnow_binary.proofs.lemmas.NumberLemmas.{most_first-reversed, determined-numeral, prompt-numeral}
use Rattle.winnow_binary.proofs.laws.binary_number_law.Goals as goal

pub returns-clause-determined : goal.returns-clause-determined
returns-clause-determined g c = λ counts_shortage width value_of order. determined-numeral counts_shortage width value_of order

pub returns-clause-prompt : goal.returns-clause-prompt
returns-clause-prompt g c = λ counts_shortage width value_of order. prompt-numeral counts_shortage width value_of order

pub returns-clause-reversed : goal.returns-clause-reversed
returns-clause-reversed g c = λ bytes. most_first-reversed bytes
