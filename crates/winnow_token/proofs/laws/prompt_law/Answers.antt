use Rattle.winnow_token.proofs.lemmas.PromptLemmas.{prompt-one_of, prompt-take, prompt-take_while}
use Rattle.winnow_token.proofs.laws.prompt_law.Goals as goal

pub returns-clause-one : goal.returns-clause-one
returns-clause-one g c = λ holds. prompt-one_of holds

pub returns-clause-counted : goal.returns-clause-counted
returns-clause-counted g c = λ n. prompt-take g.I.Stream.counts_shortage g.I.Stream.is_slice n

pub returns-clause-held : goal.returns-clause-held
returns-clause-held g c = λ holds least greatest. prompt-take_while g.I.Stream.is_slice holds least greatest
