use Rattle.winnow_parser.specs.Determined.{Shows}
use Rattle.winnow_token.proofs.lemmas.ToldLemmas.{determined-one_of, determined-take, determined-take_while, determined-literal, determined-take_until}
use Rattle.winnow_token.proofs.lemmas.RestLemmas.{determined-rest, determined-rest_len}
use Rattle.winnow_token.proofs.laws.determined_token_law.Goals as goal

pub returns-clause-one : goal.returns-clause-one
returns-clause-one g c = λ holds. determined-one_of holds

pub returns-clause-counted : goal.returns-clause-counted
returns-clause-counted g c = λ view n fronts. determined-take g.I.Stream.is_slice (Shows view) fronts g.I.Stream.counts_shortage n

pub returns-clause-held : goal.returns-clause-held
returns-clause-held g c = λ view holds least greatest fronts. determined-take_while g.I.Stream.is_slice (Shows view) fronts holds least greatest

pub returns-clause-literal : goal.returns-clause-literal
returns-clause-literal g c = λ view compare fronts. determined-literal g.I.Stream.is_slice (Shows view) fronts compare

pub returns-clause-until : goal.returns-clause-until
returns-clause-until g c = λ view find least greatest fronts. determined-take_until g.I.Stream.is_slice (Shows view) fronts find least greatest

pub returns-clause-remaining : goal.returns-clause-remaining
returns-clause-remaining g c = λ view wholes. determined-rest g.I.Stream.is_slice (Shows view) wholes

pub returns-clause-remaining_width : goal.returns-clause-remaining_width
returns-clause-remaining_width g c = determined-rest_len
