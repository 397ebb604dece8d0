use Rattle.winnow_grammar.specs.Spelt.{Spelt-on}
use Rattle.example_two_stages.specs.Grammar.{WritesOperand}
use Rattle.example_two_stages.proofs.lemmas.ChoiceLemmas.{OperandsBy, operand-within}
use Rattle.example_two_stages.proofs.formula.BesideReadsAs.read.Goals as goal

pub returns-clause-answer : goal.returns-clause-answer
returns-clause-answer g c =
    let the = g.I.Token.AsToken.token in
    let source = c.args.self.now.source.now in
    let formula = g.P.Spells.spells c.args.self.now.formula in
    let choices = rw c.alt.ensures at c.ask_as.ensures.answer in
    let groups = rw (c.map-group.ensures.inner, c.part_as.ensures) at choices in
    Spelt-on (OperandsBy the source formula) (WritesOperand the source formula) _ _ _ groups (operand-within the source formula)
