use Rattle.winnow_grammar.specs.Spelt.{Spelt-on}
use Rattle.example_two_stages.specs.Grammar.{WritesLeaf}
use Rattle.example_two_stages.proofs.lemmas.ChoiceLemmas.{LeavesBy, leaf-spelled}
use Rattle.example_two_stages.proofs.formula.LeafReadsAs.read.Goals as goal

pub returns-clause-answer : goal.returns-clause-answer
returns-clause-answer g c =
    let the = g.I.Token.AsToken.token in
    Spelt-on (LeavesBy the) (WritesLeaf the) _ _ _ c.ask_as.ensures.answer (leaf-spelled the)
