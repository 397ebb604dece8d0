use Rattle.winnow_grammar.specs.Spelt.{Spelt-on}
use Rattle.example_two_stages.specs.Grammar.{WritesInParens}
use Rattle.example_two_stages.proofs.lemmas.ChoiceLemmas.{ParensBy, parens-within}
use Rattle.example_two_stages.proofs.formula.InParensReadsAs.read.Goals as goal

pub returns-clause-answer : goal.returns-clause-answer
returns-clause-answer g c =
    let the = g.I.Token.AsToken.token in
    let source = c.args.self.now.source.now in
    let formula = g.P.Spells.spells c.args.self.now.formula in
    let parens = rw c.delimited.ensures at c.ask_as.ensures.answer in
    let cuts = rw (c.cut_err.ensures, c.cut_err-2.ensures) at parens in
    let signs = rw (c.one_of-open.ensures, c.context-close.ensures.inner, c.one_of.ensures) at cuts in
    Spelt-on (ParensBy the source formula) (WritesInParens the source formula) _ _ _ signs (parens-within the source formula)
