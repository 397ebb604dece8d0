use Rattle.winnow_grammar.specs.Spelt.{Spelt-on}
use Rattle.example_arithmetic_spelled.specs.Expressions.{Expression, WritesPart}
use Rattle.example_arithmetic_spelled.proofs.ExpressionLemmas.{ExpressionsBy, expressions-within}
use Rattle.example_arithmetic_spelled.proofs.ExprLayerAs.read.Goals as goal

pub returns-clause-answer : goal.returns-clause-answer
returns-clause-answer g c =
    let expr = g.P.Spells.spells c.args.expr in
    let sums = rw c.separated_foldl1-sum.ensures at c.ask_as.ensures.answer in
    let terms = rw c.separated_foldl1-term.ensures at sums in
    let factors = rw c.delimited-factor.ensures at terms in
    let choices = rw c.alt.ensures at factors in
    let parens = rw c.delimited-parens.ensures at choices in
    let open_sign = rw c.one_of.ensures at parens in
    let close_sign = rw c.one_of-2.ensures at open_sign in
    let times = rw c.one_of-3.ensures at close_sign in
    let plus = rw c.one_of-4.ensures at times in
    let class = rw c.multispace0-spaces.ensures.0 at plus in
    let least = rw c.multispace0-spaces.ensures.1.0 at class in
    let greatest = rw c.multispace0-spaces.ensures.1.1 at least in
    Spelt-on (ExpressionsBy g.I.Stream.is_slice expr) (WritesPart Expression) _ _ _ greatest
    (expressions-within expr c.requires.inside g.I.Stream.is_slice)
