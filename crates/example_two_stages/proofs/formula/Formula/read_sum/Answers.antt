use Rattle.std.proofs.lemmas.Result.{IfOk-weaker}
use Rattle.std.specs.Prelude.{Ok, pos}
use Rattle.winnow_parser.specs.Answer.{ahead}
use Rattle.winnow_parser.specs.Meanings.{Returns}
use Rattle.winnow_parser.specs.Outcome.{Gives}
use Rattle.winnow_expression.specs.declared.level.Level.TheVariants.{AtLeast}
use Rattle.winnow_grammar.specs.Spelling.{TakesFor}
use Rattle.example_two_stages.specs.Formulas.{Sum}
use Rattle.example_two_stages.specs.Grammar.{WritesPart}
use Rattle.example_two_stages.proofs.lemmas.AnswerLemmas.{spelt-by}
use Rattle.example_two_stages.proofs.lemmas.ClimbLemmas.{Expr, sum-takes}
use Rattle.example_two_stages.proofs.formula.Formula.read_sum.Goals as goal

pub returns-clause-answer : goal.returns-clause-answer
returns-clause-answer g c =
    let the = g.I.Token.AsToken.token in
    let source = c.args.self.now.source.now in
    let at = ahead g.I.Rest.location g.I.Stream.remaining in
    let more = g.I.StreamIsPartial.expects_more c.args.input.now in
    let before = at c.args.input.now in
    let behind = at c.read_made.new.input in
    let operands = g.O.Parser.means c.args.operands in
    let minuses = g.M.Parser.means c.args.minuses in
    let operators = g.N.Parser.means c.args.operators in
    let layers = c.args.self.now.layers in
    let infix_set = rw c.infix-sum.ensures at c.read_made.ensures.made in
    let minus_set = rw c.prefix.ensures at infix_set in
    let means = rw (c.expression.ensures.operand, c.expression.ensures.level, c.expression.ensures.depth) at minus_set in
    let wide = g.met.I.Stream.positive_widths c.args.input.now c.requires.valid in
    spelt-by (WritesPart the source Sum) more before behind c.read_made.result c.read_made.ensures.answer
    (IfOk-weaker c.read_made.result (λ tree. Expr the source operands minuses (λ _ x. Returns x) operators layers (AtLeast (pos 0)) more before (Gives (Ok tree) behind)) (λ tree. TakesFor (WritesPart the source Sum) tree before behind)
    (λ tree h. sum-takes the source operands minuses (λ _ x. Returns x) operators c.requires.operators c.requires.ends c.requires.operands c.requires.minuses layers more before behind (Ok tree) wide h) means)
