use Rattle.winnow_parser.specs.Answer.{ahead}
use Rattle.example_two_stages.specs.Formulas.{Sum}
use Rattle.example_two_stages.specs.Grammar.{WritesPart}
use Rattle.example_two_stages.proofs.lemmas.AnswerLemmas.{all-spelled}
use Rattle.example_two_stages.proofs.reading.read_all.Goals as goal

pub returns-clause-written : goal.returns-clause-written
returns-clause-written g c =
    let at = ahead g.I.Rest.location g.I.Stream.remaining in
    let means = rw (c.terminated.ensures, c.nested_as-formula.ensures) at c.read_by.ensures.means in
    all-spelled (WritesPart g.I.Token.AsToken.token c.args.source.now Sum) g.E.AddContext.add_context_refusable g.I.Stream.is_slice (g.I.StreamIsPartial.expects_more c.args.input.now) (at c.args.input.now) (at c.read_by.new.input) c.read_by.result means
