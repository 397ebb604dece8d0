use Rattle.std.proofs.lemmas.Result.{IfErr-weaker}
use Rattle.winnow_parser.specs.Answer.{ahead}
use Rattle.law_parsers.proofs.lemmas.FailureLemmas.{at-end}
use Rattle.law_parsers.proofs.combined.first_token.Goals as goal

pub returns : goal.returns
returns g c =
    let stands = ahead g.I.Rest.location g.I.Stream.remaining in
    IfErr-weaker c.parse_peek.result _ _ (λ f h. at-end g.E.ParserError.from_input_gives g.E.ParserError.assert_gives stands (g.I.StreamIsPartial.expects_more c.args.input) (stands c.args.input) f h) c.parse_peek.ensures.failure
