use Rattle.std.proofs.lemmas.Result.{IfErr-weaker}
use Rattle.std.specs.Prelude.{true}
use Rattle.winnow_token.specs.OneOf.{IsOneOf}
use Rattle.winnow_parser.specs.Answer.{ahead}
use Rattle.law_parsers.proofs.lemmas.FailureLemmas.{own}
use Rattle.law_parsers.proofs.combined.two_tokens.Goals as goal

pub returns : goal.returns
returns g c =
    let a = ahead g.I.Rest.location g.I.Stream.remaining c.args.input.now in
    IfErr-weaker c.parse_next.result _ _ (λ f h. own g.E.ParserError.from_input_gives g.E.ParserError.assert_gives (IsOneOf (λ _. true)) (g.I.StreamIsPartial.expects_more c.args.input.now) a _ f h) c.parse_next.ensures.error
