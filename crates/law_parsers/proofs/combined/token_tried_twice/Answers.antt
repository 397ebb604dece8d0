use Rattle.std.proofs.lemmas.Result.{IfErr-weaker}
use Rattle.winnow_parser.specs.Answer.{ahead}
use Rattle.law_parsers.proofs.lemmas.FailureLemmas.{joined}
use Rattle.law_parsers.proofs.combined.token_tried_twice.Goals as goal

pub returns : goal.returns
returns g c =
    let stands = ahead g.I.Rest.location g.I.Stream.remaining in
    let stood = ahead g.I.Checkpoint.Rest.location g.I.Stream.remained in
    let a = stands c.args.input.now in
    IfErr-weaker c.parse_next.result _ _ (λ f h. joined g.E.ParserError.from_input_gives g.E.ParserError.assert_gives g.E.ParserError.or_gives g.E.ParserError.append_gives stood stands (g.I.StreamIsPartial.expects_more c.args.input.now) a _ f h) c.parse_next.ensures.error
