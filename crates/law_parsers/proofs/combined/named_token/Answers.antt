use Rattle.std.specs.Prelude.{IfErr}
use Rattle.std.proofs.Common.{subst}
use Rattle.std.proofs.lemmas.Result.{IfErr-weaker}
use Rattle.winnow_parser.specs.Answer.{ahead}
use Rattle.law_parsers.specs.Failures.{IsNamed}
use Rattle.law_parsers.proofs.lemmas.FailureLemmas.{named}
use Rattle.law_parsers.proofs.combined.named_token.Goals as goal

pub returns : goal.returns
returns g c =
    let stood = ahead g.I.Checkpoint.Rest.location g.I.Stream.remained in
    let partial = g.I.StreamIsPartial.expects_more c.args.input.now in
    let a = ahead g.I.Rest.location g.I.Stream.remaining c.args.input.now in
    let found = g.E.ParserError.from_input_gives in
    let asserted = g.E.ParserError.assert_gives in
    subst (λ label. IfErr c.parse_next.result (IsNamed found asserted (λ e s start. g.E.AddContext.add_context_gives e s start label) stood a c.parse_next.new.input)) c.context.ensures.context
    (IfErr-weaker c.parse_next.result _ _ (λ f h. named found asserted (λ e s start. g.E.AddContext.add_context_gives e s start c.context.result.context) stood partial a _ f h) c.parse_next.ensures.error)
