use Rattle.std.proofs.lemmas.Result.{IfErr-weaker}
use Rattle.winnow_parser.specs.Answer.{ahead}
use Rattle.law_parsers.proofs.lemmas.AsciiFailureLemmas.{of-part}
use Rattle.law_parsers.proofs.ascii.text_with_escapes.Goals as goal

pub returns : goal.returns
returns g c =
    let text = c.args.text.now in
    let input = c.args.input.now in
    let a = ahead g.I.Rest.location g.I.Stream.remaining input in
    IfErr-weaker c.parse_next.result _ _ (λ f h. of-part (g.P.Parser.means text.normal) (g.C.Parser.means text.control) (g.Q.Parser.means text.escapable) (g.P.Parser.errors text.normal) (g.C.Parser.errors text.control) (g.Q.Parser.errors text.escapable) (g.I.StreamIsPartial.expects_more input) a _ f h) c.parse_next.ensures.error
