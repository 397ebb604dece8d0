use Rattle.std.proofs.lemmas.Result.{IfErr-weaker}
use Rattle.winnow_parser.specs.Answer.{ahead}
use Rattle.winnow_parser.specs.Meanings.{IsOpt}
use Rattle.winnow_float.specs.declared.mark.Mark.TheVariants.{Letter}
use Rattle.winnow_float.specs.FloatText.{IsMark}
use Rattle.winnow_float.proofs.lemmas.OwnLemmas.{Own, ExponentErrors, own-exponent}
use Rattle.winnow_float.proofs.text.ExponentParser.parse_next.Goals as goal

pub returns-clause-means : goal.returns-clause-means
returns-clause-means g c = rw c.opt.ensures at c.parse_next.ensures.means

pub returns-clause-error : goal.returns-clause-error
returns-clause-error g c =
    let is_slice = g.I.Stream.is_slice in
    let code = g.I.Token.AsChar.code in
    let makes = g.E.ParserError.from_input_gives in
    let cuts = g.E.ParserError.assert_gives in
    let partial = g.I.StreamIsPartial.expects_more c.args.input.now in
    let here = ahead g.I.Rest.location g.I.Stream.remaining c.args.input.now in
    let left = c.parse_next.new.input in
    let mark = IsMark is_slice code (Letter 101) in
    let sign = IsOpt (IsMark is_slice code c.opt.result.inner) in
    IfErr-weaker c.parse_next.result (ExponentErrors makes cuts mark sign partial here left) (Own makes cuts partial here left)
    (own-exponent makes cuts mark sign partial here left) c.parse_next.ensures.error
