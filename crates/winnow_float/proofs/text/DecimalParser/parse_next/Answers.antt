use Rattle.std.proofs.lemmas.Result.{IfErr-weaker}
use Rattle.winnow_parser.specs.Answer.{ahead}
use Rattle.winnow_parser.specs.Meanings.{Pair, IsOpt}
use Rattle.winnow_float.specs.declared.mark.Mark.TheVariants.{Point}
use Rattle.winnow_float.specs.FloatText.{IsMark}
use Rattle.winnow_float.specs.Marks.{IsDigits}
use Rattle.winnow_float.proofs.lemmas.OwnLemmas.{Own, DecimalErrors, own-decimal}
use Rattle.winnow_float.proofs.text.DecimalParser.parse_next.Goals as goal

pub returns-clause-means : goal.returns-clause-means
returns-clause-means g c = rw c.opt-fraction.ensures at c.parse_next.ensures.means

pub returns-clause-error : goal.returns-clause-error
returns-clause-error g c =
    let is_slice = g.I.Stream.is_slice in
    let code = g.I.Token.AsChar.code in
    let makes = g.E.ParserError.from_input_gives in
    let cuts = g.E.ParserError.assert_gives in
    let partial = g.I.StreamIsPartial.expects_more c.args.input.now in
    let here = ahead g.I.Rest.location g.I.Stream.remaining c.args.input.now in
    let left = c.parse_next.new.input in
    let point = IsMark is_slice code Point in
    let digits = IsDigits is_slice code 1 in
    let whole = IsDigits is_slice code 1 in
    let fraction = IsOpt (Pair (IsMark is_slice code c.opt-fraction.result.inner.0) (IsDigits is_slice code c.opt-fraction.result.inner.1.least)) in
    let mark = IsMark is_slice code c.opt-fraction.result.inner.0 in
    IfErr-weaker c.parse_next.result (DecimalErrors makes cuts point digits whole fraction mark partial here left) (Own makes cuts partial here left)
    (own-decimal makes cuts point digits whole fraction mark partial here left) c.parse_next.ensures.error
