use Rattle.std.proofs.lemmas.Result.{IfErr-weaker}
use Rattle.winnow_parser.specs.Answer.{ahead}
use Rattle.winnow_float.specs.declared.mark.Mark.TheVariants.{Letter}
use Rattle.winnow_float.specs.FloatText.{IsMark, IsInf}
use Rattle.winnow_float.proofs.lemmas.OwnLemmas.{Own, MagnitudeErrors, own-magnitude}
use Rattle.winnow_float.proofs.text.MagnitudeParser.parse_next.Goals as goal

pub returns-clause-means : goal.returns-clause-means
returns-clause-means g c = rw c.opt.ensures at c.parse_next.ensures.means

pub returns-clause-error : goal.returns-clause-error
returns-clause-error g c =
    let is_slice = g.I.Stream.is_slice in
    let code = g.I.Token.AsChar.code in
    let makes = g.E.ParserError.from_input_gives in
    let cuts = g.E.ParserError.assert_gives in
    let partial = g.I.StreamIsPartial.expects_more c.args.input.now in
    let here = ahead g.I.Rest.location g.I.Stream.remaining c.args.input.now in
    let left = c.parse_next.new.input in
    let inf = IsInf is_slice code in
    let first = IsMark is_slice code (Letter 105) in
    let second = IsMark is_slice code (Letter 110) in
    let third = IsMark is_slice code c.opt.result.inner.letters.0 in
    let fourth = IsMark is_slice code c.opt.result.inner.letters.1 in
    let fifth = IsMark is_slice code c.opt.result.inner.letters.2 in
    let sixth = IsMark is_slice code c.opt.result.inner.letters.3 in
    IfErr-weaker c.parse_next.result (MagnitudeErrors makes cuts inf first second third fourth fifth sixth partial here left) (Own makes cuts partial here left)
    (own-magnitude makes cuts inf first second third fourth fifth sixth partial here left) c.parse_next.ensures.error
