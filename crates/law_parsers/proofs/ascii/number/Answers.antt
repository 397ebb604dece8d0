use Rattle.std.proofs.lemmas.Result.{IfErr-weaker}
use Rattle.winnow_parser.specs.Answer.{ahead}
use Rattle.winnow_parser.specs.Meanings.{Maps, IsForgotten}
use Rattle.winnow_parser.specs.Taken.{Taken}
use Rattle.winnow_ascii.specs.Numbers.{Digits, IsDecUint}
use Rattle.law_parsers.proofs.lemmas.AsciiFailureLemmas.{of-number}
use Rattle.law_parsers.proofs.ascii.number.Goals as goal

pub returns : goal.returns
returns g c =
    let input = c.args.input.now in
    let stands = ahead g.I.Rest.location g.I.Stream.remaining in
    let stood = ahead g.I.Checkpoint.Rest.location g.I.Stream.remained in
    let a = stands input in
    let first = Maps IsForgotten (Digits g.I.Stream.is_slice g.I.Token.AsChar.code) in
    let reads = g.I.Slice.ParseSlice.reads in
    let digits = Taken g.I.Stream.is_slice (IsDecUint g.E.ParserError.or_refusable g.E.ParserError.append_refusable g.I.Stream.is_slice g.I.Token.AsChar.code) in
    IfErr-weaker c.parse_next.result _ _ (λ f h. of-number reads digits stands stood first g.E.ParserError.from_input_gives g.E.ParserError.assert_gives g.E.ParserError.or_gives g.E.ParserError.append_gives (g.I.StreamIsPartial.expects_more input) a c.parse_next.new.input f h) c.parse_next.ensures.error
