use Rattle.winnow_codec.proofs.lemmas.Reading.{takes-one}
use Rattle.winnow_parser.specs.Answer.{ahead}
use Rattle.winnow_codec.proofs.next_tokens.one.Goals as goal

pub returns-clause-taken : goal.returns-clause-taken
returns-clause-taken g c =
    takes-one (ahead g.I.Rest.location g.I.Stream.remaining c.args.input.now) _ c.in-Some.byte c.in-Some.ensures.answer c.in-Some.ensures.remains c.in-Some.ensures.location
