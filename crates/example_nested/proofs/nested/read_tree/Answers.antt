use Rattle.winnow_parser.specs.Answer.{ahead}
use Rattle.example_nested.proofs.lemmas.AnswerLemmas.{answers, misses_none}
use Rattle.example_nested.proofs.nested.read_tree.Goals as goal

pub returns-clause-answer : goal.returns-clause-answer
returns-clause-answer g c =
    let stands = ahead g.I.Rest.location g.I.Stream.remaining in
    answers g.I.Token.AsChar.code (g.I.StreamIsPartial.expects_more c.args.input.now) c.args.depth (stands c.args.input.now) (stands c.parse_next.new.input) c.parse_next.result (g.met.I.Stream.positive_widths c.args.input.now c.requires) c.parse_next.ensures.means

pub returns-clause-complete : goal.returns-clause-complete
returns-clause-complete g c =
    misses_none g.I.Token.AsChar.code c.args.depth (g.I.StreamIsPartial.expects_more c.args.input.now) (g.I.Stream.remaining c.args.input.now) (g.I.Stream.remaining c.parse_next.new.input) c.parse_next.result
    (returns-clause-answer g c)
