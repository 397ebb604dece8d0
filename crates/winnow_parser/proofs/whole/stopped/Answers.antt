use Rattle.winnow_parser.specs.Answer.{ahead}
use Rattle.winnow_parser.proofs.lemmas.TakenLemmas.{same-place}
use Rattle.winnow_parser.proofs.whole.stopped.Goals as goal

pub new-requires-clause-is_end : goal.new-requires-clause-is_end
new-requires-clause-is_end g c =
    c.taken_width_law.ensures.rest (ahead g.I.Checkpoint.Rest.location g.I.Stream.remained c.args.start) (ahead g.I.Rest.location g.I.Stream.remaining c.args.input) c.requires.moved

pub returns-clause-input : goal.returns-clause-input
returns-clause-input g c =
    same-place (ahead g.I.Rest.location g.I.Stream.remaining c.new.result.input) (ahead g.I.Checkpoint.Rest.location g.I.Stream.remained c.args.start) c.new.ensures.location c.new.ensures.remaining
