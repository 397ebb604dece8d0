use Rattle.std.specs.Prelude.{[]}
use Rattle.winnow_combinator.proofs.gather.begin_with.Goals as goal

pub returns-in-Ok-take-clause-made : goal.returns-in-Ok-take-clause-made
returns-in-Ok-take-clause-made g c =
    g.met.G.Gather.makes_taken c.args.gather.now [] c.in-Ok.whole c.take.new.whole c.args.value c.in-Ok.ensures.made c.in-Ok-take.ensures.taken
