use Rattle.std.proofs.Common.{rules}
use Rattle.winnow_tree.proofs.lemmas.MapLemmas.{maps_weaker}
use Rattle.winnow_tree.proofs.tree.TreeError.map_input.Goals as goal

pub returns : goal.returns
returns g c = maps_weaker c.args.self c.map_tree.result _ (goal.O-post g c.args.op) (λ i j p. search rules) c.map_tree.ensures
