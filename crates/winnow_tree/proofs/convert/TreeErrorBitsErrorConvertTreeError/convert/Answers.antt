use Rattle.std.proofs.Common.{◌≡◌}
use Rattle.winnow_views.specs.BitStream.{bits_inner}
use Rattle.winnow_tree.proofs.lemmas.MapLemmas.{maps_weaker}
use Rattle.winnow_tree.proofs.convert.TreeErrorBitsErrorConvertTreeError.convert.Goals as goal

pub returns-clause-ok : goal.returns-clause-ok
returns-clause-ok g c = maps_weaker c.args.self c.map_input.result _ (λ i j. j ≡ bits_inner i) (λ i j p. p) c.map_input.ensures
