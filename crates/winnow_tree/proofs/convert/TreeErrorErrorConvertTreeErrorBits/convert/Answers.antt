use Rattle.std.proofs.Common.{◌≡◌}
use Rattle.winnow_views.specs.BitStream.{bits_inner, bits_place}
use Rattle.winnow_tree.proofs.lemmas.MapLemmas.{maps_weaker}
use Rattle.winnow_tree.proofs.convert.TreeErrorErrorConvertTreeErrorBits.convert.Goals as goal

pub returns-clause-ok : goal.returns-clause-ok
returns-clause-ok g c = maps_weaker c.args.self c.map_input.result _ (λ i j. (bits_inner j ≡ i) × (bits_place j ≡ 0)) (λ i j p. p) c.map_input.ensures
