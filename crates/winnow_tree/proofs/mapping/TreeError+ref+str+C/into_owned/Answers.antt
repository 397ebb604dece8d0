use Rattle.std.proofs.Common.{◌≡◌, rules, string_bytes}
use Rattle.winnow_tree.proofs.lemmas.MapLemmas.{maps_weaker}
use Rattle.winnow_tree.proofs.mapping.TreeError+ref+str+C.into_owned.Goals as goal

pub returns : goal.returns
returns g c = maps_weaker c.args.self c.map_tree.result _ (λ i j. string_bytes j ≡ i.now) (λ i j p. search rules) c.map_tree.ensures
