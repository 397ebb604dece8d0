use Rattle.std.proofs.Common.{ap, ◌∙◌, arith}
use Rattle.winnow_stream.specs.Source.{units}
use Rattle.winnow_stream.proofs.lemmas.UnitLemmas.{units-drop, le-from_is_offset}
use Rattle.winnow_script_feed.proofs.buffers.forget_bytes.Goals as goal

pub drop_bytes-requires : goal.drop_bytes-requires
drop_bytes-requires c = omega (arith, le-from_is_offset c.args.kept.now.items c.args.n c.requires, c.args.kept.now.ok.0)

pub returns-clause-source : goal.returns-clause-source
returns-clause-source c = ap units c.drop_bytes.ensures ∙ units-drop c.args.kept.now.items c.args.n (le-from_is_offset c.args.kept.now.items c.args.n c.requires)
