use Rattle.std.proofs.Common.{rules}
use Rattle.std.proofs.lemmas.List.Edits.{map_over_more}
use Rattle.wb_base.specs.Exchanging.{exchanged_byte}
use Rattle.wb_base.proofs.exchanging.exchange.Goals as goal

pub loop-index-preserved : goal.loop-index-preserved
loop-index-preserved c = search (rules, map_over_more (exchanged_byte c.args.one c.args.other))
