use Rattle.std.proofs.Common.{rules}
use Rattle.wb_base.proofs.lemmas.ExchangeLemmas.{excerpts-parts}
use Rattle.wb_base.proofs.exchanging.exchanged_excerpt.Goals as goal

pub returns : goal.returns
returns c =
    excerpts-parts c.args.one c.args.other c.saturating_sub.result c.min.result c.args.before.now c.args.rest.now c.deref.result.now c.deref-2.result.now c.new.result (search rules) (search rules) c.new.ensures
