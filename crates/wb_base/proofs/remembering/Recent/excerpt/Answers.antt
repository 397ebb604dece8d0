use Rattle.std.proofs.Common.{rules}
use Rattle.wb_base.proofs.lemmas.RecentLemmas.{excerpts-before, excerpts-last}
use Rattle.wb_base.proofs.remembering.Recent.excerpt.Goals as goal

pub returns-then-before-ge-WIDTH : goal.returns-then-before-ge-WIDTH
returns-then-before-ge-WIDTH c = λ taken is.
    excerpts-before taken c.args.before.now c.args.rest.now c.new.result c.new.ensures

pub returns : goal.returns
returns c = λ taken is.
    excerpts-last taken c.args.self.now.last.items c.args.before.now c.deref.result.now c.args.rest.now c.new-2.result is.last (search rules) c.new-2.ensures
