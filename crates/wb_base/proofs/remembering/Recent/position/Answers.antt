use Rattle.std.proofs.Common.{arith}
use Rattle.wb_base.proofs.lemmas.RecentLemmas.{recent-fits, recent-position, column-le}
use Rattle.wb_base.proofs.remembering.Recent.position.Goals as goal

pub returns : goal.returns
returns c = λ taken is fits.
    let before = c.args.before.now in
    let recent = c.args.self.now in
    let f = recent-fits taken before recent is fits in
    let column = c.column_after-column.ensures (omega (arith, f.1)) in
    recent-position taken before recent _ is
    (omega (arith, f.0, c.line_feeds.ensures, c.saturating_add-feeds.ensures, c.saturating_add.ensures))
    (omega (arith, f.1, column, column-le recent.column before, c.saturating_add-2.ensures))
