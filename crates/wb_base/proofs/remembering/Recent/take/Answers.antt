use Rattle.std.proofs.Common.{arith}
use Rattle.wb_base.proofs.lemmas.RecentLemmas.{recent-fits, recent-more}
use Rattle.wb_base.proofs.remembering.Recent.take.Goals as goal

pub returns : goal.returns
returns c = λ taken is fits.
    let bytes = c.args.bytes.now in
    let recent = c.args.self.now in
    let f = recent-fits taken bytes recent is fits in
    recent-more taken bytes recent _ is fits
    (omega (arith, f.0, c.line_feeds.ensures, c.saturating_add-self.ensures))
    (c.column_after-self.ensures (omega (arith, f.1)))
    (c.keep_last.ensures taken is.last)
