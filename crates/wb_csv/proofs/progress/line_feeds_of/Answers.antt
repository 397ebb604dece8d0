use Rattle.std.proofs.Common.{ap, sym, ◌∙◌}
use Rattle.wb_base.specs.Positions.{line_feeds}
use Rattle.wb_csv.proofs.lemmas.LineLemmas.{no-feeds}
use Rattle.wb_csv.proofs.progress.line_feeds_of.Goals as goal

pub returns-then-feeds-eq0 : goal.returns-then-feeds-eq0
returns-then-feeds-eq0 c =
    no-feeds c.args.row.now (ap line_feeds (sym c.as_slice.ensures) ∙ sym c.line_feeds-feeds.ensures ∙ c.if-feeds-eq0.true)
