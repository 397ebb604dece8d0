use Rattle.std.proofs.Common.{ap, ◌∙◌}
use Rattle.winnow_script_feed.specs.Feeding.{FeedState}
use Rattle.winnow_script_feed.proofs.text_feeds.TextFeed.tried.Goals as goal

pub returns : goal.returns
returns c = λ pieces h. ap (λ (f : FeedState). f.run.tried) c.self.view_is ∙ h.tried
