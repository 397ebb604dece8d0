use Rattle.std.proofs.Common.{ap, ◌∙◌}
use Rattle.winnow_script_feed.specs.Feeding.{FeedState}
use Rattle.winnow_script_feed.proofs.feeds.ByteFeed.answers.Goals as goal

pub returns : goal.returns
returns c = λ pieces h. c.deref.ensures.value ∙ ap (λ (f : FeedState). f.run.told.items) c.self.view_is ∙ h.told
