use Rattle.std.proofs.Common.{refl, ap, ◌∙◌}
use Rattle.wb_replies.specs.Positions.{position_after}
use Rattle.wb_replies.proofs.placed.PlacedReplyRecord.read.Goals as goal

pub returns-in-Ok-clause-means : goal.returns-in-Ok-clause-means
returns-in-Ok-clause-means c =
    let end = c.after.ensures.after ∙ ap (λ p. position_after p c.in-Ok.taken.now) c.start.ensures in
    let means = rw c.with_taken.ensures.inner at c.in-Ok.ensures.means in
    ((c.in-Ok.reply, c.in-Ok.taken), ((refl, end), means))

pub returns-in-Err-clause-means : goal.returns-in-Err-clause-means
returns-in-Err-clause-means c = rw c.with_taken.ensures.inner at c.in-Err.ensures.means
