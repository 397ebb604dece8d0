use Rattle.format_resp3.specs.ReplyLaws.{IsFormat-Reply}
use Rattle.format_resp3.proofs.format.reply_law.Goals as goal

pub returns-clause-once : goal.returns-clause-once
returns-clause-once c longest depth = (IsFormat-Reply longest depth).canonical

pub returns-clause-apart : goal.returns-clause-apart
returns-clause-apart c longest depth = (IsFormat-Reply longest depth).prefix_free
