use Rattle.std.proofs.Common.{◌≡◌, ◌++◌, List, length}
use Rattle.format_resp.specs.declared.reply.Reply.{Reply}
use Rattle.wb_replies.specs.Session.{IsSteady, HasSameInput, StandsOn, ReadsReplies}
use Rattle.wb_replies.specs.Layouts.{printed_all}
use Rattle.wb_replies.specs.contracts.placed.PlacedReplyRecord.TheImpl.{ghosts}
use Rattle.wb_replies.proofs.session.take_replies.Given as goal

-- the replies taken so far are appended, and the place is still that of the reader
abbrev pub invariant-loop-reply : goal.invariant-loop-reply
invariant-loop-reply l = record {
  steady : IsSteady l.reader l.place;
  same : HasSameInput l.initial.reader l.reader;
  stands : StandsOn l.initial.reader l.initial.place l.reader l.place;
  printed : (replies : List Reply) × (ReadsReplies ghosts.means l.initial.reader replies l.reader
      × (l.text.items ≡ l.initial.text.items ++ printed_all l.layout replies));
}

abbrev pub decreases-loop-reply : goal.decreases-loop-reply
decreases-loop-reply l = length l.reader.ahead
