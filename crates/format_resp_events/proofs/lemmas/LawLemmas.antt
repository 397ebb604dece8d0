-- What the law of events says of a reader.
use Rattle.std.proofs.Common.{◌≡◌, ℕ, List, ◌++◌, ap, sym, ◌∙◌, subst, append_assoc}
use Rattle.std.proofs.lemmas.List.{append-nil}
use Rattle.winnow_reader.specs.SameValues.{IsFrontOf}
use Rattle.format_resp_events.specs.Events.{AreReplies, SameEvent}
use Rattle.format_resp_events.specs.Written.{events_written}
use Rattle.format_resp_events.specs.Reading.{EventState, longest_of, AreBegun, HasGiven, IsWhole}
use Rattle.format_resp_events.specs.declared.event.ReplyEvent.{ReplyEvent}
use Rattle.format_resp_events.proofs.lemmas.WrittenLemmas.{begun-written}
use Rattle.format_resp_events.proofs.lemmas.BeginLemmas.{begun-first}

-- the bytes that a reader has passed are those that its events stand for
pub given-passed : (r : EventState) (input : List ℕ) (events : List ReplyEvent)
    → HasGiven r input events → input ≡ events_written events ++ r.replies.ahead
given-passed r input events h =
    h.whole ∙ ap (λ t. t ++ r.replies.ahead) (begun-written (longest_of r) r.depth r.open_arrays h.bytes events h.begun)

-- the events of a reader are the first ones of the replies that its input becomes
pub given-begins : (r : EventState) (input more : List ℕ) (events all : List ReplyEvent)
    → HasGiven r input events → AreReplies (longest_of r) r.depth (input ++ more) all
    → IsFrontOf SameEvent events all
given-begins r input more events all h are =
    let joined : input ++ more ≡ h.bytes ++ (r.replies.ahead ++ more) =
    ap (λ t. t ++ more) h.whole ∙ append_assoc h.bytes r.replies.ahead more in
    begun-first (longest_of r) r.depth r.open_arrays h.bytes (r.replies.ahead ++ more) events all h.begun
    (subst (λ t. AreReplies (longest_of r) r.depth t all) joined are)

-- a reader that is done has given the events of whole replies
pub given-whole : (r : EventState) (input : List ℕ) (events : List ReplyEvent)
    → HasGiven r input events → IsWhole r → AreReplies (longest_of r) r.depth input events
given-whole r input events h ((ended, none), closed) =
    let all : input ≡ h.bytes = h.whole ∙ ap (λ t. h.bytes ++ t) none ∙ append-nil h.bytes in
    subst (λ t. AreReplies (longest_of r) r.depth t events) (sym all)
    (subst (λ l. AreBegun (longest_of r) r.depth l h.bytes events) closed h.begun)
