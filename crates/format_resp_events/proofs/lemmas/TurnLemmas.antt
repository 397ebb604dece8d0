-- What a reader of events has given after one more answer.
use Rattle.std.proofs.Common.{◌≡◌, ℕ, ◌+◌, ◌-◌, ◌<◌, ◌≤◌, Bool, true, false, List, [], ◌∷◌, ◌++◌, length, Some, refl, ap, sym, ◌∙◌, subst, arith, append_assoc}
use Rattle.std.specs.Prelude.{Result, Ok, Err}
use Rattle.std.proofs.lemmas.List.{append-nil, length-append}
use Rattle.winnow_reader.specs.State.{ReaderState, pushed, waiting_for}
use Rattle.format_resp.specs.Language.{line, IsLength, greatest_count, Spells}
use Rattle.format_resp.specs.declared.grammar.ReplyTo.{ReplyTo}
use Rattle.format_resp.specs.declared.reply.Reply.{Reply}
use Rattle.format_resp.specs.declared.reply.Reply.TheViews.{out-Reply}
use Rattle.format_resp_events.specs.Events.{first_event}
use Rattle.format_resp_events.specs.Heads.{Passes, WantsMore, IsHead}
use Rattle.format_resp_events.specs.OpenArrays.{is_due, IsDue, after_array, after_head}
use Rattle.format_resp_events.specs.Reading.{EventState, longest_of, AreBegun, HasGiven, GivesAlso, GivesOn, IsNext}
use Rattle.format_resp_events.specs.declared.event.ReplyEvent.{ReplyEvent}
use Rattle.format_resp_events.specs.declared.event.ReplyEvent.TheVariants as event
use Rattle.format_resp_events.specs.declared.heads.Head.{Head}
use Rattle.format_resp_events.specs.declared.heads.Head.TheVariants as head
use Rattle.format_resp_events.specs.declared.event_reader.EventError.{EventError}
use Rattle.format_resp_events.specs.declared.event_reader.EventError.TheVariants as error
use Rattle.winnow_reader.specs.declared.next.Next.TheVariants as next
use Rattle.format_resp_events.proofs.lemmas.EventLemmas.{not-due, begun-end, begun-array, begun-head}

-- a reader with this reader of replies, open arrays that lack these numbers of replies, and this
-- limit on depth
abbrev pub state_at : ReaderState ReplyTo → List ℕ → ℕ → EventState
state_at replies lacks depth =
    record { replies = replies; open_arrays = lacks; depth = depth }

-- a reader with this reader of replies, and open arrays that lack these numbers of replies
abbrev pub reader_at : EventState → ReaderState ReplyTo → List ℕ → EventState
reader_at old replies lacks =
    record { replies = replies; open_arrays = lacks; depth = old.depth }

-- nothing was taken and nothing was given
pub gives-same : (old : EventState) (replies : ReaderState ReplyTo) (lacks : List ℕ)
    → replies.ahead ≡ old.replies.ahead → replies.place ≡ old.replies.place
    → replies.parser ≡ old.replies.parser → lacks ≡ old.open_arrays
    → GivesOn old [] (reader_at old replies lacks)
gives-same old replies lacks ahead place parser same input before h = record {
  bytes = h.bytes;
  whole = h.whole ∙ ap (λ t. h.bytes ++ t) (sym ahead);
  place = place ∙ h.place;
  begun = subst (λ events. AreBegun replies.parser.longest old.depth lacks h.bytes events) (sym (append-nil before))
      (subst (λ l. AreBegun replies.parser.longest old.depth l h.bytes before) (sym same)
      (subst (λ (r : ReplyTo). AreBegun r.longest old.depth old.open_arrays h.bytes before) (sym parser) h.begun));
}

-- at the start nothing was given
pub gives-none : (r : EventState) → r.replies.ahead ≡ [] → r.replies.place ≡ 0
    → r.open_arrays ≡ [] → HasGiven r [] []
gives-none r ahead place closed = record {
  bytes = [];
  whole = sym ahead;
  place = place;
  begun = subst (λ l. AreBegun (longest_of r) r.depth l [] []) (sym closed) (0, (refl, refl));
}

-- with a piece more the same was given
pub gives-pushed : (old : EventState) (replies : ReaderState ReplyTo) (piece : List ℕ)
    → replies ≡ pushed old.replies piece
    → GivesAlso old piece (reader_at old replies old.open_arrays)
gives-pushed old replies piece e input events h = record {
  bytes = h.bytes;
  whole = ap (λ t. t ++ piece) h.whole ∙ append_assoc h.bytes old.replies.ahead piece
      ∙ ap (λ (f : ReaderState ReplyTo). h.bytes ++ f.ahead) (sym e);
  place = ap (λ (f : ReaderState ReplyTo). f.place) e ∙ h.place;
  begun = subst (λ (f : ReaderState ReplyTo). AreBegun f.parser.longest old.depth old.open_arrays h.bytes events) (sym e) h.begun;
}

-- an array ended
pub gives-end : (old : EventState) (lacks : List ℕ) → is_due old.open_arrays ≡ false
    → lacks ≡ after_array old.open_arrays
    → GivesOn old (event.EndArray ∷ []) (reader_at old old.replies lacks)
gives-end old lacks none same input before h =
    let k = not-due old.open_arrays none in
    let begun = subst (λ l. AreBegun (longest_of old) old.depth l h.bytes before) k.1 h.begun in
    record {
      bytes = h.bytes;
      whole = h.whole;
      place = h.place;
      begun = subst (λ l. AreBegun (longest_of old) old.depth l h.bytes (before ++ event.EndArray ∷ []))
          (sym (same ∙ ap after_array k.1)) (begun-end (longest_of old) old.depth k.0 h.bytes before begun);
    }

-- bytes were passed, and are what began
gives-passed : (old : EventState) (replies : ReaderState ReplyTo) (lacks one : List ℕ)
    (e : ReplyEvent) → Passes old.replies one replies
    → ((bytes : List ℕ) (events : List ReplyEvent) → AreBegun (longest_of old) old.depth old.open_arrays bytes events
    → AreBegun (longest_of old) old.depth lacks (bytes ++ one) (events ++ e ∷ []))
    → GivesOn old (e ∷ []) (reader_at old replies lacks)
gives-passed old replies lacks one e p on input before h = record {
  bytes = h.bytes ++ one;
  whole = h.whole ∙ ap (λ t. h.bytes ++ t) p.whole ∙ sym (append_assoc h.bytes one replies.ahead);
  place = omega (arith, p.place, h.place, length-append h.bytes one);
  begun = subst (λ (r : ReplyTo). AreBegun r.longest old.depth lacks (h.bytes ++ one) (before ++ e ∷ [])) (sym p.parser)
      (on h.bytes before h.begun);
}

-- a whole reply was taken
pub gives-whole : (old : EventState) (replies : ReaderState ReplyTo) (lacks one : List ℕ)
    (y : Reply) → IsDue old.open_arrays → Passes old.replies one replies
    → Spells old.replies.parser.longest 0 y one → lacks ≡ after_head (out-Reply y) old.open_arrays
    → GivesOn old (first_event (out-Reply y) ∷ []) (reader_at old replies lacks)
gives-whole old replies lacks one y due p spells same =
    gives-passed old replies lacks one (first_event (out-Reply y)) p
    (λ bytes events h. subst (λ l. AreBegun (longest_of old) old.depth l (bytes ++ one) (events ++ first_event (out-Reply y) ∷ []))
    (sym same) (begun-head (longest_of old) old.depth (out-Reply y) old.open_arrays bytes one events due h spells))

-- the line of an array was taken
pub gives-array : (old : EventState) (replies : ReaderState ReplyTo) (lacks text : List ℕ) (n : ℕ)
    → IsDue old.open_arrays → Passes old.replies (42 ∷ line text) replies
    → IsLength greatest_count text (Some n) → length old.open_arrays < old.depth
    → lacks ≡ n ∷ old.open_arrays
    → GivesOn old (event.StartArray n ∷ []) (reader_at old replies lacks)
gives-array old replies lacks text n due p is deep same =
    gives-passed old replies lacks (42 ∷ line text) (event.StartArray n) p
    (λ bytes events h. subst (λ l. AreBegun (longest_of old) old.depth l (bytes ++ 42 ∷ line text) (events ++ event.StartArray n ∷ []))
    (sym same) (begun-array (longest_of old) old.depth old.open_arrays bytes text events n due h is (λ some. deep)))

-- ---- Answers

-- where no head is, the reply that is due breaks off, or memory was refused
pub next-failed : (old : EventState) (replies : ReaderState ReplyTo) (lacks : List ℕ) (deep : Bool)
    (e : EventError) → IsHead deep old.replies (Err e) replies → lacks ≡ old.open_arrays
    → (deep ≡ true → old.depth ≤ length old.open_arrays)
    → IsNext old (Err e) (reader_at old replies lacks)
next-failed old replies lacks deep (error.Damaged place cause) (same, breaks) e within = (
  breaks (old.depth - length old.open_arrays) (λ is. omega (arith, within is)),
  ap (λ f. reader_at old f lacks) same ∙ ap (reader_at old old.replies) e,
)
next-failed old replies lacks deep (error.Refused r) same e within =
    ap (λ f. reader_at old f lacks) same ∙ ap (reader_at old old.replies) e

-- where more is needed, only how many bytes are wanted changes
pub next-waits : (old : EventState) (replies : ReaderState ReplyTo) (lacks : List ℕ)
    → IsDue old.open_arrays → WantsMore old.replies replies
    → replies ≡ waiting_for old.replies replies.wanted → lacks ≡ old.open_arrays
    → IsNext old (Ok next.NeedsMore) (reader_at old replies lacks)
next-waits old replies lacks due wants same e = (
  due,
  wants,
  ap (λ f. reader_at old f lacks) same ∙ ap (reader_at old (waiting_for old.replies replies.wanted)) e,
)

-- ---- Heads

-- a whole reply is what was passed
pub head-whole : (deep : Bool) (old new : ReaderState ReplyTo) (result : Result Head EventError)
    (y : Reply) → result ≡ Ok (head.Whole y) → IsHead deep old result new
    → (bytes : List ℕ) × (Passes old bytes new × Spells old.parser.longest 0 y bytes)
head-whole deep old new result y e h = subst (λ r. IsHead deep old r new) e h

-- so is the line of an array, where one may stand
pub head-array : (deep : Bool) (old new : ReaderState ReplyTo) (result : Result Head EventError)
    (n : ℕ) → result ≡ Ok (head.Array n) → IsHead deep old result new
    → (deep ≡ false) × ((text : List ℕ)
    × (Passes old (42 ∷ line text) new × IsLength greatest_count text (Some n)))
head-array deep old new result n e h = subst (λ r. IsHead deep old r new) e h

-- where its bytes are not there, more is needed
pub head-waits : (deep : Bool) (old new : ReaderState ReplyTo) (result : Result Head EventError)
    → result ≡ Ok head.NeedsMore → IsHead deep old result new
    → WantsMore old new × (new ≡ waiting_for old new.wanted)
head-waits deep old new result e h = subst (λ r. IsHead deep old r new) e h

-- where there is none, the error says why
pub head-failed : (deep : Bool) (old new : ReaderState ReplyTo) (result : Result Head EventError)
    (e : EventError) → result ≡ Err e → IsHead deep old result new → IsHead deep old (Err e) new
head-failed deep old new result e is h = subst (λ r. IsHead deep old r new) is h
