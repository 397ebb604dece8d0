-- The head of a reply: the whole of one that is no array with replies in it, or the line with which
-- an array begins.
use Rattle.std.specs.Prelude.{◌≡◌, ℕ, ◌+◌, ◌-◌, ◌≤◌, ◌<◌, Bool, true, false, List, ◌∷◌, ◌++◌, length, drop, Some, Result, Ok, Err, ◌⊎◌}
use Rattle.std.specs.Borrow.{Bor}
use Rattle.winnow_stream.specs.Source.{units}
use Rattle.winnow_parser.specs.Outcome.{Meaning}
use Rattle.winnow_reader.specs.Place.{IsByteSlice}
use Rattle.winnow_reader.specs.State.{ReaderState, waiting_for, fed_of}
use Rattle.winnow_reader.specs.Reading.{MayFollow}
use Rattle.winnow_reader.specs.Answering.{NeedsLength}
use Rattle.winnow_reader.specs.SameValues.{IsThrough}
use Rattle.winnow_scan.specs.Waiting.{ScansOn}
use Rattle.format_resp.specs.Language.{line, IsLength, greatest_count, Spells}
use Rattle.format_resp.specs.Meanings.{Nested}
use Rattle.format_resp.specs.Scan.{IsScanned}
use Rattle.format_resp.specs.Answers.{IsSettled}
use Rattle.format_resp.specs.Causes.{IsDamaged}
use Rattle.format_resp.specs.declared.causes.Cause.{Cause}
use Rattle.format_resp.specs.declared.grammar.ReplyTo.{ReplyTo}
use Rattle.format_resp.specs.declared.reply.Reply.{Reply}
use Rattle.format_resp_events.specs.declared.heads.ArrayHead.{ArrayHead}
use Rattle.format_resp_events.specs.declared.heads.Head.{Head}
use Rattle.format_resp_events.specs.declared.heads.Head.TheVariants as head
use Rattle.format_resp_events.specs.declared.event_reader.EventError.{EventError}
use Rattle.format_resp_events.specs.declared.event_reader.EventError.TheVariants as error

-- the bytes begin with the line of an array
abbrev pub BeginsArray : List ℕ → Type 0
BeginsArray bytes = (text : List ℕ) × ((n : ℕ) × ((after : List ℕ)
    × (IsLength greatest_count text (Some n) × (bytes ≡ 42 ∷ (line text ++ after)))))

-- the bytes begin with this line of an array
abbrev pub IsArrayHead : List ℕ → ArrayHead → Type 0
IsArrayHead bytes h = (text : List ℕ) × ((after : List ℕ)
    × (IsLength greatest_count text (Some h.count) × (bytes ≡ 42 ∷ (line text ++ after))
    × (h.width ≡ length text + 3)))

-- the one reader has these bytes ahead, and the other stands after them and wants none
pub record Passes (old : ReaderState ReplyTo) (bytes : List ℕ) (new : ReaderState ReplyTo) : Type 0 where
  pub whole : old.ahead ≡ bytes ++ new.ahead
  pub place : new.place ≡ old.place + length bytes
  pub parser : new.parser ≡ old.parser
  pub ended : new.ended ≡ old.ended
  pub wanted : new.wanted ≡ 0

-- a reply breaks off at the place, among the bytes that are ahead or after them, for this cause
-- within this limit on depth, whatever follows: no reply begins there, or one does that
-- `read_reply` finds damaged
abbrev pub BreaksWithin : ℕ → ReaderState ReplyTo → ℕ → Cause → Type 0
BreaksWithin depth f place cause = (f.place ≤ place) × (place ≤ fed_of f)
    × ((more : List ℕ) (partial : Bool) → MayFollow f.ended more partial
    → IsSettled partial cause × IsDamaged f.parser.longest depth cause
    (units (f.ahead ++ more)) (units (drop (place - f.place) (f.ahead ++ more))))

-- the parser of replies, over the bytes that a reader has ahead
abbrev pub Reading : ReplyTo → Meaning Reply ℕ
Reading r = Nested (λ byte. byte) true IsByteSlice (λ (slice : Bor (List ℕ)). slice.now) r.longest r.depth

-- the scan of a reply goes on after the bytes ahead: its parser has neither a reply nor a failure
abbrev pub ScanGoesOn : ReaderState ReplyTo → Type 0
ScanGoesOn f = ScansOn Reading (λ (r : ReplyTo). IsScanned r.longest r.depth) f

-- the parser needs more, and as many bytes are wanted now; or the scan goes on, and nothing changes
abbrev pub AsksOrScans : ReaderState ReplyTo → ReaderState ReplyTo → Type 0
AsksOrScans old new = NeedsLength (Reading old.parser) old.place old.ahead new.wanted
    ⊎ (ScanGoesOn old × (new ≡ old))

-- more is needed, and may come: where as many bytes are ahead as were wanted, the parser needs
-- more or the scan goes on; where fewer are, nothing changes
pub record WantsMore (old new : ReaderState ReplyTo) : Type 0 where
  pub goes_on : old.ended ≡ false
  pub asked : old.wanted ≤ length old.ahead → AsksOrScans old new
  pub early : length old.ahead < old.wanted → new ≡ old

-- the head that is ahead of the one reader, which the other has passed; or that its bytes are not
-- there yet, and only how many bytes are wanted changes; or the end, with nothing left; or the
-- reply breaks off, within each limit on depth, of which only 0 is one where `deep` says so; or
-- memory was refused
abbrev pub IsHead : Bool → ReaderState ReplyTo → Result Head EventError → ReaderState ReplyTo
    → Type 0
IsHead deep old (Ok (head.Whole reply)) new =
    (bytes : List ℕ) × (Passes old bytes new × Spells old.parser.longest 0 reply bytes)
IsHead deep old (Ok (head.Array count)) new = (deep ≡ false) × ((text : List ℕ)
    × (Passes old (42 ∷ line text) new × IsLength greatest_count text (Some count)))
IsHead deep old (Ok head.NeedsMore) new = WantsMore old new × (new ≡ waiting_for old new.wanted)
IsHead deep old (Ok head.End) new = IsThrough old × (new ≡ old)
IsHead deep old (Err (error.Damaged place cause)) new = (new ≡ old)
    × ((depth : ℕ) → (deep ≡ true → depth ≡ 0) → BreaksWithin depth old place cause)
IsHead deep old (Err (error.Refused r)) new = new ≡ old
