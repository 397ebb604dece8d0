-- The answers of a reader of replies, in the words of the protocol.
use Rattle.std.specs.Prelude.{◌≡◌, ◌≢◌, ℕ, Bool, true, false, List, [], ◌++◌, Result, Ok, Err, ⊤}
use Rattle.winnow_stream.specs.Source.{Source, units}
use Rattle.winnow_stream.specs.declared.needed.Needed.{Needed}
use Rattle.winnow_error.specs.declared.failure.Failure.{Failure}
use Rattle.winnow_error.specs.declared.failure.Failure.TheVariants.{Incomplete, Backtrack, Cut, Refused}
use Rattle.format_resp.specs.Language.{Spells}
use Rattle.format_resp.specs.Contents.{contents}
use Rattle.format_resp.specs.Ahead.{IsAhead}
use Rattle.format_resp.specs.Damage.{HasNoKind, StopsAt, BreaksOff}
use Rattle.format_resp.specs.declared.causes.Cause.{Cause}
use Rattle.format_resp.specs.declared.causes.Cause.TheVariants.{EndsInside}
use Rattle.format_resp.specs.declared.reply.Reply.{Reply}

-- the source begins with bytes that spell the reply, and then the rest
abbrev pub StandsAhead : ℕ → ℕ → Source ℕ → Reply → Source ℕ → Type 0
StandsAhead longest depth whole reply rest =
    (bytes : List ℕ) × (IsAhead whole bytes rest × Spells longest depth reply bytes)

-- the source does not begin with a reply within the limits
abbrev pub HasNoReply : ℕ → ℕ → Source ℕ → Type 0
HasNoReply longest depth whole = (reply : Reply) (rest : Source ℕ) → ¬ (StandsAhead longest depth whole reply rest)

-- more input can make a reply of the source
abbrev pub IsBegun : ℕ → ℕ → Source ℕ → Type 0
IsBegun longest depth whole = (more : List ℕ) × ((reply : Reply) × StandsAhead longest depth (whole ++ units more) reply [])

-- the source does not begin with a reply within the limits, and no input that may follow makes one
abbrev pub CannotBeReply : ℕ → ℕ → Bool → Source ℕ → Type 0
CannotBeReply longest depth partial whole =
    HasNoReply longest depth whole × (partial ≡ true → ¬ (IsBegun longest depth whole))

-- the cause is not that the input ends, where more may follow
abbrev pub IsSettled : Bool → Cause → Type 0
IsSettled partial cause = partial ≡ true → cause ≢ EndsInside

-- a reply within the limits breaks off at the rest, for some cause
abbrev pub BreaksOffFor : ℕ → ℕ → Bool → Source ℕ → Source ℕ → Type 0
BreaksOffFor longest depth partial whole rest =
    (cause : Cause) × (IsSettled partial cause × BreaksOff false cause longest depth whole rest)

-- the result is a reply with which the source begins, with the rest; or the source begins with none
-- and cannot, and the result is a backtrack if the first byte is that of no kind, which consumes
-- nothing, or a cut if a reply breaks off at the rest; or more input is needed, if more may follow
-- and a reply breaks off at the end; or memory was refused
abbrev pub IsAnswer : {E : Type 0} → ℕ → ℕ → Bool → Source ℕ → Result Reply (Failure E Needed)
    → Source ℕ → Type 0
IsAnswer longest depth partial whole (Ok reply) rest = StandsAhead longest depth whole reply rest
IsAnswer longest depth partial whole (Err (Backtrack e)) rest =
    CannotBeReply longest depth partial whole × HasNoKind whole × (whole ≡ rest) × (partial ≡ true → whole ≢ [])
IsAnswer longest depth partial whole (Err (Cut e)) rest =
    CannotBeReply longest depth partial whole × BreaksOffFor longest depth partial whole rest
IsAnswer longest depth partial whole (Err (Incomplete n)) rest =
    HasNoReply longest depth whole × (partial ≡ true) × StopsAt EndsInside (BreaksOff true EndsInside longest depth) whole []
IsAnswer longest depth partial whole (Err (Refused e)) rest = ⊤

-- the answer is a reply with the contents of this one, and with this rest after it, unless memory
-- was refused
abbrev pub IsGiven : {E : Type 0} → Result Reply (Failure E Needed) → Source ℕ → Reply → Source ℕ
    → Type 0
IsGiven (Ok given) rest reply after = (contents given ≡ contents reply) × (rest ≡ after)
IsGiven (Err (Backtrack e)) rest reply after = ⊥
IsGiven (Err (Cut e)) rest reply after = ⊥
IsGiven (Err (Incomplete n)) rest reply after = ⊥
IsGiven (Err (Refused e)) rest reply after = ⊤

-- each reply with which the source begins is returned, unless memory was refused: none is missed,
-- and no bytes spell two replies with different contents
abbrev pub GivesEach : {E : Type 0} → ℕ → ℕ → Source ℕ → Result Reply (Failure E Needed)
    → Source ℕ → Type 0
GivesEach longest depth whole result rest = (reply : Reply) (after : Source ℕ)
    → StandsAhead longest depth whole reply after → IsGiven result rest reply after
