-- What the program has read of its input, where it stands, and what it prints.
use Rattle.std.specs.Prelude.{◌≡◌, ℕ, ◌+◌, ◌-◌, ◌<◌, ◌^◌, true, false, not, List, [], ◌∷◌, ◌++◌, length, take, drop, map, Option, Some, None, IfSome, Result, Ok, Err, ⊤, ◌⊎◌}
use Rattle.std.specs.Io.KnownBytes.{Appends}
use Rattle.winnow_parser.specs.Outcome.{Meaning}
use Rattle.winnow_reader.specs.State.{ReaderState, fed_of}
use Rattle.winnow_reader.specs.Reading.{HasRead, Lacks}
use Rattle.winnow_reader.specs.Answering.{FailsAt, IdlesAt}
use Rattle.winnow_scan.specs.Scanning.{AwaitsMore}
use Rattle.winnow_stream.specs.Source.{units}
use Rattle.format_resp.specs.Answers.{IsSettled}
use Rattle.format_resp.specs.Causes.{IsDamaged}
use Rattle.format_resp.specs.declared.causes.Cause.{Cause}
use Rattle.format_resp.specs.declared.reply.Reply.{Reply}
use Rattle.wb_base.specs.Excerpts.{IsExcerpt}
use Rattle.wb_base.specs.declared.excerpt.Excerpt.{Excerpt}
use Rattle.wb_replies.specs.declared.placed.Placed.{Placed}
use Rattle.wb_replies.specs.declared.placed.PlacedReply.{PlacedReply}
use Rattle.wb_replies.specs.declared.positions.Position.{Position}
use Rattle.wb_replies.specs.declared.failure.Failure.{Failure}
use Rattle.wb_replies.specs.declared.failure.Failure.TheVariants.{NoReply, EndsInside, Stopped}
use Rattle.wb_replies.specs.Positions.{start, position_after, IsPosition}
use Rattle.wb_replies.specs.Layouts.{printed_all}
use Rattle.wb_replies.specs.declared.layout.Layout.{Layout}

-- the replies of what was read
abbrev pub replies_of : List Placed → List Reply
replies_of values = map (λ placed. placed.reply) values

-- the place is that of the reader, and no number of it comes to its limit
pub record IsSteady (f : ReaderState PlacedReply) (place : Position) : Type 0 where
  pub counted : IsPosition place
  pub same : place.byte ≡ f.place
  pub fits : fed_of f + 1 < 2 ^ 64

-- of this joined input the reader took a front, which leads to the place; the rest is ahead
pub record StandsAt (input : List ℕ) (f : ReaderState PlacedReply) (place : Position) : Type 0 where
  pub front : List ℕ
  pub whole : input ≡ front ++ f.ahead
  pub count : f.place ≡ length front
  pub leads : place ≡ position_after start front

-- the other reader has the same parser and the same input
pub record HasSameInput (old new : ReaderState PlacedReply) : Type 0 where
  pub parser : new.parser ≡ old.parser
  pub ended : new.ended ≡ old.ended
  pub fed : fed_of new ≡ fed_of old

-- of each joined input where the one stands, the other stands too
abbrev pub StandsOn : ReaderState PlacedReply → Position → ReaderState PlacedReply → Position
    → Type 0
StandsOn old place new there = (input : List ℕ) → StandsAt input old place → StandsAt input new there

-- the reply that came next, if one did
abbrev pub next_replies : Option Reply → List Reply
next_replies None = []
next_replies (Some reply) = reply ∷ []

-- what the program answers at the end of the input, where its last replies answered so: no reply
-- stands where the input ends inside one, of which this is the first line
abbrev pub ended_as : Result (Unit {0}) Failure → Position → Option Excerpt
    → Result (Unit {0}) Failure
ended_as (Ok done) place excerpt = Ok done
ended_as (Err (NoReply p cause line)) place excerpt = Err (EndsInside place excerpt)
ended_as (Err (EndsInside p line)) place excerpt = Err (EndsInside p line)
ended_as (Err (Stopped trouble)) place excerpt = Err (Stopped trouble)

-- this holds, unless memory was refused, or reading or writing failed
abbrev pub OnAnswer : Result (Unit {0}) Failure → Type 0 → Type 0
OnAnswer (Ok done) p = p
OnAnswer (Err (NoReply place cause excerpt)) p = p
OnAnswer (Err (EndsInside place excerpt)) p = p
OnAnswer (Err (Stopped trouble)) p = ⊤

-- the bytes that are ahead break off at this place of the joined input, as a reply within the
-- limits does for this cause, which no more input changes
abbrev pub IsCauseAt : ReaderState PlacedReply → ℕ → Cause → Type 0
IsCauseAt f there cause = IsSettled (not f.ended) cause
    × IsDamaged f.parser.limits.longest f.parser.limits.depth cause (units f.ahead) (units (drop (there - f.place) f.ahead))

module _ (means : PlacedReply → Meaning Placed ℕ) where
  -- no matter what was read, the other reader has read that, and these replies after it
  abbrev pub ReadsReplies : ReaderState PlacedReply → List Reply → ReaderState PlacedReply → Type 0
  ReadsReplies old replies new = (input : List ℕ) (values : List Placed) → HasRead means old input values
      → (more : List Placed) × (HasRead means new input (values ++ more) ×
      (replies_of more ≡ replies))

  -- the other reader has given all that there is: after the end of the input nothing is left, and
  -- before it, no matter what was read, the parser asked for more than came since, or of what is
  -- ahead it needs more or has neither a value nor a failure
  abbrev pub HasNoneLeft : ReaderState PlacedReply → ReaderState PlacedReply → Type 0
  HasNoneLeft old new = (new.ended ≡ true → new.ahead ≡ []) × (new.ended ≡ false → (input : List ℕ) (values : List Placed)
      → HasRead means old input values → Lacks means new ⊎ AwaitsMore (means new.parser) new.ahead)

  -- no matter what follows, the parser fails there, for this cause
  abbrev pub FailsFor : ReaderState PlacedReply → ℕ → Cause → Type 0
  FailsFor f there cause = FailsAt means f there × IsCauseAt f there cause

  -- the failure is that of the parser, no matter what follows: it fails there for the cause, or
  -- takes nothing. And the bytes from the reader's place on lead there, where the excerpt is from
  abbrev pub FailsThere : ReaderState PlacedReply → Position → Failure → Type 0
  FailsThere f place (NoReply p cause excerpt) = (FailsFor f p.byte cause ⊎ IdlesAt means f p.byte)
      × (p ≡ position_after place (take (p.byte - f.place) f.ahead))
      × IfSome excerpt (IsExcerpt (take (p.byte - f.place) f.ahead) (drop (p.byte - f.place) f.ahead))
  FailsThere f place (EndsInside p excerpt) = ⊥
  FailsThere f place (Stopped trouble) = ⊤

  -- of this input the reader has read these replies, and stands at this place of it
  pub record Follows (input : List ℕ) (replies : List Reply) (f : ReaderState PlacedReply)
      (place : Position) : Type 0 where
    pub stands : StandsAt input f place
    pub values : List Placed
    pub read : HasRead means f input values
    pub shows : replies_of values ≡ replies

  -- of this input the reader has read these replies and more, and the others were printed
  pub record Continues (layout : Layout) (input : List ℕ) (replies : List Reply) (f : ReaderState PlacedReply)
      (place : Position)
      (old new : Option (List ℕ)) : Type 0 where
    pub more : List Reply
    pub follows : Follows input (replies ++ more) f place
    pub written : Appends old new (printed_all layout more)

  -- of these bytes, to which more may come, a reader with that parser has read replies, and they
  -- were printed after what the output had before
  pub record HasPrinted (layout : Layout) (parser : PlacedReply) (input before : List ℕ) (output : Option (List ℕ))
      (f : ReaderState PlacedReply) (place : Position) : Type 0 where
    pub replies : List Reply
    pub follows : Follows input replies f place
    pub written : output ≡ Some (before ++ printed_all layout replies)
    pub same : f.parser ≡ parser
    pub goes_on : f.ended ≡ false

  -- how a reader stands when the program ends, with this rest of its input unread: at the end with
  -- nothing left; where no reply stands, no matter what follows; or at the end, before the reply
  -- that is not whole
  abbrev pub EndsAs : ReaderState PlacedReply → Position → List ℕ → Result (Unit {0}) Failure
      → Type 0
  EndsAs f place rest (Ok done) = (rest ≡ []) × (f.ended ≡ true) × (f.ahead ≡ [])
  EndsAs f place rest (Err (NoReply p cause excerpt)) = FailsThere f place (NoReply p cause excerpt)
  EndsAs f place rest (Err (EndsInside p excerpt)) = (rest ≡ []) × (f.ended ≡ true) × (p ≡ place)
      × IfSome excerpt (IsExcerpt [] f.ahead)
  EndsAs f place rest (Err (Stopped trouble)) = ⊤

  -- the program read a front of this input with that parser and printed its replies, and ended as
  -- it says
  pub record Tells (layout : Layout) (parser : PlacedReply) (whole before : List ℕ) (new : Option (List ℕ))
      (result : Result (Unit {0}) Failure) : Type 0 where
    pub input : List ℕ
    pub rest : List ℕ
    pub splits : whole ≡ input ++ rest
    pub replies : List Reply
    pub reader : ReaderState PlacedReply
    pub place : Position
    pub same : reader.parser ≡ parser
    pub follows : Follows input replies reader place
    pub written : new ≡ Some (before ++ printed_all layout replies)
    pub ends : EndsAs reader place rest result

  -- it has printed so, if it is known what the output had
  abbrev pub Prints : Layout → PlacedReply → List ℕ → Option (List ℕ) → Option (List ℕ)
      → ReaderState PlacedReply → Position → Type 0
  Prints layout parser input had now f place =
      (before : List ℕ) → had ≡ Some before → HasPrinted layout parser input before now f place

  -- it tells so, if it is known what the output had, unless memory was refused, or reading or
  -- writing failed
  abbrev pub TellsInput : Layout → PlacedReply → List ℕ → Option (List ℕ) → Option (List ℕ)
      → Result (Unit {0}) Failure → Type 0
  TellsInput layout parser input had now result = (before : List ℕ) → had ≡ Some before
      → OnAnswer result (Tells layout parser input before now result)
