-- Where a text stands between two tokens, and what the next token does there.
use Rattle.std.specs.Prelude.{ℕ, ◌-◌, ◌==◌, nat_lt, Bool, true, false, ◌||◌, if◌then◌else◌, Option, Some, None, List, [], ◌∷◌, ◌++◌, length, take, slice_get, unwrap_or, Result, Ok, Err}
use Rattle.std.specs.Char.{is_ascii_digit}
use Rattle.format_json.specs.declared.tokens.Token.{Token}
use Rattle.format_json.specs.declared.tokens.Token.TheVariants as token
use Rattle.format_json_events.specs.declared.event_reader.Event.{Event}
use Rattle.format_json_events.specs.declared.event_reader.Event.TheVariants as event
use Rattle.format_json_events.specs.declared.turns.Bracket.{Bracket}
use Rattle.format_json_events.specs.declared.turns.Bracket.TheVariants as bracket
use Rattle.format_json_events.specs.declared.turns.Expected.{Expected}
use Rattle.format_json_events.specs.declared.turns.Expected.TheVariants as expect
use Rattle.format_json_events.specs.declared.turns.Misplaced.{Misplaced}
use Rattle.format_json_events.specs.declared.turns.Misplaced.TheVariants.{Unexpected, TooDeep, EndsEarly}
use Rattle.format_json_events.specs.declared.turns.Turn.{Turn}
use Rattle.format_json_events.specs.declared.turns.Turn.TheVariants.{Opens, Closes, Gives, Names, Passes, Ends, Refuses}
use Rattle.format_json_events.specs.declared.syntax.Syntax.{Syntax}
use Rattle.format_json_events.specs.declared.syntax.Taken.{Taken}
use Rattle.format_json_events.specs.declared.syntax.Taken.TheVariants as taken

-- ---- What a token does

-- a value or a name begins, unless the value would stand too deep
abbrev pub within : Bool → Turn → Turn
within true turn = Refuses TooDeep
within false turn = turn

-- where a value is expected
abbrev pub value_turn : Bool → Token → Turn
value_turn deep token.StartArray = within deep (Opens bracket.Array)
value_turn deep token.StartObject = within deep (Opens bracket.Object)
value_turn deep token.Null = within deep (Gives event.Null)
value_turn deep (token.Bool b) = within deep (Gives (event.Bool b))
value_turn deep (token.Number n) = within deep (Gives (event.Number n))
value_turn deep (token.String s) = within deep (Gives (event.String s))
value_turn deep token.End = Refuses EndsEarly
value_turn deep other = Refuses Unexpected

-- where a name is expected
abbrev pub key_turn : Bool → Token → Turn
key_turn deep (token.String s) = within deep (Names s)
key_turn deep token.End = Refuses EndsEarly
key_turn deep other = Refuses Unexpected

-- after a value in an array or an object
abbrev pub next_turn : Token → Bracket → Turn
next_turn token.Comma bracket.Array = Passes expect.Value
next_turn token.Comma bracket.Object = Passes expect.Key
next_turn token.EndArray bracket.Array = Closes bracket.Array
next_turn token.EndObject bracket.Object = Closes bracket.Object
next_turn token.End inner = Refuses EndsEarly
next_turn other inner = Refuses Unexpected

-- where this is expected, in an array or an object
abbrev pub turn_of : Bool → Bracket → Expected → Token → Turn
turn_of deep inner expect.Value token = value_turn deep token
turn_of deep inner expect.FirstValue token.EndArray = Closes bracket.Array
turn_of deep inner expect.FirstValue token = value_turn deep token
turn_of deep inner expect.FirstKey token.EndObject = Closes bracket.Object
turn_of deep inner expect.FirstKey token = key_turn deep token
turn_of deep inner expect.Key token = key_turn deep token
turn_of deep inner expect.Colon token.Colon = Passes expect.Value
turn_of deep inner expect.Colon token.End = Refuses EndsEarly
turn_of deep inner expect.Colon token = Refuses Unexpected
turn_of deep inner expect.Next token = next_turn token inner
turn_of deep inner expect.End token.End = Ends
turn_of deep inner expect.End token = Refuses Unexpected

-- ---- What may begin there

-- a value that is neither an array nor an object may stand where this is expected; a string, which
-- `quoted` says, may be a name too
abbrev pub takes_scalar : Bool → Expected → Bool
takes_scalar quoted expect.Value = true
takes_scalar quoted expect.FirstValue = true
takes_scalar quoted expect.FirstKey = quoted
takes_scalar quoted expect.Key = quoted
takes_scalar quoted other = false

-- why such a value or name may not stand there; none where it may
abbrev pub scalar_bar : Bool → Bool → Expected → Option Misplaced
scalar_bar deep quoted expected =
    if takes_scalar quoted expected then (if deep then Some TooDeep else None)
    else Some Unexpected

-- a number or a word begins with the byte: a digit, a minus, or an n, t or f
abbrev pub begins_plain : ℕ → Bool
begins_plain first =
    is_ascii_digit first || (45 == first || (110 == first || (116 == first || 102 == first)))

-- ---- Where a text stands

-- what the brackets begin that are open, of which the last is the innermost; what may come next;
-- and within how many arrays and objects a value may stand
pub record TextState : Type 0 where
  pub open_brackets : List Bracket
  pub expected : Expected
  pub depth : ℕ

-- the start of a text
abbrev pub at_begin : ℕ → TextState
at_begin depth = record { open_brackets = []; expected = expect.Value; depth = depth }

-- what a program's `Syntax` shows
abbrev pub state_of : Syntax → TextState
state_of s = record { open_brackets = s.open.items; expected = s.expected; depth = s.depth }

-- what the innermost bracket begins; an array where none is open
abbrev pub inner_of : List Bracket → Bracket
inner_of open_brackets =
    unwrap_or (slice_get open_brackets (length open_brackets - 1)) bracket.Array

-- what comes after a value
abbrev pub after_value : List Bracket → Expected
after_value [] = expect.End
after_value (b ∷ more) = expect.Next

-- what comes after a bracket that begins this
abbrev pub first_in : Bracket → Expected
first_in bracket.Array = expect.FirstValue
first_in bracket.Object = expect.FirstKey

-- an array or an object begins
abbrev pub opened : TextState → Bracket → TextState
opened s b = record s { open_brackets = s.open_brackets ++ b ∷ []; expected = first_in b }

-- the innermost array or object ends
abbrev pub closed : TextState → TextState
closed s =
    let open_brackets = take (length s.open_brackets - 1) s.open_brackets in
    record s { open_brackets = open_brackets; expected = after_value open_brackets }

-- this is expected next
abbrev pub expecting : TextState → Expected → TextState
expecting s expected = record s { expected = expected }

-- a value would stand too deep there
abbrev pub is_deep : TextState → Bool
is_deep s = nat_lt s.depth (length s.open_brackets)

-- what a token does there
abbrev pub turn_at : TextState → Token → Turn
turn_at s token = turn_of (is_deep s) (inner_of s.open_brackets) s.expected token

-- why a string may not stand there, or a value that is neither a string nor an array nor an object
abbrev pub bar_at : TextState → Bool → Option Misplaced
bar_at s quoted = scalar_bar (is_deep s) quoted s.expected

-- why what begins with the byte may not stand there: a string, which a quote begins, a number or a
-- word; none where it may, or where none of these does
abbrev pub bar_from : TextState → ℕ → Option Misplaced
bar_from s first =
    if 34 == first then bar_at s true else (if begins_plain first then bar_at s false else None)

-- where the text stands then; a token that may not stand there changes nothing
abbrev pub after_turn : TextState → Turn → TextState
after_turn s (Opens b) = opened s b
after_turn s (Closes b) = closed s
after_turn s (Gives e) = expecting s (after_value s.open_brackets)
after_turn s (Names name) = expecting s expect.Colon
after_turn s (Passes expected) = expecting s expected
after_turn s Ends = s
after_turn s (Refuses misplaced) = s

-- ---- The events

-- that an array or an object begins
abbrev pub start_of : Bracket → Event
start_of bracket.Array = event.StartArray
start_of bracket.Object = event.StartObject

-- that one ends
abbrev pub finish_of : Bracket → Event
finish_of bracket.Array = event.EndArray
finish_of bracket.Object = event.EndObject

-- the events of what a token does: one or none
abbrev pub turn_events : Turn → List Event
turn_events (Opens b) = start_of b ∷ []
turn_events (Closes b) = finish_of b ∷ []
turn_events (Gives e) = e ∷ []
turn_events (Names name) = event.Key name ∷ []
turn_events (Passes expected) = []
turn_events Ends = []
turn_events (Refuses misplaced) = []

-- what the program makes of what a token does
abbrev pub answer_of : Turn → Result Taken Misplaced
answer_of (Opens b) = Ok (taken.Has (start_of b))
answer_of (Closes b) = Ok (taken.Has (finish_of b))
answer_of (Gives e) = Ok (taken.Has e)
answer_of (Names name) = Ok (taken.Has (event.Key name))
answer_of (Passes expected) = Ok taken.Passes
answer_of Ends = Ok taken.Passes
answer_of (Refuses misplaced) = Err misplaced
