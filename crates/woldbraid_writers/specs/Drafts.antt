-- A JSON text that is being written, and what each call makes of it. 44 is a comma, 58 a colon, 91
-- and 93 are the brackets of an array, 123 and 125 those of an object.
use Rattle.std.specs.Prelude.{◌≡◌, ℕ, ℤ, ◌-◌, nat_lt, Bool, true, false, if◌then◌else◌, List, [], ◌∷◌, ◌++◌, length, take, slice_get, Option, Some, None, IsUtf8, ◌⊎◌, ⊤}
use Rattle.std.specs.Fmt.{signed_decimal}
use Rattle.format_json.specs.Language.{null_word, bool_word}
use Rattle.format_json_scalars.specs.Numbers.{IsNumber}
use Rattle.format_json_scalars.specs.Quoting.{written_string}
use Rattle.woldbraid_writers.specs.declared.due.Bracket.{Bracket}
use Rattle.woldbraid_writers.specs.declared.due.Bracket.TheVariants as bracket
use Rattle.woldbraid_writers.specs.declared.due.Due.{Due}
use Rattle.woldbraid_writers.specs.declared.due.Due.TheVariants as due
use Rattle.woldbraid_writers.specs.declared.status.Status.{Status}
use Rattle.woldbraid_writers.specs.declared.status.Status.TheVariants as status
use Rattle.woldbraid_writers.specs.declared.json_writer.JsonWriter.{JsonWriter}

-- ---- What may come next

-- a value may
abbrev pub takes_value : Due → Bool
takes_value due.Value = true
takes_value due.FirstValue = true
takes_value due.NextValue = true
takes_value other = false

-- a name may
abbrev pub takes_name : Due → Bool
takes_name due.FirstName = true
takes_name due.NextName = true
takes_name other = false

-- the end of such an array or object may
abbrev pub takes_end : Due → Bracket → Bool
takes_end due.FirstValue bracket.Array = true
takes_end due.NextValue bracket.Array = true
takes_end due.FirstName bracket.Object = true
takes_end due.NextName bracket.Object = true
takes_end other b = false

-- a comma stands before the value or the name
abbrev pub needs_comma : Due → Bool
needs_comma due.NextValue = true
needs_comma due.NextName = true
needs_comma other = false

-- that comma, or nothing
abbrev pub comma_before : Due → List ℕ
comma_before d = if needs_comma d then 44 ∷ [] else []

-- what may come first in an array or an object
abbrev pub first_in : Bracket → Due
first_in bracket.Array = due.FirstValue
first_in bracket.Object = due.FirstName

-- what may come after a value in the innermost array or object, if there is one
abbrev pub next_in : Option Bracket → Due
next_in (Some bracket.Array) = due.NextValue
next_in (Some bracket.Object) = due.NextName
next_in None = due.Nothing

-- the bytes that begin and end it
abbrev pub opening : Bracket → ℕ
opening bracket.Array = 91
opening bracket.Object = 123

abbrev pub closing : Bracket → ℕ
closing bracket.Array = 93
closing bracket.Object = 125

-- ---- The text

-- a text that is being written: its bytes so far, but for those that were dropped; what the
-- brackets begin that are open, of which the last is the innermost; what may come next; and within
-- how many arrays and objects a value may stand
pub record Draft : Type 0 where
  pub text : List ℕ
  pub open_brackets : List Bracket
  pub due : Due
  pub depth : ℕ

-- what a writer has
abbrev pub draft_of : JsonWriter → Draft
draft_of w = record { text = w.text.items; open_brackets = w.open.items; due = w.due; depth = w.depth }

-- a text of which nothing is written
abbrev pub new_draft : ℕ → Draft
new_draft depth = record { text = []; open_brackets = []; due = due.Value; depth = depth }

-- what may come after a value, where these are open
abbrev pub after_value : List Bracket → Due
after_value open_brackets =
    next_in (slice_get open_brackets (length open_brackets - 1))

-- a value is written, by this text
abbrev pub value_added : Draft → List ℕ → Draft
value_added d text = record d {
  text = d.text ++ (comma_before d.due ++ text);
  due = after_value d.open_brackets;
}

-- a name is written, by this text
abbrev pub name_added : Draft → List ℕ → Draft
name_added d text = record d {
  text = d.text ++ (comma_before d.due ++ (text ++ 58 ∷ []));
  due = due.Value;
}

-- an array or an object begins
abbrev pub started : Draft → Bracket → Draft
started d b = record d {
  text = d.text ++ (comma_before d.due ++ opening b ∷ []);
  open_brackets = d.open_brackets ++ b ∷ [];
  due = first_in b;
}

-- the innermost array or object ends
abbrev pub finished : Draft → Bracket → Draft
finished d b =
    let open_brackets = take (length d.open_brackets - 1) d.open_brackets in
    record d {
      text = d.text ++ closing b ∷ [];
      open_brackets = open_brackets;
      due = after_value open_brackets;
    }

-- ---- The calls

-- what a call writes: a word or an integer, as these bytes; a number of this text; a string or a
-- name of these bytes; the start or the end of an array or an object
pub data Call : Type 0 where
  Word : List ℕ → Call
  Number : List ℕ → Call
  Quoted : List ℕ → Call
  Name : List ℕ → Call
  Start : Bracket → Call
  Finish : Bracket → Call

-- null, true or false, or an integer
abbrev pub IsWord : List ℕ → Type 0
IsWord text =
    (text ≡ null_word) ⊎ (((b : Bool) × (text ≡ bool_word b)) ⊎ ((n : ℤ) × (text ≡ signed_decimal n)))

-- JSON has it: a word is one, a number is one, a string and a name are UTF-8
abbrev pub IsSound : Call → Type 0
IsSound (Word text) = IsWord text
IsSound (Number text) = IsNumber text
IsSound (Quoted text) = IsUtf8 text
IsSound (Name text) = IsUtf8 text
IsSound (Start b) = ⊤
IsSound (Finish b) = ⊤

-- the text after the call
abbrev pub after_call : Draft → Call → Draft
after_call d (Word text) = value_added d text
after_call d (Number text) = value_added d text
after_call d (Quoted text) = value_added d (written_string text)
after_call d (Name text) = name_added d (written_string text)
after_call d (Start b) = started d b
after_call d (Finish b) = finished d b

-- a value or a name would stand too deep
abbrev pub deep_bar : Draft → Option Status
deep_bar d = if nat_lt d.depth (length d.open_brackets) then Some status.TooDeep else None

-- why a value may not come there, if it may not
abbrev pub value_bar : Draft → Option Status
value_bar d = if takes_value d.due then deep_bar d else Some status.Unexpected

-- why a name may not come there, if it may not
abbrev pub name_bar : Draft → Option Status
name_bar d = if takes_name d.due then deep_bar d else Some status.Unexpected

-- why the end may not come there, if it may not
abbrev pub end_bar : Draft → Bracket → Option Status
end_bar d b = if takes_end d.due b then None else Some status.Unexpected

-- why the call may not come there, if it may not
abbrev pub bar : Draft → Call → Option Status
bar d (Word text) = value_bar d
bar d (Number text) = value_bar d
bar d (Quoted text) = value_bar d
bar d (Name text) = name_bar d
bar d (Start b) = value_bar d
bar d (Finish b) = end_bar d b

-- why nothing was written
abbrev pub IsWhyNot : Draft → Call → Status → Type 0
IsWhyNot d call status.Unexpected = bar d call ≡ Some status.Unexpected
IsWhyNot d call status.TooDeep = bar d call ≡ Some status.TooDeep
IsWhyNot d call status.NoNumber = ¬ (IsSound call)
IsWhyNot d call status.BadUtf8 = ¬ (IsSound call)
IsWhyNot d call status.Refused = ⊤
IsWhyNot d call other = ⊥

-- the call was written, and could be; or nothing was, for the reason of the status
abbrev pub Writes : Draft → Call → Status → Draft → Type 0
Writes d call status.Ok e = (bar d call ≡ None) × IsSound call × (e ≡ after_call d call)
Writes d call s e = (e ≡ d) × IsWhyNot d call s

-- why a value was not written
abbrev pub IsWhyNoValue : Draft → Status → Type 0
IsWhyNoValue d status.Unexpected = value_bar d ≡ Some status.Unexpected
IsWhyNoValue d status.TooDeep = value_bar d ≡ Some status.TooDeep
IsWhyNoValue d status.Refused = ⊤
IsWhyNoValue d other = ⊥

-- a value was written, by this text, and may come there; or nothing was, for the reason of the
-- status
abbrev pub AddsValue : Draft → List ℕ → Status → Draft → Type 0
AddsValue d text status.Ok e = (value_bar d ≡ None) × (e ≡ value_added d text)
AddsValue d text s e = (e ≡ d) × IsWhyNoValue d s
