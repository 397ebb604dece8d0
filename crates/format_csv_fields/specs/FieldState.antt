-- What a reader of fields shows, and what a call makes of it.
use Rattle.std.specs.Prelude.{ℕ, Bool, false, List, []}
use Rattle.winnow_reader.specs.State.{ReaderState, at_start, pushed, unspent, ended_after}
use Rattle.format_csv.specs.declared.grammar.Row.{Row}

-- what a reader of fields shows: where the next field begins in the joined input, the bytes ahead
-- of it, and whether the input has ended; whether a comma came before it in its record; the value
-- that is lent; and how long the text of a field may be
pub record FieldState : Type 0 where
  pub state : ReaderState Row
  pub within : Bool
  pub field : List ℕ
  pub limit : ℕ

-- a reader that nothing was pushed to
abbrev pub new_reader : ℕ → FieldState
new_reader limit =
    record { state = at_start (record {}); within = false; field = []; limit = limit }

-- a reader that lends nothing
abbrev pub lends_nothing : FieldState → FieldState
lends_nothing f = record f { field = [] }

-- a reader after a piece
abbrev pub fields_pushed : FieldState → List ℕ → FieldState
fields_pushed f piece = record f { state = pushed f.state piece; field = [] }

-- a reader that dropped what fields took
abbrev pub fields_unspent : FieldState → FieldState
fields_unspent f = record f { state = unspent f.state; field = [] }

-- a reader after the end
abbrev pub fields_ended : FieldState → FieldState
fields_ended f = record f { state = ended_after f.state }
