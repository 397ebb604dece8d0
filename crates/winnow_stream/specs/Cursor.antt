-- A cursor on one list, and scripts of steps of any kind over it.
use Rattle.std.specs.Prelude.{ℕ, List, [], ◌∷◌, take, drop}
use Rattle.winnow_stream.specs.Source.{Source, width}

-- the number of tokens before the cursor, and before each mark, in the order in which marks were
-- made
pub record Cursor : Type 0 where
  pub index : ℕ
  pub marks : List ℕ

-- the cursor at the first token, with no mark
abbrev pub start : Cursor
start = record { index = 0; marks = [] }

-- what remains at the cursor
abbrev pub rest : {T : Type 0} → Source T → Cursor → Source T
rest all at = drop at.index all

-- the place of the token of that index: the width of the tokens before it
abbrev pub place : {T : Type 0} → Source T → ℕ → ℕ
place all i = width (take i all)

-- the answers of a script: each step answers at the cursor, and then moves it
module _ {S A : Type 0} (answer_at : S → Cursor → A) (moves : S → Cursor → Cursor) where
  abbrev pub answers_from : List S → Cursor → List A
  answers_from [] at = []
  answers_from (s ∷ ss) at = answer_at s at ∷ answers_from ss (moves s at)

-- the cursor after a script
module _ {S : Type 0} (moves : S → Cursor → Cursor) where
  abbrev pub cursor_after : List S → Cursor → Cursor
  cursor_after [] at = at
  cursor_after (s ∷ ss) at = cursor_after ss (moves s at)
