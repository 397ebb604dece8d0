-- What each step of a script answers at a cursor, and where it leaves the cursor.
use Rattle.std.specs.Prelude.{◌≡◌, ℕ, ◌+◌, ◌-◌, min, nat_le, Bool, cond, List, [], ◌∷◌, ◌++◌, length, drop, Option, Some, None, unwrap_or, ⊤}
use Rattle.std.specs.List.{All}
use Rattle.std.specs.Global.{Vec}
use Rattle.std.specs.declared.ops.Range.{Range}
use Rattle.winnow_stream.specs.Source.{Source, width, first_token, first_offset, offsets, Computes}
use Rattle.winnow_stream.specs.Front.{front_count, is_offset, back, part}
use Rattle.winnow_stream.specs.Shortage.{offset_at}
use Rattle.winnow_stream.specs.Cursor.{Cursor, start, rest, place, answers_from, cursor_after}
use Rattle.winnow_stream.specs.Span.{span}
use Rattle.winnow_stream.specs.declared.needed.Needed.{Needed}
use Rattle.winnow_script_run.specs.Needs.{call_need, call_mark, mark_of, Move, stays, past_token, past_width, to_end, to_mark, marking, call_move}
use Rattle.winnow_script_run.specs.declared.need.Need.{Need}
use Rattle.winnow_script_run.specs.declared.need.Need.TheVariants as need
use Rattle.winnow_script_run.specs.declared.script.Step.{Step}
use Rattle.winnow_script_run.specs.declared.script.Step.TheVariants as step
use Rattle.winnow_script_run.specs.declared.script.Answer.{Answer}
use Rattle.winnow_script_run.specs.declared.script.Answer.TheVariants as answer

-- an answer whose slices and items are places in the list
abbrev pub PlacedAnswer : Type 0 → Type 0
PlacedAnswer T = Answer T (Range ℕ) (Range ℕ) Needed

-- the slice of width n at place a, if n is the width of a front
abbrev pub slice_answer : {T : Type 0} → ℕ → ℕ → Option ℕ → PlacedAnswer T
slice_answer a n None = answer.BadOffset
slice_answer a n (Some count) = answer.Slice (span a n)

-- the cursor after going back to a mark
abbrev pub reset_answer : {T : Type 0} → Option ℕ → PlacedAnswer T
reset_answer None = answer.NoMark
reset_answer (Some mark) = answer.Done

-- the width from a mark to the cursor at index i
abbrev pub since_answer : {T : Type 0} → Source T → ℕ → Option ℕ → PlacedAnswer T
since_answer all i None = answer.NoMark
since_answer all i (Some mark) = cond (nat_le mark i) (answer.Offset (width (drop mark all) - width (drop i all))) answer.LaterMark

-- what a call answers where r remains at a place. `holds` says what each set holds,
-- `counts_shortage` whether a shortage is counted, `count` how many marks were made, and `back` and
-- `since` what a `Reset` and a `Since` answer for the mark that the call names
module _ {C T : Type 0} (holds : C → T → Bool) (counts_shortage : Bool) (here : ℕ) (r : Source T) (count : ℕ) (back since : PlacedAnswer T) where
  abbrev pub call_answer : Step C → PlacedAnswer T
  call_answer step.Next = answer.Token (first_token r)
  call_answer step.Peek = answer.Token (first_token r)
  call_answer (step.Take n) = slice_answer here n (front_count r n)
  call_answer (step.Look n) = slice_answer here n (front_count r n)
  call_answer step.Finish = answer.Slice (span here (width r))
  call_answer step.PeekFinish = answer.Slice (span here (width r))
  call_answer step.Eof = answer.Offset (width r)
  call_answer (step.At n) = answer.At (offset_at counts_shortage r n)
  call_answer (step.IsOffset n) = answer.Flag (is_offset r n)
  call_answer (step.First c) = answer.First (first_offset (holds c) r)
  call_answer step.Each = answer.Items (span here (width r))
  call_answer step.Mark = answer.Marked count
  call_answer (step.Reset k) = back
  call_answer (step.Since k) = since

-- what a step answers at the cursor
abbrev pub step_answer : {C T : Type 0} → (C → T → Bool) → Bool → Source T → Step C → Cursor
    → PlacedAnswer T
step_answer holds counts_shortage all s at =
    let mark = mark_of at.marks (call_mark s) in
    call_answer holds counts_shortage (place all at.index) (rest all at) (length at.marks) (reset_answer mark) (since_answer all at.index mark) s

-- the cursor after a move, for a call that names this mark
module _ {T : Type 0} (all : Source T) (at : Cursor) (mark : Option ℕ) where
  abbrev pub moved : Move → Cursor
  moved stays = at
  moved past_token = record at { index = min (at.index + 1) (length all) }
  moved (past_width n) = record at { index = at.index + unwrap_or (front_count (rest all at) n) 0 }
  moved to_end = record at { index = length all }
  moved to_mark = record at { index = unwrap_or (mark_of at.marks mark) at.index }
  moved marking = record at { marks = at.marks ++ at.index ∷ [] }

-- the cursor after a step
abbrev pub step_next : {C T : Type 0} → Source T → Step C → Cursor → Cursor
step_next all s at = moved all at (call_mark s) (call_move s)

-- the answers of a script on a list
abbrev pub answers : {C T : Type 0} → (C → T → Bool) → Bool → Source T → List (Step C)
    → List (PlacedAnswer T)
answers holds counts_shortage all script = answers_from (step_answer holds counts_shortage all) (step_next all) script start

-- what remains of a list after a script
abbrev pub rest_after : {C T : Type 0} → Source T → List (Step C) → Source T
rest_after all script = rest all (cursor_after (step_next all) script start)

-- the given answer is the one that the definition gives: a slice is the one at that place, and
-- items are those at that place
module _ {T S : Type 0} (is_slice : S → Source T → ℕ → Type 0) (all : Source T) where
  abbrev pub StandsFor : PlacedAnswer T → Answer T S (Vec (ℕ × T)) Needed → Type 0
  StandsFor (answer.Token t) given = given ≡ answer.Token t
  StandsFor (answer.Slice p) given = (s : S) × (given ≡ answer.Slice s) × is_slice s (back all p.start) (p.end - p.start)
  StandsFor (answer.Offset n) given = given ≡ answer.Offset n
  StandsFor (answer.At r) given = given ≡ answer.At r
  StandsFor (answer.Flag b) given = given ≡ answer.Flag b
  StandsFor (answer.First o) given = given ≡ answer.First o
  StandsFor (answer.Items p) given = (v : Vec (ℕ × T)) × (given ≡ answer.Items v) × (v.items ≡ offsets (part all p))
  StandsFor (answer.Marked k) given = given ≡ answer.Marked k
  StandsFor answer.Done given = given ≡ answer.Done
  StandsFor answer.BadOffset given = given ≡ answer.BadOffset
  StandsFor answer.NoMark given = given ≡ answer.NoMark
  StandsFor answer.LaterMark given = given ≡ answer.LaterMark

-- the set of which a token is needed, if any, answers what `holds` says
abbrev pub NeedComputes : {C T : Type 0} → (C → T → Bool → Type 0) → (C → T → Bool) → Need C
    → Type 0
NeedComputes may_answer holds (need.TokenOf c) = Computes (may_answer c) (holds c)
NeedComputes may_answer holds _ = ⊤

-- the set that a step names, if any, answers what `holds` says
abbrev pub SetComputes : {C T : Type 0} → (C → T → Bool → Type 0) → (C → T → Bool) → Step C → Type 0
SetComputes may_answer holds s = NeedComputes may_answer holds (call_need s)

-- each set that a script names answers what `holds` says
abbrev pub SetsCompute : {C T : Type 0} → (C → T → Bool → Type 0) → (C → T → Bool) → List (Step C)
    → Type 0
SetsCompute may_answer holds script = All (SetComputes may_answer holds) script

-- each step has a given answer, in order, at the cursor that the steps before it left
module _ {S G : Type 0} (IsGiven : S → Cursor → G → Type 0) (moves : S → Cursor → Cursor) where
  abbrev pub AreGiven : List S → Cursor → List G → Type 0
  AreGiven [] at [] = ⊤
  AreGiven [] at (g ∷ gs) = ⊥
  AreGiven (s ∷ ss) at [] = ⊥
  AreGiven (s ∷ ss) at (g ∷ gs) = IsGiven s at g × AreGiven ss (moves s at) gs

-- the given answer stands for the step's answer, for each `holds` that the step's set computes
abbrev pub IsAnswer : {C T S : Type 0} → (C → T → Bool → Type 0) → (S → Source T → ℕ → Type 0)
    → Bool → Source T → Step C → Cursor → Answer T S (Vec (ℕ × T)) Needed → Type 0
IsAnswer {C} {T} may_answer is_slice counts_shortage all step at given =
    (holds : C → T → Bool) → SetComputes may_answer holds step
    → StandsFor is_slice all (step_answer holds counts_shortage all step at) given

-- each given answer is one of its step; a set that does not compute has no effect on other answers
abbrev pub AreAnswers : {C T S : Type 0} → (C → T → Bool → Type 0) → (S → Source T → ℕ → Type 0)
    → Bool → Source T → List (Step C) → List (Answer T S (Vec (ℕ × T)) Needed) → Type 0
AreAnswers may_answer is_slice counts_shortage all script given =
    AreGiven (IsAnswer may_answer is_slice counts_shortage all) (step_next all) script start given

-- the set that a step names, if any, meets the condition under which it may be asked
abbrev pub IsReady : {C : Type 0} → (C → Type 0) → Step C → Type 0
IsReady can (step.First c) = can c
IsReady can _ = ⊤

-- each set that a script names meets that condition
abbrev pub AreReady : {C : Type 0} → (C → Type 0) → List (Step C) → Type 0
AreReady can script = All (IsReady can) script
