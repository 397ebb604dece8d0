-- What a run over pieces stores, in terms of the joined input.
use Rattle.std.specs.Prelude.{◌≡◌, ℕ, ◌+◌, ◌-◌, ◌≤◌, ◌<◌, ◌^◌, Bool, true, false, nat_lt, if◌then◌else◌, List, ◌++◌, map, length, drop, Option, Some, slice_get, vec_len, vec_capacity}
use Rattle.winnow_stream.specs.Source.{Source, HasPositiveWidths, width}
use Rattle.winnow_stream.specs.Front.{back, is_offset}
use Rattle.winnow_stream.specs.Cursor.{Cursor, start, rest, place}
use Rattle.winnow_sets.specs.declared.char_set.CharSet.{CharSet}
use Rattle.winnow_script_run.specs.declared.search_steps.SearchStep.{SearchStep}
use Rattle.winnow_script_feed.specs.declared.progress.Progress.{Progress}
use Rattle.winnow_script_run.specs.Searching.{PlacedSearchAnswer}
use Rattle.winnow_script_run.specs.Definite.{PieceReading, is_definite}
use Rattle.winnow_script_attempt.specs.Settled.{IsSettled}
use Rattle.winnow_script_feed.specs.Reach.{Reaches, needed_from, needed_place}
use Rattle.winnow_script_feed.specs.ToldAnswers.{capped}
use Rattle.winnow_script_attempt.specs.Looks.{under}

-- the next step, if one remains
abbrev pub next_step : {T L : Type 0} → Progress T L → Option (SearchStep CharSet L)
next_step p = slice_get p.script.now (length p.told.items)

-- the steps that remain
abbrev pub steps_left : {T L : Type 0} → Progress T L → List (SearchStep CharSet L)
steps_left p = drop (length p.told.items) p.script.now

-- the answers that are out, without their numbers of pieces
abbrev pub answers_out : {T L : Type 0} → Progress T L → List (PlacedSearchAnswer T)
answers_out p = map (λ t. t.answer) p.told.items

-- the run stands for the joined input `all`, of which the tokens `kept` are kept: the answers that
-- are out lead to the cursor, and are definite if `strict`; all that remaining steps can reach is
-- kept; and the next step has settled what `settled` says
pub record IsRunOver {T L : Type 0} (strict : Bool) (k : PieceReading T CharSet L) (all kept : Source T) (p : Progress T L) : Type 0 where
  pub widths : HasPositiveWidths all
  pub at : Cursor
  pub reaches : Reaches strict k all start p.script.now (answers_out p) at
  pub here : p.place ≡ place all at.index
  pub marked : p.marks.items ≡ map (place all) at.marks
  pub first : ℕ
  pub reached : first ≤ needed_from all (steps_left p) at
  pub based : p.base ≡ place all first
  pub is_kept : kept ≡ drop first all
  pub settled : (s : SearchStep CharSet L) → next_step p ≡ Some s
      → IsSettled k s (rest all at) p.settled

-- the next step, if one remains, waits
abbrev pub IsAtRest : {T L : Type 0} → PieceReading T CharSet L → Source T → Progress T L → Type 0
IsAtRest {T} {L} k all p = (s : SearchStep CharSet L) → next_step p ≡ Some s → is_definite k s (back all p.place) ≡ false

-- the run stands for some joined input
abbrev pub IsRun : {T L : Type 0} → Bool → PieceReading T CharSet L → Source T → Progress T L
    → Type 0
IsRun {T} strict k kept p = (all : Source T) × IsRunOver strict k all kept p

-- there is room for each answer and mark that the steps make, no more marks than answers were made,
-- and the attempts are counted in `u64`
pub record HasRoom {T L : Type 0} (p : Progress T L) : Type 0 where
  pub told : length p.script.now ≤ vec_capacity p.told
  pub marks : length p.script.now ≤ vec_capacity p.marks
  pub made : vec_len p.marks ≤ vec_len p.told
  pub counted : p.tried < 2 ^ 64

-- the run may go on over what is kept: it stands for some joined input, its places fit in `usize`,
-- and it has room
pub record MayGoOn {T L : Type 0} (strict : Bool) (k : PieceReading T CharSet L) (kept : Source T) (p : Progress T L) : Type 0 where
  pub stands : IsRun strict k kept p
  pub fits : p.base + width kept < 2 ^ 64
  pub room : HasRoom p

-- for each joined input that the old run stands for, so does the new one
abbrev pub KeepsRun : {T L : Type 0} → Bool → PieceReading T CharSet L → Source T → Progress T L
    → Progress T L → Type 0
KeepsRun {T} strict k kept old new = (all : Source T) → IsRunOver strict k all kept old → IsRunOver strict k all kept new

-- for each joined input that the old run stands for, the next step of the new one waits
abbrev pub ComesToRest : {T L : Type 0} → Bool → PieceReading T CharSet L → Source T → Progress T L
    → Progress T L → Type 0
ComesToRest {T} strict k kept old new = (all : Source T) → IsRunOver strict k all kept old → IsAtRest k all new

-- the new run stands for what the old one stands for, and its next step, if one remains, waits
abbrev pub KeepsRunAtRest : {T L : Type 0} → Bool → PieceReading T CharSet L → Source T
    → Progress T L → Progress T L → Type 0
KeepsRunAtRest {T} strict k kept old new = (all : Source T) → IsRunOver strict k all kept old → IsRunOver strict k all kept new × IsAtRest k all new

-- the remaining steps need all that is kept of an input that ends at `end`
abbrev pub KeepsLeast : {T L : Type 0} → ℕ → Progress T L → Type 0
KeepsLeast end p = p.base ≡ needed_place end p.place p.marks.items (steps_left p)

-- the same, if there are no more answers than `before`
abbrev pub KeepsNeeded : {T L : Type 0} → ℕ → ℕ → Progress T L → Type 0
KeepsNeeded before end p = length p.told.items ≡ before → KeepsLeast end p

-- the answers that were added, all with one number of a piece or with none
pub record AddsAnswers {T L : Type 0} (piece : Option ℕ) (old new : Progress T L) : Type 0 where
  pub more : List (PlacedSearchAnswer T)
  pub told : new.told.items ≡ old.told.items ++ map (under piece) more

-- each step that was answered since was tried once, and so was the step that waits, if one remains
abbrev pub Tries : {T L : Type 0} → Progress T L → Progress T L → Type 0
Tries old new =
    new.tried ≡ capped (old.tried + (length new.told.items - length old.told.items) + (if nat_lt (length new.told.items) (length new.script.now) then 1 else 0))

-- if no answer was added, the cursor and the marks are where they were
abbrev pub StaysWithoutAnswer : {T L : Type 0} → Progress T L → Progress T L → Type 0
StaysWithoutAnswer old new = length new.told.items ≡ length old.told.items → (new.place ≡ old.place) × (new.marks ≡ old.marks)

-- the marks that were added
pub record AddsMarks {T L : Type 0} (old new : Progress T L) : Type 0 where
  pub more : List ℕ
  pub marks : new.marks.items ≡ old.marks.items ++ more

-- the run went on: it has the same script, keeps the same input, and has more answers or is where
-- it was
pub record GoesOn {T L : Type 0} (piece : Option ℕ) (old new : Progress T L) : Type 0 where
  pub script : new.script ≡ old.script
  pub base : new.base ≡ old.base
  pub pieces : new.pieces ≡ old.pieces
  pub adds : AddsAnswers piece old new
  pub makes : AddsMarks old new
  pub still : StaysWithoutAnswer old new
  pub told : vec_len old.told ≤ vec_len new.told
  pub room : HasRoom new

-- for each joined input that the old run stands for, the new one stands for it with a front of
-- width `unneeded` dropped, and its next step, if one remains, waits; that front is one of what was
-- kept, and the remaining steps need all the rest
pub record TakesIn {T L : Type 0} (k : PieceReading T CharSet L) (kept : Source T) (unneeded : ℕ) (old new : Progress T L) : Type 0 where
  pub stands : (all : Source T) → IsRunOver true k all kept old
      → IsRunOver true k all (back kept unneeded) new × IsAtRest k all new
  pub offset : is_offset kept unneeded ≡ true
  pub base : new.base ≡ old.base + unneeded
  pub least : KeepsLeast (old.base + width kept) new

-- one piece was taken: it is counted, the same script gave its answers with the piece's number,
-- each of them and the waiting step were tried once, and there is room
pub record TakesPiece {T L : Type 0} (old new : Progress T L) : Type 0 where
  pub script : new.script ≡ old.script
  pub pieces : new.pieces ≡ capped (old.pieces + 1)
  pub adds : AddsAnswers (Some new.pieces) old new
  pub tried : Tries old new
  pub told : vec_len old.told ≤ vec_len new.told
  pub room : HasRoom new
