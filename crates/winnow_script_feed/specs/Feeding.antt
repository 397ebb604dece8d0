-- What a feed stores, and what it means that a feed fits a list of pieces.
use Rattle.std.specs.Prelude.{◌≡◌, ℕ, ◌+◌, ◌≤◌, ◌<◌, ◌^◌, true, List, [], ◌∷◌, ◌++◌, length, take, drop}
use Rattle.std.specs.List.{AllByRecursion}
use Rattle.std.specs.Borrow.{Bor}
use Rattle.winnow_stream.specs.Source.{width}
use Rattle.winnow_stream.specs.Cursor.{start, cursor_after}
use Rattle.winnow_script_attempt.specs.declared.told.Told.{Told}
use Rattle.winnow_script_feed.specs.declared.finished.Finished.{Finished}
use Rattle.winnow_script_feed.specs.declared.progress.Progress.{Progress}
use Rattle.winnow_script_run.specs.Searching.{search_next}
use Rattle.winnow_script_feed.specs.Inputs.{PieceStep, InputRules, joined}
use Rattle.winnow_script_feed.specs.Reach.{needed_from}
use Rattle.winnow_script_feed.specs.declared.named_marks.NamedMarks.{NamedMarks}
use Rattle.winnow_script_feed.specs.NamedMarks.{KnowsMarks}
use Rattle.winnow_script_feed.specs.JoinedInput.{IsRunOver, IsAtRest, HasRoom, KeepsLeast}
use Rattle.winnow_script_feed.specs.ToldAnswers.{capped, out_on, told_of, tried_of, told_to_end, last_place}

-- what a feed stores: the progress of the script, and the bytes that are kept
pub record FeedState : Type 0 where
  pub run : Progress ℕ (Bor (List ℕ))
  pub kept : List ℕ

-- the number of bytes that were fed
abbrev pub bytes_fed : FeedState → ℕ
bytes_fed f = f.run.base + length f.kept

abbrev pub script_of : FeedState → List PieceStep
script_of f = f.run.script.now

-- all answers of a script, and its final place
abbrev pub answers_in : {T : Type 0} → Finished T → List (Told T)
answers_in finished = finished.told.items

abbrev pub place_in : {T : Type 0} → Finished T → ℕ
place_in finished = finished.place

module _ (i : InputRules) where
  -- the number of bytes that are kept of a joined input: all from the first one that the remaining
  -- steps need
  abbrev pub held_of : List PieceStep → List ℕ → ℕ
  held_of script input =
      let n = length (out_on i script input) in
      width (drop (needed_from (i.source input) (drop n script) (cursor_after (search_next (i.source input)) (take n script) start)) (i.source input))

  -- the number of bytes that are kept after these pieces
  abbrev pub held_after : List PieceStep → List (List ℕ) → ℕ
  held_after script [] = 0
  held_after script (p ∷ pieces) = held_of script (joined (p ∷ pieces))

  -- the feed stores what this joined input left, and no more of it than the remaining steps need
  pub record HoldsInput (f : FeedState) (input : List ℕ) : Type 0 where
    pub is_input : i.valid input ≡ true
    pub is_kept : i.valid f.kept ≡ true
    pub stands : IsRunOver true i.pieces (i.source input) (i.source f.kept) f.run
    pub least : KeepsLeast (bytes_fed f) f.run

  -- the feed stands for some input; once a piece was fed, its next step waits; there is room for
  -- each answer and mark; the places fit in `usize`; and the marks that steps name are known
  pub record IsSound (f : FeedState) (named : NamedMarks) : Type 0 where
    pub input : List ℕ
    pub stands : HoldsInput f input
    pub rests : 0 < f.run.pieces → IsAtRest i.pieces (i.source input) f.run
    pub room : HasRoom f.run
    pub fits : f.run.base + length f.kept < 2 ^ 64
    pub knows : KnowsMarks f.run.script.now f.run.marks.items (length f.run.told.items) named

  -- the feed fits these pieces: it stands for the joined pieces, its next step waits once there is
  -- a piece, and its answers and attempts are those of the pieces
  pub record Fits (f : FeedState) (pieces : List (List ℕ)) : Type 0 where
    pub are_pieces : AllByRecursion (λ piece. i.valid piece ≡ true) pieces
    pub stands : HoldsInput f (joined pieces)
    pub rests : 0 < length pieces → IsAtRest i.pieces (i.source (joined pieces)) f.run
    pub told : f.run.told.items ≡ told_of i (script_of f) pieces
    pub count : f.run.pieces ≡ capped (length pieces)
    pub tried : f.run.tried ≡ tried_of i (script_of f) pieces

  -- for all pieces that the old feed fits, the new feed fits them with the piece appended
  abbrev pub FitsWith : FeedState → List ℕ → FeedState → Type 0
  FitsWith old piece new = (pieces : List (List ℕ)) → Fits old pieces → Fits new (pieces ++ piece ∷ [])

  -- the piece gives n more answers
  abbrev pub LetsOut : FeedState → List ℕ → ℕ → Type 0
  LetsOut f piece n =
      (pieces : List (List ℕ)) → Fits f pieces
      → length (told_of i (script_of f) (pieces ++ piece ∷ []))
      ≡ length (told_of i (script_of f) pieces) + n

  -- each step is answered
  abbrev pub IsAnswered : FeedState → Type 0
  IsAnswered f = (pieces : List (List ℕ)) × Fits f pieces × (length (script_of f) ≤ length (told_of i (script_of f) pieces))

  -- these are all answers of a script on the pieces, and its final place
  pub record Finishes (script : List PieceStep) (pieces : List (List ℕ)) (finished : Finished ℕ) : Type 0 where
    pub answers : answers_in finished ≡ told_to_end i script pieces
    pub cursor : place_in finished ≡ last_place i script pieces
