-- The answers of a script that are out after some pieces, and their numbers of pieces.
use Rattle.std.specs.Prelude.{◌≡◌, ℕ, ◌+◌, min, Bool, nat_lt, if◌then◌else◌, List, [], ◌∷◌, ◌++◌, length, drop, map, Option, None, Some, option_map, slice_get}
use Rattle.std.specs.Borrow.{Bor}
use Rattle.winnow_stream.specs.Cursor.{place}
use Rattle.winnow_match.specs.Search.{hit}
use Rattle.winnow_match.specs.declared.needles.Needles.TheVariants.{One}
use Rattle.winnow_script_attempt.specs.declared.told.Told.{Told}
use Rattle.winnow_script_attempt.specs.Looks.{under}
use Rattle.winnow_script_run.specs.declared.search_steps.SearchStep.TheVariants as step
use Rattle.winnow_script_run.specs.declared.search_steps.SearchAnswer.TheVariants as answer
use Rattle.winnow_script_run.specs.Searching.{PlacedSearchAnswer, search_answers, search_cursor}
use Rattle.winnow_script_run.specs.Definite.{kind_on_pieces, out}
use Rattle.winnow_script_feed.specs.Inputs.{PieceStep, InputRules, joined}

-- a count that stops at the greatest `u64`
abbrev pub greatest_count : ℕ
greatest_count = 18446744073709551615

abbrev pub capped : ℕ → ℕ
capped n = min n greatest_count

-- the length of the shortest nonempty front of the pieces that, joined and appended to `before`,
-- passes the test
abbrev pub shortest_front : (List ℕ → Bool) → List ℕ → List (List ℕ) → ℕ
shortest_front test before [] = 1
shortest_front test before (p ∷ pieces) = if test (before ++ p) then 1 else shortest_front test (before ++ p) pieces + 1

-- answers with the numbers k, k + 1 and so on, each with the piece that `number` gives for its
-- number
abbrev pub numbered : (ℕ → ℕ) → ℕ → List (PlacedSearchAnswer ℕ) → List (Told ℕ)
numbered number k [] = []
numbered number k (answer ∷ answers) = under (Some (capped (number k))) answer ∷ numbered number (k + 1) answers

module _ (i : InputRules) (script : List PieceStep) where
  -- the answers that are out on a joined input
  abbrev pub out_on : List ℕ → List (PlacedSearchAnswer ℕ)
  out_on input = out i.pieces (i.source input) script

  -- whether the answer of step k is out
  abbrev pub lets_out : ℕ → List ℕ → Bool
  lets_out k input = nat_lt k (length (out_on input))

  -- whether a step waits
  abbrev pub is_waiting : List ℕ → Bool
  is_waiting input = nat_lt (length (out_on input)) (length script)

  -- the number of the piece that made the answer of step k definite
  abbrev pub piece_of : List (List ℕ) → ℕ → ℕ
  piece_of pieces k = shortest_front (lets_out k) [] pieces

  -- the answers that are out after these pieces; there are none without a piece
  abbrev pub told_of : List (List ℕ) → List (Told ℕ)
  told_of [] = []
  told_of (p ∷ pieces) = numbered (piece_of (p ∷ pieces)) 0 (out_on (joined (p ∷ pieces)))

  -- one more piece takes nothing back: its answers come after the earlier ones, with its number
  pub record TellsMore (pieces : List (List ℕ)) (piece : List ℕ) : Type 0 where
    pub later : List (PlacedSearchAnswer ℕ)
    pub told : told_of (pieces ++ piece ∷ []) ≡ told_of pieces
        ++ map (under (Some (capped (length (pieces ++ piece ∷ []))))) later

  -- the first answer that is out after these pieces
  abbrev pub first_told : List (List ℕ) → Option (PlacedSearchAnswer ℕ)
  first_told pieces = option_map (λ t. t.answer) (slice_get (told_of pieces) 0)

  -- the number of nonempty fronts of the pieces on which, joined and appended to `before`, a step
  -- waits
  abbrev pub waits : List ℕ → List (List ℕ) → ℕ
  waits before [] = 0
  waits before (p ∷ pieces) = (if is_waiting (before ++ p) then 1 else 0) + waits (before ++ p) pieces

  -- the number of attempts: one for each answer that is out, and one for each front on which a step
  -- waited
  abbrev pub tried_of : List (List ℕ) → ℕ
  tried_of pieces = capped (length (told_of pieces) + waits [] pieces)

  -- all answers on the joined pieces, and the place where the script leaves the cursor
  abbrev pub all_answers : List (List ℕ) → List (PlacedSearchAnswer ℕ)
  all_answers pieces = search_answers (kind_on_pieces i.pieces) (i.source (joined pieces)) script

  abbrev pub last_place : List (List ℕ) → ℕ
  last_place pieces = place (i.source (joined pieces)) (search_cursor (i.source (joined pieces)) script).index

  -- the answers that were out before the end, then the rest, which have no number of a piece
  abbrev pub told_to_end : List (List ℕ) → List (Told ℕ)
  told_to_end pieces = told_of pieces ++ map (under None) (drop (length (told_of pieces)) (all_answers pieces))

-- the first answer of a search for one literal is its hit in the joined pieces, as soon as there is
-- one
abbrev pub TellsHit : InputRules → Bor (List ℕ) → List (List ℕ) → Type 0
TellsHit i literal pieces =
    first_told i (step.Find (One literal) ∷ []) pieces ≡ option_map (λ r. answer.Hit (Some r)) (hit (literal.now ∷ []) (joined pieces))
