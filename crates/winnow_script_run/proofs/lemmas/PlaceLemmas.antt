-- Places of a cursor: the width that a later place leaves.
use Rattle.std.proofs.Common.{◌≡◌, ℕ, zero, suc, ◌+◌, ◌≤◌, ◌<◌, min, List, [], ◌∷◌, length, drop, sym, ◌∙◌, arith}
use Rattle.std.proofs.lemmas.List.{drop-drop, drop_min}
use Rattle.winnow_stream.specs.Source.{width, HasPositiveWidths}
use Rattle.winnow_stream.proofs.lemmas.FrontLemmas.{width-take_drop}

module _ {A : Type 0} where
  -- the rest after one more token is that at the next index, which is at most the length
  pub drop-next : (r : List (A × ℕ)) (i : ℕ) → drop 1 (drop i r) ≡ drop (min (i + 1) (length r)) r
  drop-next r i = drop-drop 1 i r ∙ sym (drop_min (i + 1) r)

  -- a later place leaves a smaller width
  pub width-later : (r : List (A × ℕ)) (i j : ℕ) → HasPositiveWidths r → i < j → j ≤ length r
      → width (drop j r) < width (drop i r)
  width-later [] i j h l k = absurd (omega arith)
  width-later (x ∷ xs) i zero h l k = absurd (omega arith)
  width-later (x ∷ xs) zero (suc j) h l k = let e = width-take_drop xs j in omega (arith, e, h.0)
  width-later (x ∷ xs) (suc i) (suc j) h l k = width-later xs i j h.1 (omega arith) (omega arith)

  -- a place that is not earlier leaves no larger width
  pub width-antitone : (r : List (A × ℕ)) (i j : ℕ) → i ≤ j → width (drop j r) ≤ width (drop i r)
  width-antitone r zero j l = omega (arith, width-take_drop r j)
  width-antitone [] (suc i) zero l = absurd (omega arith)
  width-antitone [] (suc i) (suc j) l = omega arith
  width-antitone (x ∷ xs) (suc i) zero l = absurd (omega arith)
  width-antitone (x ∷ xs) (suc i) (suc j) l = width-antitone xs i j (omega arith)
