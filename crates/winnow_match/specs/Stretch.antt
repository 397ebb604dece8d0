-- The needles that could still move a hit: those that the bytes end inside.
use Rattle.std.specs.Prelude.{◌≡◌, ℕ, ◌+◌, ◌<◌, ◌≤◌, ◌⊎◌, nat_lt, max, Bool, true, false, ◌&&◌, not, if◌then◌else◌, List, [], ◌∷◌, length, drop, Option, None, Some, is_some, option_map}
use Rattle.std.specs.List.{list_any}
use Rattle.std.specs.declared.ops.Range.{Range}
use Rattle.winnow_match.specs.Comparison.{is_prefix, IsPrefixOf}
use Rattle.winnow_match.specs.Search.{is_empty, needle_at, needle_of, hit, Occurs, IsFirstHit}
use Rattle.winnow_match.specs.declared.needles.Stretch.{Stretch}

-- the bytes are a front of the needle, and shorter
abbrev pub stretches : List ℕ → List ℕ → Bool
stretches needle bytes = is_prefix bytes needle && nat_lt (length bytes) (length needle)

-- `None` if the first needle stands here; else its number 0, if it stretches here; else the later
-- needles' number
abbrev pub mover_or : Bool → Bool → Option ℕ → Option ℕ
mover_or stands stretches later = if stands then None else (if stretches then Some 0 else option_map (λ i. i + 1) later)

-- the number of the first listed needle that stretches here, if no needle listed before it stands
-- here
abbrev pub mover : List (List ℕ) → List ℕ → Option ℕ
mover [] bytes = None
mover (needle ∷ needles) bytes = mover_or (is_prefix needle bytes) (stretches needle bytes) (mover needles bytes)

-- a needle stretches here, or one stands here and ends the search, or a later place decides
abbrev pub mover_or_later : ℕ → Option ℕ → Option ℕ → Option Stretch → Option Stretch
mover_or_later at (Some i) here later = Some (record { needle = i; place = at })
mover_or_later at None (Some n) later = None
mover_or_later at None None later = later

-- the least place, counted from `at` and up to the first hit, at which a needle stretches that
-- would take the place of the hit
abbrev pub first_mover : List (List ℕ) → ℕ → List ℕ → Option Stretch
first_mover needles at [] = None
first_mover needles at (y ∷ bytes) = mover_or_later at (mover needles (y ∷ bytes)) (needle_at needles (y ∷ bytes)) (first_mover needles (at + 1) bytes)

-- what could still move the hit: nothing, if some needle is empty
abbrev pub stretch_of : List (List ℕ) → List ℕ → Option Stretch
stretch_of needles bytes = if list_any is_empty needles then None else first_mover needles 0 bytes

-- there is a hit, and no more input moves it
abbrev pub hit_is_definite : List (List ℕ) → List ℕ → Bool
hit_is_definite needles bytes = is_some (hit needles bytes) && not (is_some (stretch_of needles bytes))

-- some needle stretches here
abbrev pub any_stretches : List (List ℕ) → List ℕ → Bool
any_stretches needles bytes = list_any (λ needle. stretches needle bytes) needles

-- p is the least place up to `at` at which some needle stretches, or lies after `at` if there is
-- none
pub record IsLeastPlace (needles : List (List ℕ)) (bytes : List ℕ) (at p : ℕ) : Type 0 where
  pub before : (k : ℕ) → k < p → k ≤ at → any_stretches needles (drop k bytes) ≡ false
  pub here : p ≤ at → any_stretches needles (drop p bytes) ≡ true

-- `stretches` as a fact: the bytes end inside the needle that begins at place q
abbrev pub Stretches : List ℕ → List ℕ → ℕ → Type 0
Stretches needle bytes q = IsPrefixOf (drop q bytes) needle × (length (drop q bytes) < length needle)

-- needle i stretches at place q: before the hit, or at the hit and listed before each needle that
-- stands there
pub record CanMove (needles : List (List ℕ)) (bytes : List ℕ) (r : Range ℕ) (i q : ℕ) : Type 0 where
  pub listed : i < length needles
  pub stretches : Stretches (needle_of needles i) bytes q
  pub first : (q < r.start)
      ⊎ ((q ≡ r.start) × ((j : ℕ) → j < i → ¬ Occurs (needle_of needles j) bytes q))

-- s is the least place at which a needle could move the hit, with the first needle listed that
-- could there
pub record IsStretch (needles : List (List ℕ)) (bytes : List ℕ) (r : Range ℕ) (s : Stretch) : Type 0 where
  pub can_move : CanMove needles bytes r s.needle s.place
  pub least : (i q : ℕ) → CanMove needles bytes r i q → s.place ≤ q
  pub first_listed : (i : ℕ) → CanMove needles bytes r i s.place → s.needle ≤ i

-- no needle stretches before the hit, and at the hit none that is listed before the needle that
-- stands there
abbrev pub NothingStretches : (needles : List (List ℕ)) (bytes : List ℕ) (r : Range ℕ)
    → IsFirstHit needles bytes r → Type 0
NothingStretches needles bytes r first =
    (i q : ℕ) → i < length needles → (q < r.start) ⊎ ((q ≡ r.start) × (i < first.index)) → ¬ Stretches (needle_of needles i) bytes q

-- the search answers this hit
abbrev pub IsHit : List (List ℕ) → List ℕ → Range ℕ → Type 0
IsHit needles bytes r = hit needles bytes ≡ Some r

-- the length of the longest needle
abbrev pub longest : List (List ℕ) → ℕ
longest [] = 0
longest (needle ∷ needles) = max (length needle) (longest needles)
