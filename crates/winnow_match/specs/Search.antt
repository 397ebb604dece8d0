-- The first place of some bytes at which a needle stands.
use Rattle.std.specs.Prelude.{◌≡◌, ℕ, ◌+◌, ◌<◌, ◌≤◌, ◌==◌, IsTrue, ⊤, is_some, drop, Bool, true, false, ◌&&◌, if◌then◌else◌, List, [], ◌∷◌, length, Option, None, Some}
use Rattle.std.specs.List.{list_any, slice_index_or}
use Rattle.std.specs.Borrow.{Bor}
use Rattle.std.specs.Str.{IsUtf8}
use Rattle.std.specs.declared.ops.Range.{Range}
use Rattle.winnow_stream.specs.Source.{Source}
use Rattle.winnow_stream.specs.Front.{is_offset}
use Rattle.winnow_stream.specs.Span.{span}
use Rattle.winnow_match.specs.Comparison.{is_prefix, IsPrefixOf}
use Rattle.winnow_match.specs.declared.needles.Needles.{Needles}
use Rattle.winnow_match.specs.declared.needles.Needles.TheVariants.{One, Two, Three}

-- the needle has no byte
abbrev pub is_empty : List ℕ → Bool
is_empty [] = true
is_empty (x ∷ xs) = false

-- the length of the first listed needle that is a front of the bytes
abbrev pub needle_at : List (List ℕ) → List ℕ → Option ℕ
needle_at [] bytes = None
needle_at (needle ∷ needles) bytes = if is_prefix needle bytes then Some (length needle) else needle_at needles bytes

-- some needle stands in the bytes from place k on
abbrev pub SomeOccurs : List (List ℕ) → List ℕ → ℕ → Type 0
SomeOccurs needles bytes k = IsTrue (is_some (needle_at needles (drop k bytes)))

-- the hit that starts here with this length, or the later hit if no needle stands here
abbrev pub hit_or : ℕ → Option ℕ → Option (Range ℕ) → Option (Range ℕ)
hit_or at (Some n) later = Some (span at n)
hit_or at None later = later

-- the least place at which a needle stands, counted from `at`, to the end of the first listed
-- needle that stands there
abbrev pub first_hit : List (List ℕ) → ℕ → List ℕ → Option (Range ℕ)
first_hit needles at [] = None
first_hit needles at (y ∷ bytes) = hit_or at (needle_at needles (y ∷ bytes)) (first_hit needles (at + 1) bytes)

-- the hit of a search: an empty needle stands at once
abbrev pub hit : List (List ℕ) → List ℕ → Option (Range ℕ)
hit needles bytes = if list_any is_empty needles then Some (span 0 0) else first_hit needles 0 bytes

-- the needles as a list of their bytes
abbrev pub needle_list : {L : Type 0} → (L → List ℕ) → Needles L → List (List ℕ)
needle_list bytes (One a) = bytes a ∷ []
needle_list bytes (Two a b) = bytes a ∷ bytes b ∷ []
needle_list bytes (Three a b c) = bytes a ∷ bytes b ∷ bytes c ∷ []

-- the bytes of needles that are slices of bytes or texts
abbrev pub bytes_of_needles : Needles (Bor (List ℕ)) → List (List ℕ)
bytes_of_needles needles = needle_list (λ needle. needle.now) needles

-- each needle is a text
abbrev pub AreTexts : List (List ℕ) → Type 0
AreTexts [] = ⊤
AreTexts (needle ∷ needles) = IsUtf8 needle × AreTexts needles

-- this needle stands in the bytes from place k on
abbrev pub Occurs : List ℕ → List ℕ → ℕ → Type 0
Occurs needle bytes k = IsPrefixOf needle (drop k bytes)

-- the needle of that number, counted from 0
abbrev pub needle_of : List (List ℕ) → ℕ → List ℕ
needle_of needles i = slice_index_or needles i []

-- a needle stands at these places, no needle listed before it stands there, and none at all at a
-- lesser place
pub record IsFirstHit (needles : List (List ℕ)) (bytes : List ℕ) (r : Range ℕ) : Type 0 where
  pub index : ℕ
  pub listed : index < length needles
  pub stands : Occurs (needle_of needles index) bytes r.start
  pub whole : r.end ≡ r.start + length (needle_of needles index)
  pub first_listed : (i : ℕ) → i < index → ¬ Occurs (needle_of needles i) bytes r.start
  pub first_place : (i k : ℕ) → i < length needles → k < r.start
      → ¬ Occurs (needle_of needles i) bytes k

-- no needle stands anywhere
abbrev pub OccursNowhere : List (List ℕ) → List ℕ → Type 0
OccursNowhere needles bytes = (i k : ℕ) → i < length needles → ¬ Occurs (needle_of needles i) bytes k

-- each needle has that length
abbrev pub have_length : ℕ → List (List ℕ) → Bool
have_length n [] = true
have_length n (needle ∷ needles) = (length needle == n) && have_length n needles

-- all needles have one length
abbrev pub have_one_length : List (List ℕ) → Bool
have_one_length [] = true
have_one_length (needle ∷ needles) = have_length (length needle) needles

-- both ends of a hit are offsets of r, and the end is no nearer than the start
abbrev pub AreOffsets : {T : Type 0} → Source T → Range ℕ → Type 0
AreOffsets r places = (places.start ≤ places.end) × (IsTrue (is_offset r places.start) × IsTrue (is_offset r places.end))
