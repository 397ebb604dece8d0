-- Sets of characters, as tests of a character's number, and the answers of a union of sets.
use Rattle.std.specs.Prelude.{◌≡◌, ℕ, ◌==◌, nat_le, nat_lt, Bool, true, false, ◌&&◌, ◌⊎◌, List, Option}
use Rattle.std.specs.List.{find, list_any}
use Rattle.std.specs.Option.{option_map}
use Rattle.std.specs.Int.{is_in_range}
use Rattle.winnow_sets.specs.declared.char_set.CharSet.{CharSet}

-- c is one of these characters
abbrev pub is_one_of : List ℕ → ℕ → Bool
is_one_of cs c = list_any (λ d. d == c) cs

-- c is at least low, and below high
abbrev pub is_between : ℕ → ℕ → ℕ → Bool
is_between low high c = nat_le low c && nat_lt c high

-- the ranges of a set
abbrev pub char_ranges : CharSet → List (ℕ × ℕ)
char_ranges set = set.ranges.now

-- c is in one of these ranges, whose ends are in it
abbrev pub in_ranges : List (ℕ × ℕ) → ℕ → Bool
in_ranges ranges c = list_any (λ r. is_in_range r.0 r.1 c) ranges

-- the range has a number up to the greatest, which its lower bound then is
abbrev pub holds_up_to : ℕ → ℕ × ℕ → Bool
holds_up_to greatest range = nat_le range.0 range.1 && nat_le range.0 greatest

-- the lower bound of the first range that has a number up to the greatest
abbrev pub least_of_first : ℕ → List (ℕ × ℕ) → Option ℕ
least_of_first greatest ranges = option_map (λ range. range.0) (find (holds_up_to greatest) ranges)

-- the answers of a union of two sets, by the answers of each: the union holds what one of them
-- holds
infixr 30 ◌∪◌
abbrev pub ◌∪◌ : (Bool → Type 0) → (Bool → Type 0) → Bool → Type 0
◌∪◌ a b true = a true ⊎ b true
◌∪◌ a b false = a false × b false

-- each answer that may be given is b
abbrev pub AnswersOnly : (Bool → Type 0) → Bool → Type 0
AnswersOnly answers b = (r : Bool) → answers r → r ≡ b
