-- What a set of characters answers for a token.
use Rattle.std.specs.Prelude.{◌≡◌, ℕ, Bool}
use Rattle.winnow_sets.specs.Sets.{char_ranges, in_ranges}
use Rattle.winnow_sets.specs.declared.char_set.CharSet.{CharSet}

-- the answer is whether the set holds the token's number
abbrev pub HoldsNumber : {T : Type 0} → (T → ℕ) → CharSet → T → Bool → Type 0
HoldsNumber code set token answer = answer ≡ in_ranges (char_ranges set) (code token)
