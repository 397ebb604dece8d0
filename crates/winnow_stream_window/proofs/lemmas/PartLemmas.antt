-- Parts of a list, by their start and their end.
use Rattle.std.proofs.Common.{◌≡◌, ℕ, ◌+◌, ◌-◌, ◌≤◌, List, length, take, drop, slice_range, ap, sym, ◌∙◌, arith, take_all, take-take, drop-drop, length-drop, length-take}
use Rattle.std.proofs.lemmas.List.{drop-take}

-- the length of a part is its end less its start
pub length-range : {T : Type 0} (xs : List T) (a b : ℕ) → a ≤ b → b ≤ length xs
    → length (slice_range xs a b) ≡ b - a
length-range xs a b h k = omega (arith, length-take (b - a) (drop a xs), length-drop a xs)

-- the part of all places is the list
pub range_all : {T : Type 0} (xs : List T) → slice_range xs 0 (length xs) ≡ xs
range_all xs = take_all (length xs - 0) xs (omega arith)

-- the part after its first n elements, and the part of those elements
pub range-behind : {T : Type 0} (xs : List T) (a b n : ℕ) → a + n ≤ b
    → slice_range xs (a + n) b ≡ drop n (slice_range xs a b)
range-behind xs a b n h =
    let rest = b - (a + n) in
    let whole : n + rest ≡ b - a = omega arith in
    sym (ap (λ k. drop n (take k (drop a xs))) (sym whole) ∙ drop-take n rest (drop a xs) ∙ ap (take rest) (drop-drop n a xs))

pub range-before : {T : Type 0} (xs : List T) (a b n : ℕ) → a + n ≤ b
    → slice_range xs a (a + n) ≡ take n (slice_range xs a b)
range-before xs a b n h =
    let same : a + n - a ≡ n = omega arith in
    ap (λ k. take k (drop a xs)) same ∙ sym (take-take n (b - a) (drop a xs) (omega arith))

-- the rules for parts
pub ruleset range_steps = (length-range, range_all, range-behind, range-before)
