-- The fronts of a source: the widths that they have, and what follows them.
use Rattle.std.specs.Prelude.{◌≡◌, ℕ, ◌+◌, ◌-◌, ◌≤◌, ◌==◌, nat_le, Bool, cond, [], ◌∷◌, length, take, drop, Option, Some, None, option_map, is_some, unwrap_or, IsTrue}
use Rattle.std.specs.declared.ops.Range.{Range}
use Rattle.winnow_stream.specs.Source.{Source, width}

-- some front has the width n: n is a valid offset
abbrev pub HasFront : {T : Type 0} → Source T → ℕ → Type 0
HasFront r n = (k : ℕ) × ((k ≤ length r) × (width (take k r) ≡ n))

-- the number of tokens that have the width n together, if some front has it
abbrev pub front_count : {T : Type 0} → Source T → ℕ → Option ℕ
front_count [] n = cond (n == 0) (Some 0) None
front_count (x ∷ xs) n = cond (n == 0) (Some 0) (cond (nat_le x.1 n) (option_map (λ k. k + 1) (front_count xs (n - x.1))) None)

-- `HasFront` as a test; as each width is at least 1, the two agree (`front_law`)
abbrev pub is_offset : {T : Type 0} → Source T → ℕ → Bool
is_offset r n = is_some (front_count r n)

-- the number of tokens in the front of width n
abbrev pub count_to : {T : Type 0} → Source T → ℕ → ℕ
count_to r n = unwrap_or (front_count r n) 0

-- the front of width n
abbrev pub front : {T : Type 0} → Source T → ℕ → Source T
front r n = take (count_to r n) r

-- what follows the front of width n
abbrev pub back : {T : Type 0} → Source T → ℕ → Source T
back r n = drop (count_to r n) r

-- the part of a list between two places
abbrev pub part : {T : Type 0} → Source T → Range ℕ → Source T
part all p = front (back all p.start) (p.end - p.start)

-- s is the slice of some front of r
abbrev pub IsSomeFront : {T S : Type 0} → (S → Source T → ℕ → Type 0) → S → Source T → Type 0
IsSomeFront is_slice s r = (n : ℕ) × (IsTrue (is_offset r n) × is_slice s r n)
