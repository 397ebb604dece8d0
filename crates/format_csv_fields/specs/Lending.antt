-- What a reader lends.
use Rattle.std.specs.Prelude.{◌≡◌, ℕ, ◌-◌, ◌≤◌, List, [], length, take, drop, ⊤}
use Rattle.format_csv_fields.specs.declared.lending.Lent.{Lent}
use Rattle.format_csv_fields.specs.declared.lending.Lent.TheVariants.{Nothing, Kept, Value}
use Rattle.format_csv_fields.specs.declared.looking.Text.{Text}
use Rattle.format_csv_fields.specs.Looking.{IsValue}

-- the value that is lent: none; the kept bytes from one index up to another; or a value that was
-- put together
abbrev pub lent_bytes : Lent → List ℕ → List ℕ → List ℕ
lent_bytes Nothing kept value = []
lent_bytes (Kept from to) kept value = take (to - from) (drop from kept)
lent_bytes Value kept value = value

-- what is lent of the kept bytes is within them
abbrev pub IsLent : Lent → List ℕ → Type 0
IsLent Nothing kept = ⊤
IsLent (Kept from to) kept = (from ≤ to) × (to ≤ length kept)
IsLent Value kept = ⊤

-- what is lent is the value of the text with which the bytes begin
abbrev pub Lends : List ℕ → Text → Lent → List ℕ → List ℕ → Type 0
Lends bytes text lent kept value =
    (field : List ℕ) → IsValue bytes text field → lent_bytes lent kept value ≡ field
