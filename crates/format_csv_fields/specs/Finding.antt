-- The results of looking for a field within a limit. 13 is CR.
use Rattle.std.specs.Prelude.{◌≡◌, ℕ, ◌+◌, ◌≤◌, ◌<◌, Bool, false, not, List, [], ◌∷◌, ◌⊎◌, length, drop}
use Rattle.format_csv_fields.specs.declared.after.After.TheVariants.{Broken}
use Rattle.format_csv_fields.specs.declared.looking.Text.{Text}
use Rattle.format_csv_fields.specs.declared.finding.Found.{Found}
use Rattle.format_csv_fields.specs.declared.finding.Found.TheVariants.{Field, NeedsMore, Damaged, TooLong}
use Rattle.format_csv_fields.specs.FieldAhead.{EndsField, Follows, BeginsJust, IsUnfinished, IsDamagedBefore, IsTooLong}
use Rattle.format_csv_fields.specs.Looking.{IsValue}

-- the result for a text of n bytes that does not go on: an ending follows; more is needed to tell;
-- or nothing that can follow does; or the text is too long
abbrev pub FindsAfter : Bool → ℕ → List ℕ → ℕ → Found → Type 0
FindsAfter ended limit bytes n (Field ending m) = (n ≤ limit) × (n ≤ m) × (m ≤ length bytes)
    × EndsField (not ended) ending (drop n bytes) (drop m bytes)
FindsAfter ended limit bytes n NeedsMore = (n ≤ limit) × (ended ≡ false)
    × ((drop n bytes ≡ []) ⊎ (drop n bytes ≡ 13 ∷ []))
FindsAfter ended limit bytes n (Damaged m) = (n ≤ limit) × (m ≡ n) × Follows ended (drop n bytes) Broken
FindsAfter ended limit bytes n TooLong = limit < n

-- the result for the text with which the bytes begin: a field within the limit, which takes n
-- bytes with its ending; more is needed; the field is malformed after n bytes; or it is too long
abbrev pub Finds : Bool → ℕ → List ℕ → Text → Found → Type 0
Finds ended limit bytes text (Field ending n) = (n ≤ length bytes)
    × ((value : List ℕ) × (IsValue bytes text value × ((spelled : List ℕ)
    × ((length spelled ≤ limit) × BeginsJust ended bytes spelled value ending (drop n bytes)))))
Finds ended limit bytes text NeedsMore = IsUnfinished ended bytes × (length bytes ≤ limit + 1)
Finds ended limit bytes text (Damaged n) =
    (n ≤ length bytes) × IsDamagedBefore ended bytes (drop n bytes)
Finds ended limit bytes text TooLong = IsTooLong ended limit bytes
