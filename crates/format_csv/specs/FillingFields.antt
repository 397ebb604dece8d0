-- A field that is read into a record. 34 is a quote.
use Rattle.std.specs.Prelude.{◌≡◌, ℕ, ◌≤◌, List, [], ◌∷◌, ◌++◌, length, drop, Option, Some, None, ◌⊎◌}
use Rattle.format_lemmas.specs.Bytes.{Each, StartsWith, Starts}
use Rattle.format_csv.specs.Fields.{is_plain, doubled}
use Rattle.format_csv.specs.Meanings.{is_other}

-- the bytes after an opening quote are this value with each quote doubled, a closing quote, and the
-- rest, which does not start with a quote
abbrev pub ClosesQuoted : List ℕ → List ℕ → List ℕ → Type 0
ClosesQuoted value inside rest = (inside ≡ doubled value ++ 34 ∷ rest) × ¬ (StartsWith 34 rest)

-- the bytes after an opening quote have no closing quote
abbrev pub IsUnclosedInside : List ℕ → Type 0
IsUnclosedInside inside = (value : List ℕ) × ((chunk : List ℕ)
    × ((inside ≡ doubled value ++ chunk) × Each is_other chunk))

-- the bytes are a field of this value and the rest. The field is either between quotes, or has all
-- plain bytes up to the first byte that is not plain, and does not start with a quote
abbrev pub BeginsField : List ℕ → List ℕ → List ℕ → Type 0
BeginsField value bytes rest = ((bytes ≡ 34 ∷ (doubled value ++ 34 ∷ rest)) × ¬ (StartsWith 34 rest))
    ⊎ (Each is_plain value × (bytes ≡ value ++ rest) × ¬ (Starts is_plain rest) × ¬ (StartsWith 34 bytes))

-- the bytes are an opening quote and bytes without a closing quote
abbrev pub IsUnclosedField : List ℕ → Type 0
IsUnclosedField bytes = (value : List ℕ) × ((chunk : List ℕ)
    × ((bytes ≡ 34 ∷ (doubled value ++ chunk)) × Each is_other chunk))

-- reading a field of length n appends its value to the fields of the record; if none is read, the
-- closing quote is missing
abbrev pub FillsField : List ℕ → List (List ℕ) → Option ℕ → List (List ℕ) → Type 0
FillsField bytes old (Some n) new = (value : List ℕ) × ((n ≤ length bytes)
    × (new ≡ old ++ value ∷ []) × BeginsField value bytes (drop n bytes))
FillsField bytes old None new = IsUnclosedField bytes

-- reading the rest of a field after its opening quote, in the way of `FillsField`
abbrev pub FillsQuoted : List ℕ → List (List ℕ) → Option ℕ → List (List ℕ) → Type 0
FillsQuoted inside old (Some n) new = (value : List ℕ) × ((n ≤ length inside)
    × (new ≡ old ++ value ∷ []) × ClosesQuoted value inside (drop n inside))
FillsQuoted inside old None new = IsUnclosedInside inside
