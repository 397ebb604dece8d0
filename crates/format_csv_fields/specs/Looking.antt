-- How far a field was looked at, and its text. 34 is a quote.
use Rattle.std.specs.Prelude.{◌≡◌, ℕ, ◌+◌, ◌≤◌, Bool, false, List, ◌∷◌, ◌++◌, length, take, drop}
use Rattle.format_lemmas.specs.Bytes.{Each, StartsWith, Starts}
use Rattle.format_csv.specs.Fields.{is_plain, doubled}
use Rattle.format_csv.specs.Meanings.{is_other}
use Rattle.format_csv_fields.specs.declared.looking.Looked.{Looked}
use Rattle.format_csv_fields.specs.declared.looking.Looked.TheVariants as looked
use Rattle.format_csv_fields.specs.declared.looking.Text.{Text}
use Rattle.format_csv_fields.specs.declared.looking.Text.TheVariants.{Plain, Quoted, Open}

-- the value has no quote, unless one is doubled
abbrev pub HasQuotes : Bool → List ℕ → Type 0
HasQuotes doubles value = doubles ≡ false → Each is_other value

-- the bytes before the index are plain; or they are an opening quote and a value with each quote
-- doubled
abbrev pub IsLooked : List ℕ → Looked → Type 0
IsLooked bytes (looked.Plain n) = (n ≤ length bytes) × Each is_plain (take n bytes)
IsLooked bytes (looked.Quoted n doubles) = (n ≤ length bytes)
    × ((value : List ℕ) × ((bytes ≡ 34 ∷ (doubled value ++ drop n bytes)) × HasQuotes doubles value))

-- the bytes are an opening quote, this value with each quote doubled, a closing quote at the index,
-- and a rest that starts with no quote
abbrev pub IsQuoted : List ℕ → ℕ → List ℕ → Type 0
IsQuoted bytes n value =
    (bytes ≡ 34 ∷ (doubled value ++ 34 ∷ drop (n + 1) bytes)) × ¬ (StartsWith 34 (drop (n + 1) bytes))

-- the bytes begin with this text of a field: n plain bytes and no more; bytes between quotes, of
-- which the closing one is at the index; or an opening quote and a value that no quote closes
abbrev pub IsText : List ℕ → Text → Type 0
IsText bytes (Plain n) = (n ≤ length bytes) × Each is_plain (take n bytes)
    × ¬ (Starts is_plain (drop n bytes)) × ¬ (StartsWith 34 bytes)
IsText bytes (Quoted n doubles) =
    (n + 1 ≤ length bytes) × (drop n bytes ≡ 34 ∷ drop (n + 1) bytes)
    × ((value : List ℕ) × (IsQuoted bytes n value × HasQuotes doubles value))
IsText bytes (Open doubles) = (value : List ℕ) × ((chunk : List ℕ)
    × ((bytes ≡ 34 ∷ (doubled value ++ chunk)) × Each is_other chunk × HasQuotes doubles value))

-- the value of a text
abbrev pub IsValue : List ℕ → Text → List ℕ → Type 0
IsValue bytes (Plain n) value = take n bytes ≡ value
IsValue bytes (Quoted n doubles) value = IsQuoted bytes n value
IsValue bytes (Open doubles) value = ⊥

-- the length of a text in some bytes
abbrev pub text_length : List ℕ → Text → ℕ
text_length bytes (Plain n) = n
text_length bytes (Quoted n doubles) = n + 1
text_length bytes (Open doubles) = length bytes

-- how far the bytes are looked at once their text is known: up to a closing quote
abbrev pub looked_at : List ℕ → Text → Looked
looked_at bytes (Plain n) = looked.Plain n
looked_at bytes (Quoted n doubles) = looked.Quoted n doubles
looked_at bytes (Open doubles) = looked.Quoted (length bytes) doubles
