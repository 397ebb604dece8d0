-- The value that a text reads as: a number, a `bool` or a character.
use Rattle.std.specs.Prelude.{◌≡◌, ℕ, ◌<◌, ◌^◌, ◌↔◌, ◌⊎◌, Bool, List, ◌∷◌, Option, Some, if◌then◌else◌, codes, encode_utf8, ℤ, pos, neg_ℤ, FitsSigned}
use Rattle.std.specs.Char.{IsScalar}
use Rattle.std.specs.Str.{IsUtf8}
use Rattle.std.specs.Str.Parse.{IsNumeral, digits_value}
use mir.Syntax.{Width}

-- r is `Some v` for exactly the v of which P holds
abbrev pub IsSomeExactly : {T : Type 0} → (T → Type 0) → Option T → Type 0
IsSomeExactly {T} P r = (v : T) → (r ≡ Some v) ↔ P v

-- ds, one or more decimal digits and nothing else, write n
abbrev pub Writes : List ℕ → ℕ → Type 0
Writes ds n = IsNumeral 10 ds × (digits_value 10 ds ≡ n)

-- this sign stands first, and the digits after it write n
abbrev pub WritesAfter : ℕ → List ℕ → ℕ → Type 0
WritesAfter sign text n = (ds : List ℕ) × (text ≡ sign ∷ ds) × Writes ds n

-- digits write n, perhaps with a plus (43) before them
abbrev pub WritesUpward : List ℕ → ℕ → Type 0
WritesUpward text n = Writes text n ⊎ WritesAfter 43 text n

-- digits write z, perhaps with a plus before them, or after a minus (45)
abbrev pub WritesSigned : List ℕ → ℤ → Type 0
WritesSigned text z =
    (n : ℕ) × ((WritesUpward text n × (z ≡ pos n)) ⊎ (WritesAfter 45 text n × (z ≡ neg_ℤ (pos n))))

-- the text reads as n at an unsigned type with this number of bits
abbrev pub ReadsUnsigned : ℕ → List ℕ → ℕ → Type 0
ReadsUnsigned bits text n = WritesUpward text n × (n < 2 ^ bits)

-- the text reads as z at a signed type of this width
abbrev pub ReadsSigned : Width → List ℕ → ℤ → Type 0
ReadsSigned width text z = WritesSigned text z × FitsSigned width z

-- the text is the word for the value
abbrev pub ReadsBool : List ℕ → Bool → Type 0
ReadsBool text b = text ≡ (if b then codes "true" else codes "false")

-- the text is the one character c
abbrev pub ReadsChar : List ℕ → ℕ → Type 0
ReadsChar text c = IsScalar c × (text ≡ encode_utf8 c)

-- a slice reads as a value exactly if its bytes are text that reads as the value
abbrev pub ReadsBytes : {S R : Type 0} → (S → R → Type 0) → (S → List ℕ) → (List ℕ → R → Type 0)
    → Type 0
ReadsBytes {S} {R} reads bytes reading = (s : S) (v : R) → reads s v ↔ (IsUtf8 (bytes s) × reading (bytes s) v)

-- a slice of a text reads as a value exactly if its text does
abbrev pub ReadsText : {S R : Type 0} → (S → R → Type 0) → (S → List ℕ) → (List ℕ → R → Type 0)
    → Type 0
ReadsText {S} {R} reads text reading = (s : S) (v : R) → reads s v ↔ reading (text s) v

-- slices of which a view shows the same read as the same value
abbrev pub ReadsAlike : {S R V : Type 0} → (S → V) → (S → R → Type 0) → Type 0
ReadsAlike {S} {R} {V} view reads = (s t : S) (x : R) → view s ≡ view t → reads s x → reads t x
