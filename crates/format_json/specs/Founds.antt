-- What the reader of values finds in bytes.
use Rattle.std.specs.Prelude.{◌≡◌, ℕ, ◌<◌, ◌≤◌, Bool, true, false, List, [], ◌∷◌, ◌++◌, length, drop}
use Rattle.format_lemmas.specs.Bytes.{StartsWith}
use Rattle.format_json.specs.Language.{after_blanks, WordAhead}
use Rattle.format_json.specs.declared.value.Value.{Value}
use Rattle.format_json.specs.declared.found.Found.{Found}
use Rattle.format_json.specs.declared.found.Found.TheVariants.{Whole, Begun, Damaged}
use Rattle.format_json.specs.declared.found.Next.{Next}
use Rattle.format_json.specs.declared.found.Next.TheVariants as next

-- these bytes may follow: where the input is whole, none do
abbrev pub MayFollow : Bool → List ℕ → Type 0
MayFollow partial more = partial ≡ false → more ≡ []

-- no matter what follows the bytes, they begin with no value
abbrev pub HasNone : {T : Type 0} → (T → List ℕ → List ℕ → Type 0) → Bool → List ℕ → Type 0
HasNone {T} ahead partial bytes = (more : List ℕ) → MayFollow partial more
    → (value : T) (rest : List ℕ) → ¬ (ahead value (bytes ++ more) rest)

-- where a relation says which bytes begin with a value: the bytes begin with this value, of n
-- bytes; or they begin with none, and more may follow; or with none, no matter what follows
abbrev pub IsFound : {T : Type 0} → (T → List ℕ → List ℕ → Type 0) → Bool → List ℕ → Found T
    → Type 0
IsFound ahead partial bytes (Whole value n) = (n ≤ length bytes) × ahead value bytes (drop n bytes)
IsFound {T} ahead partial bytes Begun =
    (partial ≡ true) × ((value : T) (rest : List ℕ) → ¬ (ahead value bytes rest))
IsFound ahead partial bytes (Damaged n) = (n ≤ length bytes) × HasNone ahead partial bytes

-- no matter what follows the bytes, after blanks they begin neither with a comma nor with the
-- bracket
abbrev pub GoesNotOn : ℕ → Bool → List ℕ → Type 0
GoesNotOn close partial bytes = (more : List ℕ) → MayFollow partial more
    → ¬ (StartsWith 44 (after_blanks (bytes ++ more)))
    × ¬ (StartsWith close (after_blanks (bytes ++ more)))

-- after blanks the bytes begin with a comma, which ends n bytes; or with the bracket, which does;
-- or they are blanks, and more may follow; or neither, no matter what follows
abbrev pub IsNext : ℕ → Bool → List ℕ → Next → Type 0
IsNext close partial bytes (next.More n) =
    (0 < n) × (n ≤ length bytes) × (after_blanks bytes ≡ 44 ∷ drop n bytes)
IsNext close partial bytes (next.Closed n) =
    (n ≤ length bytes) × (after_blanks bytes ≡ close ∷ drop n bytes)
IsNext close partial bytes next.Begun = (partial ≡ true) × (after_blanks bytes ≡ [])
IsNext close partial bytes (next.Damaged n) =
    (n ≤ length bytes) × GoesNotOn close partial bytes × (drop n bytes ≡ after_blanks bytes)

-- after blanks the bytes begin with this byte, and the rest follows
abbrev pub ByteAhead : ℕ → Unit {0} → List ℕ → List ℕ → Type 0
ByteAhead byte done bytes rest = after_blanks bytes ≡ byte ∷ rest

-- after blanks the bytes begin with this byte, which ends n bytes; or they are blanks, and more may
-- follow; or the byte does not stand there, no matter what follows
abbrev pub IsByte : ℕ → Bool → List ℕ → Found (Unit {0}) → Type 0
IsByte byte partial bytes (Whole done n) =
    (n ≤ length bytes) × (after_blanks bytes ≡ byte ∷ drop n bytes)
IsByte byte partial bytes Begun = (partial ≡ true) × (after_blanks bytes ≡ [])
IsByte byte partial bytes (Damaged n) = (n ≤ length bytes) × HasNone (ByteAhead byte) partial bytes

-- the bytes begin with the word for this value, and the rest follows
abbrev pub IsWord : List ℕ → Value → Value → List ℕ → List ℕ → Type 0
IsWord word value found bytes rest = (found ≡ value) × WordAhead word tt bytes rest
