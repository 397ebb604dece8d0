-- What reading and writing make of one another.
use Rattle.std.specs.Prelude.{◌≡◌, ℕ, Bool, List, ◌++◌, length, drop, Result, Ok, Err, ⊤}
use Rattle.winnow_parser.specs.Outcome.{Ahead, Backtracks, Cuts, Needs, Refuses, Outcome, Gives, Fails}
use Rattle.winnow_codec.specs.Formats.{bytes_of, Spelling, Reads}
use Rattle.winnow_codec.specs.Writing.{Writes}
use Rattle.winnow_codec.specs.declared.unwritten.Unwritten.{Unwritten}
use Rattle.winnow_codec.specs.declared.unwritten.Unwritten.TheVariants.{Unspelled, Refused}

-- the answer is the value, before the rest, unless memory was refused
abbrev pub IsReadBack : {V : Type 0} → (V → V → Type 0) → V → List ℕ → Outcome V ℕ → Type 0
IsReadBack same v rest (Gives w b) = same v w × (bytes_of b.tokens ≡ rest)
IsReadBack same v rest (Fails (Backtracks b)) = ⊥
IsReadBack same v rest (Fails (Cuts b)) = ⊥
IsReadBack same v rest (Fails (Needs n)) = ⊥
IsReadBack same v rest (Fails Refuses) = ⊤

-- the bytes between the places were appended, unless memory was refused
abbrev pub IsWrittenBack : Ahead ℕ → Ahead ℕ → List ℕ → Result (Unit {0}) Unwritten → List ℕ
    → Type 0
IsWrittenBack a b old (Ok done) new = (bytes : List ℕ) × ((new ≡ old ++ bytes) × (bytes_of a.tokens ≡ bytes ++ bytes_of b.tokens))
IsWrittenBack a b old (Err Unspelled) new = ⊥
IsWrittenBack a b old (Err (Refused e)) new = ⊤

-- a value that was written is read back, no matter what follows and whether more may
abbrev pub ReadsWhatItWrites : {V : Type 0} → (V → V → Type 0) → Spelling V → Type 0
ReadsWhatItWrites {V} same spells = (v : V) (old new rest : List ℕ) (partial : Bool) (a : Ahead ℕ) (v_read : Outcome V ℕ)
    → Writes spells v old (Ok tt) new → bytes_of a.tokens ≡ drop (length old) new ++ rest
    → Reads spells partial a v_read → IsReadBack same v rest v_read

-- a value that was read is written back, with the bytes that were taken
abbrev pub WritesWhatItReads : {V : Type 0} → Spelling V → Type 0
WritesWhatItReads {V} spells = (v : V) (partial : Bool) (a b : Ahead ℕ) (old new : List ℕ) (result : Result (Unit {0}) Unwritten)
    → Reads spells partial a (Gives v b) → Writes spells v old result new → IsWrittenBack a b old result new
