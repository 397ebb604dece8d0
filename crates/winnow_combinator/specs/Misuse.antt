-- The errors of a wrong use, and of memory that was refused while values were gathered.
use Rattle.std.specs.Prelude.{ℕ, ◌≤◌, Option, ◌⊎◌, ⊤}
use Rattle.winnow_stream.specs.Source.{width}
use Rattle.winnow_stream.specs.declared.needed.Needed.{Needed}
use Rattle.winnow_error.specs.declared.failure.Failure.{Failure}
use Rattle.winnow_error.specs.declared.failure.Failure.TheVariants.{Incomplete, Backtrack, Cut, Refused}
use Rattle.winnow_parser.specs.Outcome.{Ahead, Gives, Meaning}
use Rattle.winnow_parser.specs.Errors.{Errors}
use Rattle.winnow_combinator.specs.Counts.{Ascends}

-- the failure is a cut with an error that is made of the stream as it is left
abbrev pub IsCutWith : {E S : Type 0} → (S → E → Type 0) → S → Failure E Needed → Type 0
IsCutWith cuts s (Backtrack e) = ⊥
IsCutWith cuts s (Cut e) = cuts s e
IsCutWith cuts s (Incomplete n) = ⊥
IsCutWith cuts s (Refused r) = ⊥

-- memory was refused
abbrev pub IsRefusedMemory : {E : Type 0} → Failure E Needed → Type 0
IsRefusedMemory (Backtrack e) = ⊥
IsRefusedMemory (Cut e) = ⊥
IsRefusedMemory (Incomplete n) = ⊥
IsRefusedMemory (Refused r) = ⊤

-- the errors of the inner parser; or it gave a value and took nothing, and this one cuts, with an
-- error of its own
abbrev pub TakingErrors : {O E S T : Type 0} → (S → E → Type 0) → Meaning O T → Errors E S T
    → Errors E S T
TakingErrors {O} {E} {S} {T} cuts means inner partial a s failure = inner partial a s failure
    ⊎ ((x : O) × ((b : Ahead T)
    × (means partial a (Gives x b) × (width a.tokens ≤ width b.tokens) × IsCutWith cuts s failure)))

-- the errors of the inner parser; or memory was refused while its values were gathered
abbrev pub GatheredErrors : {E S T : Type 0} → Errors E S T → Errors E S T
GatheredErrors inner partial a s failure = inner partial a s failure ⊎ IsRefusedMemory failure

-- the errors of the inner parser; or the greatest count is below the least, and this one cuts, with
-- an error of its own
abbrev pub AscendingErrors : {E S T : Type 0} → ℕ → Option ℕ → (S → E → Type 0) → Errors E S T
    → Errors E S T
AscendingErrors least greatest cuts inner partial a s failure = inner partial a s failure
    ⊎ (¬ (Ascends least greatest) × IsCutWith cuts s failure)
