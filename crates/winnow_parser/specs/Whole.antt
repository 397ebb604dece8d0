-- What a parser reads of a whole input.
use Rattle.std.specs.Prelude.{◌≡◌, ◌≢◌, ℕ, ◌-◌, false, [], ◌⊎◌}
use Rattle.winnow_stream.specs.Source.{width}
use Rattle.winnow_error.specs.declared.failure.Failure.TheVariants.{Backtrack, Cut}
use Rattle.winnow_parser.specs.Outcome.{Ahead, Backtracks, Cuts, Gives, Fails, Meaning}
use Rattle.winnow_parser.specs.Errors.{Errors}

-- the parser gives this value, and nothing remains
abbrev pub ReadsWhole : {O T : Type 0} → Meaning O T → Ahead T → O → Type 0
ReadsWhole {O} {T} means a x = (b : Ahead T) × (means false a (Gives x b) × (b.tokens ≡ []))

-- the parser stops there: it fails, or it gives a value and something remains
abbrev pub StopsAt : {O T : Type 0} → Meaning O T → Ahead T → Ahead T → Type 0
StopsAt {O} {T} means a b = means false a (Fails (Backtracks b)) ⊎ (means false a (Fails (Cuts b))
    ⊎ ((x : O) × (means false a (Gives x b) × (b.tokens ≢ []))))

-- the parser stops after this width
abbrev pub StopsAfter : {O T : Type 0} → Meaning O T → Ahead T → ℕ → Type 0
StopsAfter {O} {T} means a n = (b : Ahead T) × (StopsAt means a b × (n ≡ width a.tokens - width b.tokens))

-- the stream was left by a failure with this error; or by a value after which something remains,
-- and the error is made of the stream
abbrev pub IsLeftWith : {O E S T : Type 0} → (S → Ahead T) → (S → E → Type 0) → Meaning O T
    → Errors E S T → Ahead T → S → E → Type 0
IsLeftWith {O} stands makes means errors a s e =
    (errors false a s (Backtrack e) × means false a (Fails (Backtracks (stands s))))
    ⊎ ((errors false a s (Cut e) × means false a (Fails (Cuts (stands s))))
    ⊎ ((x : O) × (makes s e × means false a (Gives x (stands s)) × ((stands s).tokens ≢ []))))

-- the parser stops after this width, with this error, both of one stream as it is left
abbrev pub StopsWith : {O E S T : Type 0} → (S → Ahead T) → (S → E → Type 0) → Meaning O T
    → Errors E S T → Ahead T → ℕ → E → Type 0
StopsWith {S = S} stands makes means errors a n e = (s : S)
    × (IsLeftWith stands makes means errors a s e × (n ≡ width a.tokens - width (stands s).tokens))

-- the second stream keeps of the first, but for its flag, all that a parser keeps
abbrev pub KeepsButFlag : {S : Type 0} → (S → S → Type 0) → (S → S → Type 0) → S → S → Type 0
KeepsButFlag {S} same keeps s t = (m : S) × (same s m × keeps m t)
