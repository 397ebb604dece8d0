-- A parser that appends to the error with which another one backtracks.
use Rattle.std.specs.Prelude.{◌≡◌, ℕ, zero, suc, Bool, true, false, Option, Some, None, ◌⊎◌, ⊤}
use Rattle.winnow_error.specs.declared.failure.Failure.TheVariants.{Incomplete, Backtrack, Cut, Refused}
use Rattle.winnow_parser.specs.Outcome.{Ahead, Backtracks, Cuts, Needs, Refuses, Gives, Fails, Meaning}
use Rattle.winnow_parser.specs.Errors.{Errors}
use Rattle.winnow_parser.specs.Laws.{IsStable, IsOnward, IsParser}

-- the same as the inner parser; where that backtracks, memory may be refused while its error is
-- appended to
abbrev pub Appending : {O T : Type 0} → Type 0 → Meaning O T → Meaning O T
Appending refusable inner partial a (Gives x b) = inner partial a (Gives x b)
Appending refusable inner partial a (Fails (Backtracks b)) = inner partial a (Fails (Backtracks b))
Appending refusable inner partial a (Fails (Cuts b)) = inner partial a (Fails (Cuts b))
Appending refusable inner partial a (Fails (Needs n)) = inner partial a (Fails (Needs n))
Appending {T = T} refusable inner partial a (Fails Refuses) = inner partial a (Fails Refuses)
    ⊎ (refusable × ((c : Ahead T) × inner partial a (Fails (Backtracks c))))

-- the errors of the inner parser; that of a backtrack is appended to, by the stream as it is left
-- and a checkpoint of where it stood
abbrev pub AppendedErrors : {E S C T : Type 0} → (C → Ahead T) → (E → S → C → E → Type 0)
    → Errors E S T → Errors E S T
AppendedErrors {E} {S} {C} {T} stood gives inner partial a s (Backtrack e) =
    (e1 : E)
    × ((start : C)
    × (inner partial a s (Backtrack e1) × (stood start ≡ a) × gives e1 s start e))
AppendedErrors stood gives inner partial a s (Cut e) = inner partial a s (Cut e)
AppendedErrors stood gives inner partial a s (Incomplete n) = inner partial a s (Incomplete n)
AppendedErrors stood gives inner partial a s (Refused r) = ⊤

-- the same as the inner parser, or, by the flag, appending to the error with which it backtracks
abbrev pub AppendingIf : {O T : Type 0} → Bool → Type 0 → Meaning O T → Meaning O T
AppendingIf true refusable inner = Appending refusable inner
AppendingIf false refusable inner = inner

-- the errors of the inner parser, or, by the flag, the same with that of a backtrack appended to
abbrev pub AppendedErrorsIf : {E S C T : Type 0} → Bool → (C → Ahead T)
    → (E → S → C → E → Type 0) → Errors E S T → Errors E S T
AppendedErrorsIf true stood gives inner = AppendedErrors stood gives inner
AppendedErrorsIf false stood gives inner = inner

-- whether a repetition may find fewer values than are needed
abbrev pub needs_some : ℕ → Bool
needs_some zero = false
needs_some (suc n) = true

-- whether a list with separators appends to the error of its first value: where values are needed,
-- except for one or more
abbrev pub appends_to_first : ℕ → Option ℕ → Bool
appends_to_first zero greatest = false
appends_to_first (suc zero) None = false
appends_to_first (suc zero) (Some greatest) = true
appends_to_first (suc (suc n)) greatest = true

module _ {O T : Type 0} (refusable : Type 0) {inner : Meaning O T} (p : IsParser inner) where
  -- a settled answer of `Appending` stays when more input follows
  appending-stable : IsStable (Appending refusable inner)
  appending-stable more partial a (Gives x b) s h = p.stable more partial a (Gives x b) s h
  appending-stable more partial a (Fails (Backtracks b)) s h = p.stable more partial a (Fails (Backtracks b)) s h
  appending-stable more partial a (Fails (Cuts b)) s h = p.stable more partial a (Fails (Cuts b)) s h
  appending-stable more partial a (Fails (Needs n)) s h = absurd s
  appending-stable more partial a (Fails Refuses) s h = absurd s

  -- `Appending` only moves the stream on
  appending-onward : IsOnward (Appending refusable inner)
  appending-onward partial a (Gives x b) h = p.onward partial a (Gives x b) h
  appending-onward partial a (Fails (Backtracks b)) h = p.onward partial a (Fails (Backtracks b)) h
  appending-onward partial a (Fails (Cuts b)) h = p.onward partial a (Fails (Cuts b)) h
  appending-onward partial a (Fails (Needs n)) h = tt
  appending-onward partial a (Fails Refuses) h = tt

  -- `Appending` keeps the laws of a parser
  pub IsParser-Appending : IsParser (Appending refusable inner)
  IsParser-Appending = record { stable = appending-stable; final = p.final; onward = appending-onward }

-- `AppendingIf` keeps the laws of a parser
pub IsParser-AppendingIf : {O T : Type 0} (flag : Bool) (refusable : Type 0) {inner : Meaning O T}
    → IsParser inner → IsParser (AppendingIf flag refusable inner)
IsParser-AppendingIf true refusable p = IsParser-Appending refusable p
IsParser-AppendingIf false refusable p = p
