-- A parser that has one answer to each question.
use Rattle.std.specs.Prelude.{◌≡◌, ℕ, Bool, Option, Some, None, ⊤}
use Rattle.winnow_stream.specs.Source.{Source}
use Rattle.winnow_parser.specs.Outcome.{Ahead, Failed, Backtracks, Cuts, Needs, Refuses, Outcome, Gives, Fails, Meaning}
use Rattle.winnow_parser.specs.Taken.{IsFrontTaken}

-- memory was not refused
abbrev pub IsGrantedFailure : {T : Type 0} → Failed T → Type 0
IsGrantedFailure (Backtracks b) = ⊤
IsGrantedFailure (Cuts b) = ⊤
IsGrantedFailure (Needs n) = ⊤
IsGrantedFailure Refuses = ⊥

-- memory was not refused in this outcome
abbrev pub IsGranted : {O T : Type 0} → Outcome O T → Type 0
IsGranted (Gives x b) = ⊤
IsGranted (Fails f) = IsGrantedFailure f

-- the same value and the same place after it, or the same failure
abbrev pub Agree : {O T : Type 0} → (O → O → Type 0) → Outcome O T → Outcome O T → Type 0
Agree same (Gives x b) (Gives y c) = same x y × (b ≡ c)
Agree same (Gives x b) (Fails g) = ⊥
Agree same (Fails f) (Gives y c) = ⊥
Agree same (Fails f) (Fails g) = f ≡ g

-- two answers that a parser may give agree, unless memory was refused
abbrev pub IsDetermined : {O T : Type 0} → (O → O → Type 0) → Meaning O T → Type 0
IsDetermined {O} {T} same means = (partial : Bool) (a : Ahead T) (v w : Outcome O T)
    → IsGranted v → IsGranted w → means partial a v → means partial a w → Agree same v w

-- two pairs are the same where both parts are
abbrev pub AreBothSame : {O P : Type 0} → (O → O → Type 0) → (P → P → Type 0) → O × P → O × P
    → Type 0
AreBothSame same alike p q = same p.0 q.0 × alike p.1 q.1

-- two options are the same where both have the same value, or neither has one
abbrev pub AreSameIfAny : {O : Type 0} → (O → O → Type 0) → Option O → Option O → Type 0
AreSameIfAny same (Some x) (Some y) = same x y
AreSameIfAny same (Some x) None = ⊥
AreSameIfAny same None (Some y) = ⊥
AreSameIfAny same None None = ⊤

-- a relation gives the same for values that are the same
abbrev pub Respects : {O P : Type 0} → (O → O → Type 0) → (P → P → Type 0) → (O → P → Type 0)
    → Type 0
Respects {O} {P} same alike gives = (x y : O) (p q : P) → same x y → gives x p → gives y q → alike p q

-- slices of one front, taken from one place, are the same
abbrev pub SlicesRespect : {S T : Type 0} → (S → Source T → ℕ → Type 0) → (S → S → Type 0) → Type 0
SlicesRespect {S} {T} is_slice alike = (s t : S) (a b : Ahead T) → IsFrontTaken is_slice s a b → IsFrontTaken is_slice t a b → alike s t

-- two values are the same where a view shows the same of them
abbrev pub Shows : {O V : Type 0} → (O → V) → O → O → Type 0
Shows view x y = view x ≡ view y
