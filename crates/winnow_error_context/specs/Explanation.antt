-- What a context error says.
use Rattle.std.specs.Prelude.{◌≡◌, ◌++◌, ℕ, List, [], ◌∷◌, Option, Some, None}
use Rattle.std.specs.Iterator.{YieldsThen}

-- the contexts in the order in which they were pushed, and the text of the cause
pub record Explanation (C : Type 0) : Type 0 where
  pub contexts : List C
  pub cause : Option (List ℕ)

-- an explanation with no context and no cause
abbrev pub unexplained : {C : Type 0} → Explanation C
unexplained = record { contexts = []; cause = None }

-- an explanation with a cause and no context
abbrev pub caused_by : {C : Type 0} → List ℕ → Explanation C
caused_by text = record { contexts = []; cause = Some text }

-- an explanation with one more context at the end
abbrev pub pushed : {C : Type 0} → Explanation C → C → Explanation C
pushed e c = record e { contexts = e.contexts ++ c ∷ [] }

-- `to` is `from` with these contexts appended
abbrev pub Extends : {C : Type 0} → Explanation C → List C → Explanation C → Type 0
Extends from cs to = to ≡ record from { contexts = from.contexts ++ cs }

-- the iterator that `contexts` became yielded the contexts that `to` has after `from`, and one
-- more, which was dropped
abbrev pub KeepsAllButOne : {U T C : Type 0} → (U → T → Type 0) → (T → Option C → T → Type 0) → U
    → Explanation C → Explanation C → Type 0
KeepsAllButOne {U} {T} {C} becomes steps contexts from to = (it : T) × (kept : List C) × (more : C) × (rest : T) × becomes contexts it × YieldsThen steps it kept (Some more) rest × Extends from kept to
