-- An operator that is looked for: it is there, it is there and does not fit, or there is none.
use Rattle.std.specs.Prelude.{◌≡◌}
use Rattle.std.proofs.Common.{ap}
use Rattle.winnow_parser.specs.Outcome.{Ahead, Backtracks, Cuts, Needs, Refuses, Gives, Fails, Meaning}
use Rattle.winnow_parser.specs.Laws.{longer, IsStable, IsOnward, IsParser}
use Rattle.winnow_parser.specs.Parts.{Moves-still}

-- an operator that fits, one that does not, or none
pub data Found (B : Type 0) : Type 0 where
  Fits : B → Found B
  Unfit : Found B
  Absent : Found B

-- the operator, if it fits; for one that does not fit, and where there is none, nothing is taken
abbrev pub IsFound : {B T : Type 0} → (B → Type 0) → Meaning B T → Meaning (Found B) T
IsFound fits inner partial a (Gives (Fits x) b) = fits x × inner partial a (Gives x b)
IsFound {B} {T} fits inner partial a (Gives Unfit b) =
    (a ≡ b) × ((x : B) × ((c : Ahead T) × (¬ (fits x) × inner partial a (Gives x c))))
IsFound {B} {T} fits inner partial a (Gives Absent b) =
    (a ≡ b) × ((c : Ahead T) × inner partial a (Fails (Backtracks c)))
IsFound fits inner partial a (Fails (Backtracks b)) = ⊥
IsFound fits inner partial a (Fails (Cuts b)) = inner partial a (Fails (Cuts b))
IsFound fits inner partial a (Fails (Needs n)) = inner partial a (Fails (Needs n))
IsFound fits inner partial a (Fails Refuses) = inner partial a (Fails Refuses)

module _ {B T : Type 0} (fits : B → Type 0) {inner : Meaning B T} (p : IsParser inner) where
  -- a settled answer of `IsFound` stays when more input follows
  found-stable : IsStable (IsFound fits inner)
  found-stable more partial a (Gives (Fits x) b) s h = (h.0, p.stable more partial a (Gives x b) tt h.1)
  found-stable more partial a (Gives Unfit b) s h =
      (ap (longer more) h.0, (h.1.0, (longer more h.1.1.0, (h.1.1.1.0, p.stable more partial a (Gives h.1.0 h.1.1.0) tt h.1.1.1.1))))
  found-stable more partial a (Gives Absent b) s h =
      (ap (longer more) h.0, (longer more h.1.0, p.stable more partial a (Fails (Backtracks h.1.0)) tt h.1.1))
  found-stable more partial a (Fails (Backtracks b)) s h = absurd h
  found-stable more partial a (Fails (Cuts b)) s h = p.stable more partial a (Fails (Cuts b)) tt h
  found-stable more partial a (Fails (Needs n)) s h = absurd s
  found-stable more partial a (Fails Refuses) s h = absurd s

  -- `IsFound` only moves the stream on
  found-onward : IsOnward (IsFound fits inner)
  found-onward partial a (Gives (Fits x) b) h = p.onward partial a (Gives x b) h.1
  found-onward partial a (Gives Unfit b) h = Moves-still a b h.0
  found-onward partial a (Gives Absent b) h = Moves-still a b h.0
  found-onward partial a (Fails (Backtracks b)) h = absurd h
  found-onward partial a (Fails (Cuts b)) h = p.onward partial a (Fails (Cuts b)) h
  found-onward partial a (Fails (Needs n)) h = tt
  found-onward partial a (Fails Refuses) h = tt

  -- `IsFound` keeps the laws of a parser
  pub IsParser-IsFound : IsParser (IsFound fits inner)
  IsParser-IsFound = record { stable = found-stable; final = λ a n h. p.final a n h; onward = found-onward }
