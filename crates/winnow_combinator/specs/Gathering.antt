-- Gathering the values of a repeated parser.
use Rattle.std.specs.Prelude.{List, [], ◌∷◌, ◌++◌, ◌⊎◌}
use Rattle.std.specs.List.{FoldsTo}
use Rattle.std.proofs.lemmas.Fn.{FoldsTo-push}
use Rattle.winnow_parser.specs.Outcome.{Backtracks, Cuts, Needs, Refuses, Gives, Fails, Meaning}
use Rattle.winnow_parser.specs.Laws.{IsStable, IsOnward, IsParser}

-- a result that is made of the value; memory for it may be refused
abbrev pub Gathered : {O A T : Type 0} → Type 0 → (O → A → Type 0) → Meaning O T → Meaning A T
Gathered {O} refusable makes inner partial a (Gives y b) = (x : O) × (makes x y × inner partial a (Gives x b))
Gathered refusable makes inner partial a (Fails (Backtracks b)) = inner partial a (Fails (Backtracks b))
Gathered refusable makes inner partial a (Fails (Cuts b)) = inner partial a (Fails (Cuts b))
Gathered refusable makes inner partial a (Fails (Needs n)) = inner partial a (Fails (Needs n))
Gathered refusable makes inner partial a (Fails Refuses) = refusable ⊎ inner partial a (Fails Refuses)

-- a function folds these values, one after the other, from a start that another function gives
abbrev pub Folds : {O A : Type 0} → (A → Type 0) → (A → O → A → Type 0) → List O → A → Type 0
Folds {A = A} starts step xs whole = (start : A) × (starts start × FoldsTo step start xs whole)

-- folding one more value is one more step
pub Folds-taken : {O A : Type 0} (starts : A → Type 0) (step : A → O → A
    → Type 0) (xs : List O) (old new : A) (x : O) → Folds starts step xs old → step old x new
    → Folds starts step (xs ++ x ∷ []) new
Folds-taken starts step xs old new x h taken = (h.0, (h.1.0, FoldsTo-push step h.0 xs old x new h.1.1 taken))

module _ {O A T : Type 0} (refusable : Type 0) (makes : O → A → Type 0) {inner : Meaning O T} (p : IsParser inner) where
  -- a settled answer of `Gathered` stays when more input follows
  gathered-stable : IsStable (Gathered refusable makes inner)
  gathered-stable more partial a (Gives y b) s h = (h.0, (h.1.0, p.stable more partial a (Gives h.0 b) tt h.1.1))
  gathered-stable more partial a (Fails (Backtracks b)) s h = p.stable more partial a (Fails (Backtracks b)) tt h
  gathered-stable more partial a (Fails (Cuts b)) s h = p.stable more partial a (Fails (Cuts b)) tt h
  gathered-stable more partial a (Fails (Needs n)) s h = absurd s
  gathered-stable more partial a (Fails Refuses) s h = absurd s

  -- `Gathered` only moves the stream on
  gathered-onward : IsOnward (Gathered refusable makes inner)
  gathered-onward partial a (Gives y b) h = p.onward partial a (Gives h.0 b) h.1.1
  gathered-onward partial a (Fails (Backtracks b)) h = p.onward partial a (Fails (Backtracks b)) h
  gathered-onward partial a (Fails (Cuts b)) h = p.onward partial a (Fails (Cuts b)) h
  gathered-onward partial a (Fails (Needs n)) h = tt
  gathered-onward partial a (Fails Refuses) h = tt

  -- `Gathered` keeps the laws of a parser
  pub IsParser-Gathered : IsParser (Gathered refusable makes inner)
  IsParser-Gathered = record { stable = gathered-stable; final = p.final; onward = gathered-onward }
