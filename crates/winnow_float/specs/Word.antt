-- A word, which is read whole or not at all.
use Rattle.std.specs.Prelude.{◌≡◌, ◌⊎◌}
use Rattle.std.proofs.Common.{ap, sym}
use Rattle.winnow_parser.specs.Outcome.{Ahead, Backtracks, Cuts, Needs, Refuses, Gives, Fails, Meaning}
use Rattle.winnow_error.specs.Failures.{IsBacktrackOf}
use Rattle.winnow_parser.specs.Errors.{Errors}
use Rattle.winnow_parser.specs.Laws.{longer, IsStable, IsOnward, IsParser}
use Rattle.winnow_parser.specs.Parts.{Moves-still}

-- the same as the parser of the letters, without its value; where that backtracks, this one
-- backtracks to the place where it began
abbrev pub IsWord : {O T : Type 0} → Meaning O T → Meaning (Unit {0}) T
IsWord {O} letters partial a (Gives u b) = (x : O) × letters partial a (Gives x b)
IsWord {O} {T} letters partial a (Fails (Backtracks b)) = (b ≡ a) × ((c : Ahead T) × letters partial a (Fails (Backtracks c)))
IsWord letters partial a (Fails (Cuts b)) = letters partial a (Fails (Cuts b))
IsWord letters partial a (Fails (Needs n)) = letters partial a (Fails (Needs n))
IsWord letters partial a (Fails Refuses) = letters partial a (Fails Refuses)

-- the errors of the parser of the letters; that of a backtrack is made of the stream as it is left
abbrev pub WordErrors : {E S T : Type 0} → (S → E → Type 0) → Errors E S T → Errors E S T
WordErrors makes letters partial a s failure = letters partial a s failure ⊎ IsBacktrackOf (makes s) failure

module _ {O T : Type 0} {letters : Meaning O T} (p : IsParser letters) where
  -- a settled answer of `IsWord` stays when more input follows
  word-stable : IsStable (IsWord letters)
  word-stable more partial a (Gives u b) s h = (h.0, p.stable more partial a (Gives h.0 b) tt h.1)
  word-stable more partial a (Fails (Backtracks b)) s (e, (c, h)) =
      (ap (longer more) e, (longer more c, p.stable more partial a (Fails (Backtracks c)) tt h))
  word-stable more partial a (Fails (Cuts b)) s h = p.stable more partial a (Fails (Cuts b)) tt h
  word-stable more partial a (Fails (Needs n)) s h = absurd s
  word-stable more partial a (Fails Refuses) s h = absurd s

  -- `IsWord` only moves the stream on
  word-onward : IsOnward (IsWord letters)
  word-onward partial a (Gives u b) h = p.onward partial a (Gives h.0 b) h.1
  word-onward partial a (Fails (Backtracks b)) h = Moves-still a b (sym h.0)
  word-onward partial a (Fails (Cuts b)) h = p.onward partial a (Fails (Cuts b)) h
  word-onward partial a (Fails (Needs n)) h = tt
  word-onward partial a (Fails Refuses) h = tt

  -- `IsWord` keeps the laws of a parser
  pub IsParser-IsWord : IsParser (IsWord letters)
  IsParser-IsWord = record { stable = word-stable; final = p.final; onward = word-onward }
