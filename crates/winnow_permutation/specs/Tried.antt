-- A parser that goes back to where it began if another one backtracks.
use Rattle.std.specs.Prelude.{◌≡◌}
use Rattle.std.proofs.Common.{ap}
use Rattle.winnow_error.specs.declared.failure.Failure.TheVariants.{Incomplete, Backtrack, Cut, Refused}
use Rattle.winnow_parser.specs.Outcome.{Ahead, Backtracks, Cuts, Needs, Refuses, Gives, Fails, Meaning}
use Rattle.winnow_parser.specs.Errors.{Errors, FailsLeaving}
use Rattle.winnow_parser.specs.Laws.{longer, IsStable, IsOnward, IsParser}
use Rattle.winnow_parser.specs.Parts.{Moves-still}

-- the same as the inner parser; where that backtracks, this one does so from where it began
abbrev pub Tries : {O T : Type 0} → Meaning O T → Meaning O T
Tries inner partial a (Gives x b) = inner partial a (Gives x b)
Tries {O} {T} inner partial a (Fails (Backtracks b)) = (a ≡ b) × ((c : Ahead T) × inner partial a (Fails (Backtracks c)))
Tries inner partial a (Fails (Cuts b)) = inner partial a (Fails (Cuts b))
Tries inner partial a (Fails (Needs n)) = inner partial a (Fails (Needs n))
Tries inner partial a (Fails Refuses) = inner partial a (Fails Refuses)

-- the errors of the inner parser; that of a backtrack is of the stream as the inner parser left it,
-- at the place that its meaning allows
abbrev pub TriedErrors : {O E S T : Type 0} → (S → Ahead T) → Meaning O T → Errors E S T
    → Errors E S T
TriedErrors stands means inner partial a s (Backtrack e) = FailsLeaving stands means inner partial a (Backtrack e)
TriedErrors stands means inner partial a s (Cut e) = inner partial a s (Cut e)
TriedErrors stands means inner partial a s (Incomplete n) = inner partial a s (Incomplete n)
TriedErrors stands means inner partial a s (Refused r) = inner partial a s (Refused r)

module _ {O T : Type 0} {inner : Meaning O T} (p : IsParser inner) where
  -- a settled answer of `Tries` stays when more input follows
  tried-stable : IsStable (Tries inner)
  tried-stable more partial a (Gives x b) s h = p.stable more partial a (Gives x b) tt h
  tried-stable more partial a (Fails (Backtracks b)) s h =
      (ap (longer more) h.0, (longer more h.1.0, p.stable more partial a (Fails (Backtracks h.1.0)) tt h.1.1))
  tried-stable more partial a (Fails (Cuts b)) s h = p.stable more partial a (Fails (Cuts b)) tt h
  tried-stable more partial a (Fails (Needs n)) s h = absurd s
  tried-stable more partial a (Fails Refuses) s h = absurd s

  -- `Tries` only moves the stream on
  tried-onward : IsOnward (Tries inner)
  tried-onward partial a (Gives x b) h = p.onward partial a (Gives x b) h
  tried-onward partial a (Fails (Backtracks b)) h = Moves-still a b h.0
  tried-onward partial a (Fails (Cuts b)) h = p.onward partial a (Fails (Cuts b)) h
  tried-onward partial a (Fails (Needs n)) h = tt
  tried-onward partial a (Fails Refuses) h = tt

  -- `Tries` keeps the laws of a parser
  pub IsParser-Tries : IsParser (Tries inner)
  IsParser-Tries = record { stable = tried-stable; final = p.final; onward = tried-onward }
