-- The first of the parsers of a list that does not backtrack, from the same place.
use Rattle.std.specs.Prelude.{◌≡◌, List, [], ◌∷◌}
use Rattle.std.proofs.Common.{refl, ap, sym, subst}
use Rattle.winnow_parser.specs.Outcome.{Ahead, Cuts, Fails, Meaning}
use Rattle.winnow_parser.specs.Errors.{Errors, AltErrors2}
use Rattle.winnow_parser.specs.Laws.{outcome_longer, IsStable, IsFinal, LeavesAfter, IsOnward, IsParser}
use Rattle.winnow_parser.specs.Meanings.{IsAlt2}
use Rattle.winnow_parser.specs.Parts.{IsParser-IsAlt2, Moves-still}
use Rattle.winnow_combinator.specs.Appended.{Appending, AppendedErrors, IsParser-Appending}
use Rattle.winnow_combinator.specs.Misuse.{IsCutWith}

-- the first of one parser and of those of a list after it; the type says when memory may be refused
-- while errors are joined
abbrev pub IsAltOf : {O T P : Type 0} → Type 0 → (P → Meaning O T) → Meaning O T → List P
    → Meaning O T
IsAltOf unjoined means first [] = first
IsAltOf unjoined means first (next ∷ rest) = IsAltOf unjoined means (IsAlt2 unjoined first (means next)) rest

-- their errors, joined from the left where all backtrack
abbrev pub AltErrorsOf : {O E S T P : Type 0} → (S → Ahead T) → Type 0 → (E → E → E → Type 0)
    → (P → Meaning O T) → (P → Errors E S T) → Meaning O T → Errors E S T → List P → Errors E S T
AltErrorsOf stands unjoined joins means errors first first_errors [] = first_errors
AltErrorsOf stands unjoined joins means errors first first_errors (next ∷ rest) =
    AltErrorsOf stands unjoined joins means errors (IsAlt2 unjoined first (means next))
    (AltErrors2 stands joins first first_errors (errors next)) rest

-- the first of the parsers of a list; with none, the parser cuts at once. The types say when memory
-- may be refused while an error is appended to, and while errors are joined
abbrev pub IsAltOfAll : {O T P : Type 0} → Type 0 → Type 0 → (P → Meaning O T) → List P
    → Meaning O T
IsAltOfAll unappended unjoined means [] partial a v = v ≡ Fails (Cuts a)
IsAltOfAll unappended unjoined means (first ∷ rest) partial a v =
    Appending unappended (IsAltOf unjoined means (means first) rest) partial a v

-- their errors: where all backtrack, the joined error is appended to; with no parser, the error of
-- a cut is made of the stream
abbrev pub AltErrorsOfAll : {O E S C T P : Type 0} → (S → Ahead T) → (C → Ahead T) → Type 0
    → (E → E → E → Type 0) → (E → S → C → E → Type 0) → (S → E → Type 0) → (P → Meaning O T)
    → (P → Errors E S T) → List P → Errors E S T
AltErrorsOfAll stands stood unjoined joins appends cuts means errors [] partial a s failure =
    IsCutWith cuts s failure
AltErrorsOfAll stands stood unjoined joins appends cuts means errors (first ∷ rest) partial a s failure =
    AppendedErrors stood appends
    (AltErrorsOf stands unjoined joins means errors (means first) (errors first) rest) partial a s failure

-- ---- The laws

-- `IsAltOf` keeps the laws of a parser
pub IsParser-IsAltOf : {O T P : Type 0} (unjoined : Type 0) (means : P → Meaning O T)
    → ((p : P) → IsParser (means p)) → (first : Meaning O T) → IsParser first → (rest : List P)
    → IsParser (IsAltOf unjoined means first rest)
IsParser-IsAltOf unjoined means each first p [] = p
IsParser-IsAltOf unjoined means each first p (next ∷ rest) =
    IsParser-IsAltOf unjoined means each (IsAlt2 unjoined first (means next))
    (IsParser-IsAlt2 unjoined first (means next) p (each next)) rest

module _ {O T P : Type 0} (unappended unjoined : Type 0) (means : P → Meaning O T) where
  -- a settled answer of no parser stays when more input follows
  none-stable : IsStable (IsAltOfAll unappended unjoined means [])
  none-stable more partial a v s h = ap (outcome_longer more) h

  -- no parser needs nothing more
  none-final : IsFinal (IsAltOfAll unappended unjoined means [])
  none-final a n h = cc

  -- no parser only moves the stream on
  none-onward : IsOnward (IsAltOfAll unappended unjoined means [])
  none-onward partial a v h = subst (LeavesAfter a) (sym h) (Moves-still a a refl)

  -- `IsAltOfAll` keeps the laws of a parser
  pub IsParser-IsAltOfAll : ((p : P) → IsParser (means p)) → (list : List P)
      → IsParser (IsAltOfAll unappended unjoined means list)
  IsParser-IsAltOfAll each [] = record { stable = none-stable; final = none-final; onward = none-onward }
  IsParser-IsAltOfAll each (first ∷ rest) =
      IsParser-Appending unappended (IsParser-IsAltOf unjoined means each (means first) (each first) rest)
