-- Folding the values of a repeated parser by a step that may refuse a value.
use Rattle.std.specs.Prelude.{◌≡◌, ℕ, Bool, true, false, List, length, Option, Some, Result, Ok, Err, ◌⊎◌}
use Rattle.std.proofs.Common.{refl, ap, sym, subst, inl, inr, arith}
use Rattle.winnow_stream.specs.Source.{Source}
use Rattle.winnow_stream.specs.declared.needed.Needed.{Needed}
use Rattle.winnow_parser.specs.Outcome.{Ahead, Failed, Backtracks, Needs, Gives, Fails, Meaning, Moves}
use Rattle.winnow_error.specs.Failures.{IsBacktrackOf}
use Rattle.winnow_parser.specs.Errors.{Errors}
use Rattle.winnow_parser.specs.Laws.{longer, failed_longer, IsSettled, FailsAfter, IsStable, IsFinal, IsOnward, IsParser}
use Rattle.winnow_parser.specs.Parts.{Moves-still, LeavesAfter-on}
use Rattle.winnow_combinator.specs.Appended.{Appending, IsParser-Appending}
use Rattle.winnow_combinator.specs.Counts.{IsBelow}
use Rattle.winnow_combinator.specs.Gathering.{Folds}
use Rattle.winnow_combinator.specs.Repeat.{Taking, InTurn, OneMore, Repeats, IsParser-Taking, IsParser-OneMore, IsParser-Repeats}

-- the step makes this new result of the old one and a value
abbrev pub StepsTo : {O A C : Type 0} → (A → O → Result A C → Type 0) → A → O → A → Type 0
StepsTo step old x new = step old x (Ok new)

-- between two places the parser gives these values in turn, and the step folds them into this
-- result
abbrev pub FoldsInTurn : {O A C T : Type 0} → (A → Type 0) → (A → O → Result A C → Type 0)
    → Meaning O T → Bool → Ahead T → List O → A → Ahead T → Type 0
FoldsInTurn starts step inner partial a xs whole b = InTurn (Taking inner) partial xs a b × Folds starts (StepsTo step) xs whole

-- the parser gives one more value, and the step refuses it for this cause
abbrev pub RefusesNext : {O A C T : Type 0} → (A → O → Result A C → Type 0) → Meaning O T → Bool
    → A → Ahead T → C → Type 0
RefusesNext {O} {A} {C} {T} step inner partial whole b cause =
    (x : O) × ((c : Ahead T) × (Taking inner partial b (Gives x c) × step whole x (Err cause)))

-- the result that a step makes of the values of the parser, as many as it gives and at most
-- `greatest`, if there are at least `least`. If the step refuses one, the parser backtracks to
-- where that value began. Memory may be refused while the error of a missing value is appended to
abbrev pub TriesFold : {O A C T : Type 0} → ℕ → Option ℕ → Type 0 → (A → Type 0)
    → (A → O → Result A C → Type 0) → Meaning O T → Meaning A T
TriesFold {O} least greatest refusable starts step inner partial a (Gives y b) =
    (xs : List O)
    × (Folds starts (StepsTo step) xs y × Repeats least greatest inner partial a (Gives xs b))
TriesFold {O} {A} {C} {T} least greatest refusable starts step inner partial a (Fails f) =
    (xs : List O) × ((whole : A) × ((b : Ahead T)
    × (FoldsInTurn starts step inner partial a xs whole b × IsBelow greatest (length xs)
    × (Appending refusable (OneMore least (length xs) (Taking inner)) partial b (Fails f)
    ⊎ ((cause : C) × (RefusesNext step inner partial whole b cause × (f ≡ Backtracks b)))))))

-- the errors of a repetition; or, after some of its values, an error that is made of the cause for
-- which the step refuses the next one
abbrev pub TryFoldErrors : {O A C E S T : Type 0} → (A → Type 0) → (A → O → Result A C → Type 0)
    → (C → S → E → Type 0) → Meaning O T → Errors E S T → Errors E S T
TryFoldErrors {O} {A} {C} {E} {S} {T} starts step tells means repeated partial a s failure = repeated partial a s failure
    ⊎ ((xs : List O) × ((whole : A) × ((b : Ahead T) × ((cause : C)
    × (FoldsInTurn starts step means partial a xs whole b
    × RefusesNext step means partial whole b cause × IsBacktrackOf (tells cause s) failure)))))

-- ---- The laws

module _ {O T : Type 0} {inner : Meaning O T} (p : IsParser inner) where
  -- values in turn are those of a repetition of their number
  repeats-these : (partial : Bool) (xs : List O) (a b : Ahead T)
      → InTurn (Taking inner) partial xs a b
      → Repeats (length xs) (Some (length xs)) inner partial a (Gives xs b)
  repeats-these partial xs a b turns = (turns, omega arith, inl refl)

  -- values in turn are the same when more input follows
  turns-longer : (more : Source T) (partial : Bool) (xs : List O) (a b : Ahead T)
      → InTurn (Taking inner) true xs a b
      → InTurn (Taking inner) partial xs (longer more a) (longer more b)
  turns-longer more partial xs a b turns =
      ((IsParser-Repeats (length xs) (Some (length xs)) p).stable more partial a (Gives xs b) tt (repeats-these true xs a b turns)).0

  -- values in turn move the stream on
  turns-move : (partial : Bool) (xs : List O) (a b : Ahead T)
      → InTurn (Taking inner) partial xs a b → Moves a b
  turns-move partial xs a b turns =
      (IsParser-Repeats (length xs) (Some (length xs)) p).onward partial a (Gives xs b) (repeats-these partial xs a b turns)

module _ {O A C T : Type 0} (least : ℕ) (greatest : Option ℕ) (refusable : Type 0) (starts : A → Type 0) (step : A → O → Result A C → Type 0) {inner : Meaning O T} (p : IsParser inner) where
  -- asking for one more value keeps the laws of a parser
  after-turns : (n : ℕ) → IsParser (Appending refusable (OneMore least n (Taking inner)))
  after-turns n = IsParser-Appending refusable (IsParser-OneMore least n (IsParser-Taking p))

  -- how the values end without a result
  abbrev Ends : Bool → ℕ → A → Ahead T → Failed T → Type 0
  Ends partial n whole b f = Appending refusable (OneMore least n (Taking inner)) partial b (Fails f)
      ⊎ ((cause : C) × (RefusesNext step inner partial whole b cause × (f ≡ Backtracks b)))

  -- a settled end stays when more input follows
  ends-longer : (more : Source T) (partial : Bool) (n : ℕ) (whole : A) (b : Ahead T) (f : Failed T)
      → IsSettled {O = A} (Fails f) → Ends true n whole b f
      → Ends partial n whole (longer more b) (failed_longer more f)
  ends-longer more partial n whole b f s (inl h) = inl ((after-turns n).stable more partial b (Fails f) s h)
  ends-longer more partial n whole b f s (inr (cause, ((x, (c, (h, refused))), e))) =
      inr (cause, ((x, (longer more c, ((IsParser-Taking p).stable more partial b (Gives x c) tt h, refused))), ap (failed_longer more) e))

  -- a settled answer of `TriesFold` stays when more input follows
  tries_fold-stable : IsStable (TriesFold least greatest refusable starts step inner)
  tries_fold-stable more partial a (Gives y b) s (xs, (folds, h)) =
      (xs, (folds, (IsParser-Repeats least greatest p).stable more partial a (Gives xs b) tt h))
  tries_fold-stable more partial a (Fails f) s (xs, (whole, (b, ((turns, folds), below, end)))) =
      (xs, (whole, (longer more b, ((turns-longer p more partial xs a b turns, folds), below, ends-longer more partial (length xs) whole b f s end))))

  -- no end needs more if nothing more may follow
  ends-final : (n : ℕ) (whole : A) (b : Ahead T) → (m : Needed) → ¬ (Ends false n whole b (Needs m))
  ends-final n whole b m (inl h) = (after-turns n).final b m h
  ends-final n whole b m (inr (cause, (h, e))) = cc

  -- `TriesFold` needs nothing more if nothing more may follow
  tries_fold-final : IsFinal (TriesFold least greatest refusable starts step inner)
  tries_fold-final a m (xs, (whole, (b, (turns, below, end)))) = ends-final (length xs) whole b m end

  -- the values end at or after the place where the last one ended
  ends-onward : (partial : Bool) (n : ℕ) (whole : A) (b : Ahead T) (f : Failed T)
      → Ends partial n whole b f → FailsAfter b f
  ends-onward partial n whole b f (inl h) = (after-turns n).onward partial b (Fails f) h
  ends-onward partial n whole b f (inr (cause, (h, e))) = subst (FailsAfter b) (sym e) (Moves-still b b refl)

  -- `TriesFold` only moves the stream on
  tries_fold-onward : IsOnward (TriesFold least greatest refusable starts step inner)
  tries_fold-onward partial a (Gives y b) (xs, (folds, h)) = (IsParser-Repeats least greatest p).onward partial a (Gives xs b) h
  tries_fold-onward partial a (Fails f) (xs, (whole, (b, ((turns, folds), below, end)))) =
      LeavesAfter-on {O = A} a b (Fails f) (turns-move p partial xs a b turns) (ends-onward partial (length xs) whole b f end)

  -- `TriesFold` keeps the laws of a parser
  pub IsParser-TriesFold : IsParser (TriesFold least greatest refusable starts step inner)
  IsParser-TriesFold = record { stable = tries_fold-stable; final = tries_fold-final; onward = tries_fold-onward }
