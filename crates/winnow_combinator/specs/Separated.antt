-- Values with separators between them.
use Rattle.std.specs.Prelude.{◌≡◌, ℕ, ◌+◌, ◌-◌, ◌^◌, ◌≤◌, zero, suc, List, [], ◌∷◌, Option, Some, None, ◌⊎◌}
use Rattle.std.specs.List.{FoldsTo}
use Rattle.winnow_stream.specs.Source.{width}
use Rattle.winnow_parser.specs.Outcome.{Ahead, Backtracks, Cuts, Needs, Refuses, Gives, Fails, Meaning}
use Rattle.winnow_parser.specs.Errors.{Errors, PairErrors}
use Rattle.winnow_parser.specs.Laws.{IsStable, IsOnward, IsParser}
use Rattle.winnow_parser.specs.Meanings.{Returns, Maps, Pair, IsPreceded, IsOpt}
use Rattle.winnow_parser.specs.Parts.{IsParser-Returns, IsParser-Maps, IsParser-Pair, IsParser-IsPreceded, IsParser-IsOpt}
use Rattle.winnow_combinator.specs.Appended.{AppendedErrorsIf, needs_some, appends_to_first}
use Rattle.winnow_combinator.specs.Counts.{fewer}
use Rattle.winnow_combinator.specs.Misuse.{TakingErrors}
use Rattle.winnow_combinator.specs.Repeat.{Repeats, RepeatErrors, IsParser-Repeats}

-- the list has the first value and then the others
abbrev pub Prepends : {O : Type 0} → O × List O → List O → Type 0
Prepends both xs = (both.0 ∷ both.1) ≡ xs

-- a value, and then values after separators, as many as there are
abbrev pub Chained : {O S T : Type 0} → ℕ → Option ℕ → Meaning S T → Meaning O T
    → Meaning (List O) T
Chained least greatest separator inner =
    Maps Prepends (Pair inner (Repeats (least - 1) (fewer greatest) (IsPreceded separator inner)))

-- the list, or the empty list for `None`
abbrev pub OrNone : {O : Type 0} → Option (List O) → List O → Type 0
OrNone None xs = [] ≡ xs
OrNone (Some ys) xs = ys ≡ xs

-- the values; where none is needed, there may be none
abbrev pub IfNeeded : {O T : Type 0} → ℕ → Meaning (List O) T → Meaning (List O) T
IfNeeded zero values = Maps OrNone (IsOpt values)
IfNeeded (suc n) values = values

-- values with separators between them, as many as there are and at most `greatest`, if there are at
-- least `least`; a separator that no value follows is not taken
abbrev pub IsSeparated : {O S T : Type 0} → ℕ → Option ℕ → Meaning S T → Meaning O T
    → Meaning (List O) T
IsSeparated least None separator inner = IfNeeded least (Chained least None separator inner)
IsSeparated least (Some zero) separator inner = Returns []
IsSeparated least (Some (suc n)) separator inner = IfNeeded least (Chained least (Some (suc n)) separator inner)

-- the inner parser, which may refuse an input of the greatest width, since that might have one more
-- value than a `usize` can count
abbrev pub Countable : {O T : Type 0} → Meaning O T → Meaning O T
Countable inner partial a (Gives x b) = inner partial a (Gives x b)
Countable inner partial a (Fails (Backtracks b)) = inner partial a (Fails (Backtracks b))
Countable inner partial a (Fails (Cuts b)) = inner partial a (Fails (Cuts b))
Countable inner partial a (Fails (Needs n)) = inner partial a (Fails (Needs n))
Countable inner partial a (Fails Refuses) = (2 ^ 64 ≤ width a.tokens + 1) ⊎ inner partial a (Fails Refuses)

-- a step folds the pairs into the first value
abbrev pub FoldsLeft : {O P : Type 0} → (O → P → O → Type 0) → O × List P → O → Type 0
FoldsLeft step both y = FoldsTo step both.0 both.1 y

-- values with separators between them, as many as there are, folded from the left
abbrev pub IsSeparatedFoldl1 : {O S T : Type 0} → (O → S × O → O → Type 0) → Meaning S T
    → Meaning O T → Meaning O T
IsSeparatedFoldl1 step separator inner = Maps (FoldsLeft step) (Pair inner (Repeats 0 None (Pair separator inner)))

-- the errors of the first value; or, after it and some pairs, those of the next separator and its
-- value, which together take something
abbrev pub SeparatedFoldl1Errors : {O P Q E S T : Type 0} → (S → E → Type 0) → Meaning Q T
    → Meaning P T → Errors E S T → Meaning O T → Errors E S T → Errors E S T
SeparatedFoldl1Errors cuts pairs separator separator_errors inner errors =
    PairErrors inner errors (RepeatErrors pairs (TakingErrors cuts pairs (PairErrors separator separator_errors errors)))

-- the errors of the first value; or, after it and some pairs, those of the next separator and its
-- value. Where these are needed, the error of a backtrack is appended to, by the stream as it is
-- left and a checkpoint of where they were asked for
abbrev pub SeparatedErrors : {O P Q C E S T : Type 0} → ℕ → Option ℕ → (C → Ahead T)
    → (E → S → C → E → Type 0) → (S → E → Type 0) → Meaning Q T → Meaning P T → Errors E S T
    → Meaning O T → Errors E S T → Errors E S T
SeparatedErrors least greatest stood gives cuts pairs separator separator_errors inner errors =
    PairErrors inner (AppendedErrorsIf (appends_to_first least greatest) stood gives errors)
    (RepeatErrors pairs (AppendedErrorsIf (needs_some (least - 1)) stood gives (TakingErrors cuts pairs (PairErrors separator separator_errors errors))))

module _ {O S T : Type 0} {separator : Meaning S T} {inner : Meaning O T} (q : IsParser separator) (p : IsParser inner) where
  -- `IsSeparatedFoldl1` keeps the laws of a parser
  pub IsParser-IsSeparatedFoldl1 : (step : O → S × O → O → Type 0)
      → IsParser (IsSeparatedFoldl1 step separator inner)
  IsParser-IsSeparatedFoldl1 step =
      let rest = Repeats 0 None (Pair separator inner) in
      let lawful = IsParser-Repeats 0 None (IsParser-Pair separator inner q p) in
      IsParser-Maps (FoldsLeft step) (Pair inner rest) (IsParser-Pair inner rest p lawful)

  -- `Chained` keeps the laws of a parser
  pub IsParser-Chained : (least : ℕ) (greatest : Option ℕ)
      → IsParser (Chained least greatest separator inner)
  IsParser-Chained least greatest =
      let rest = Repeats (least - 1) (fewer greatest) (IsPreceded separator inner) in
      let lawful = IsParser-Repeats (least - 1) (fewer greatest) (IsParser-IsPreceded separator inner q p) in
      IsParser-Maps Prepends (Pair inner rest) (IsParser-Pair inner rest p lawful)

-- `IfNeeded` keeps the laws of a parser
IsParser-IfNeeded : {O T : Type 0} (least : ℕ) {values : Meaning (List O) T} → IsParser values
    → IsParser (IfNeeded least values)
IsParser-IfNeeded zero {values} v = IsParser-Maps OrNone (IsOpt values) (IsParser-IsOpt values v)
IsParser-IfNeeded (suc n) v = v

-- `IsSeparated` keeps the laws of a parser
pub IsParser-IsSeparated : {O S T : Type 0} (least : ℕ) (greatest : Option ℕ)
    {separator : Meaning S T} {inner : Meaning O T} → IsParser separator → IsParser inner
    → IsParser (IsSeparated least greatest separator inner)
IsParser-IsSeparated least None q p = IsParser-IfNeeded least (IsParser-Chained q p least None)
IsParser-IsSeparated least (Some zero) q p = IsParser-Returns []
IsParser-IsSeparated least (Some (suc n)) q p = IsParser-IfNeeded least (IsParser-Chained q p least (Some (suc n)))

module _ {O T : Type 0} {inner : Meaning O T} (p : IsParser inner) where
  -- a settled answer of `Countable` stays when more input follows
  countable-stable : IsStable (Countable inner)
  countable-stable more partial a (Gives x b) s h = p.stable more partial a (Gives x b) tt h
  countable-stable more partial a (Fails (Backtracks b)) s h = p.stable more partial a (Fails (Backtracks b)) tt h
  countable-stable more partial a (Fails (Cuts b)) s h = p.stable more partial a (Fails (Cuts b)) tt h
  countable-stable more partial a (Fails (Needs n)) s h = absurd s
  countable-stable more partial a (Fails Refuses) s h = absurd s

  -- `Countable` only moves the stream on
  countable-onward : IsOnward (Countable inner)
  countable-onward partial a (Gives x b) h = p.onward partial a (Gives x b) h
  countable-onward partial a (Fails (Backtracks b)) h = p.onward partial a (Fails (Backtracks b)) h
  countable-onward partial a (Fails (Cuts b)) h = p.onward partial a (Fails (Cuts b)) h
  countable-onward partial a (Fails (Needs n)) h = tt
  countable-onward partial a (Fails Refuses) h = tt

  -- `Countable` keeps the laws of a parser
  pub IsParser-Countable : IsParser (Countable inner)
  IsParser-Countable = record { stable = countable-stable; final = p.final; onward = countable-onward }
