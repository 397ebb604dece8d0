-- Values with separators between them, folded from the right.
use Rattle.std.specs.Prelude.{◌≡◌, List, [], ◌∷◌, None, ⊤}
use Rattle.winnow_parser.specs.Outcome.{Meaning}
use Rattle.winnow_parser.specs.Errors.{Errors, PairErrors}
use Rattle.winnow_parser.specs.Laws.{IsParser}
use Rattle.winnow_parser.specs.Meanings.{Pair}
use Rattle.winnow_parser.specs.Parts.{IsParser-Pair}
use Rattle.winnow_combinator.specs.Gathering.{Gathered, IsParser-Gathered}
use Rattle.winnow_combinator.specs.Misuse.{TakingErrors}
use Rattle.winnow_combinator.specs.Repeat.{Repeats, RepeatErrors, IsParser-Repeats}

-- a step folds a value and the pairs after it from the right: it joins the value to the result of
-- the pairs, across the first separator
abbrev pub FoldsRight : {O S : Type 0} → (O → S → O → O → Type 0) → O → List (S × O) → O → Type 0
FoldsRight step x [] y = x ≡ y
FoldsRight {O} step x (pair ∷ pairs) y = (right : O) × (FoldsRight step pair.1 pairs right × step x pair.0 right y)

-- values with separators between them, as many as there are, folded from the right; memory for the
-- pairs may be refused
abbrev pub IsSeparatedFoldr1 : {O S T : Type 0} → (O → S → O → O → Type 0) → Meaning S T
    → Meaning O T → Meaning O T
IsSeparatedFoldr1 step separator inner =
    Gathered ⊤ (λ both. FoldsRight step both.0 both.1) (Pair inner (Repeats 0 None (Pair separator inner)))

-- the errors of the first value; or, after it and some pairs, those of the next separator and its
-- value, which together take something
abbrev pub SeparatedFoldr1Errors : {O P Q E S T : Type 0} → (S → E → Type 0) → Meaning Q T
    → Meaning P T → Errors E S T → Meaning O T → Errors E S T → Errors E S T
SeparatedFoldr1Errors cuts pairs separator separator_errors inner errors =
    PairErrors inner errors (RepeatErrors pairs (TakingErrors cuts pairs (PairErrors separator separator_errors errors)))

-- `IsSeparatedFoldr1` keeps the laws of a parser
pub IsParser-IsSeparatedFoldr1 : {O S T : Type 0} {separator : Meaning S T} {inner : Meaning O T}
    → IsParser separator → IsParser inner → (step : O → S → O → O → Type 0)
    → IsParser (IsSeparatedFoldr1 step separator inner)
IsParser-IsSeparatedFoldr1 {separator = separator} {inner = inner} q p step =
    let rest = Repeats 0 None (Pair separator inner) in
    let lawful = IsParser-Repeats 0 None (IsParser-Pair separator inner q p) in
    IsParser-Gathered ⊤ (λ both. FoldsRight step both.0 both.1) (IsParser-Pair inner rest p lawful)
