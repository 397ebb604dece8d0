-- Folding the values of a repeated parser by a step that may make nothing of a value.
use Rattle.std.specs.Prelude.{ℕ, Option, Some, None, Result, Ok, Err}
use Rattle.winnow_parser.specs.Outcome.{Meaning}
use Rattle.winnow_parser.specs.Errors.{Errors}
use Rattle.winnow_parser.specs.Laws.{IsParser}
use Rattle.winnow_combinator.specs.TryFold.{TriesFold, TryFoldErrors, IsParser-TriesFold}

-- a function that may make nothing takes the value, or refuses it
abbrev pub TakesIfSome : {A C : Type 0} → (Option A → Type 0) → Result A C → Type 0
TakesIfSome gives (Ok y) = gives (Some y)
TakesIfSome gives (Err cause) = gives None

-- the result that a step makes of the values of the parser, as by `TriesFold`, where the step makes
-- nothing of a value that it refuses
abbrev pub VerifiesFold : {O A T : Type 0} → ℕ → Option ℕ → Type 0 → (A → Type 0)
    → (A → O → Option A → Type 0) → Meaning O T → Meaning A T
VerifiesFold least greatest refusable starts step =
    TriesFold {C = Unit {0}} least greatest refusable starts (λ whole x. TakesIfSome (step whole x))

-- the errors of a repetition; or, after some of its values, an error that is made of the stream if
-- the step makes nothing of the next one
abbrev pub VerifyFoldErrors : {O A E S T : Type 0} → (A → Type 0) → (A → O → Option A → Type 0)
    → (S → E → Type 0) → Meaning O T → Errors E S T → Errors E S T
VerifyFoldErrors starts step tells =
    TryFoldErrors {C = Unit {0}} starts (λ whole x. TakesIfSome (step whole x)) (λ cause. tells)

-- `VerifiesFold` keeps the laws of a parser
pub IsParser-VerifiesFold : {O A T : Type 0} (least : ℕ) (greatest : Option ℕ) (refusable : Type 0)
    (starts : A → Type 0) (step : A → O → Option A → Type 0) {inner : Meaning O T}
    → IsParser inner → IsParser (VerifiesFold least greatest refusable starts step inner)
IsParser-VerifiesFold least greatest refusable starts step p =
    IsParser-TriesFold {C = Unit {0}} least greatest refusable starts (λ whole x. TakesIfSome (step whole x)) p
