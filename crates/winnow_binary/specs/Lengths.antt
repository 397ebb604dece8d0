-- A count, and then as much as it says.
use Rattle.std.specs.Prelude.{◌≡◌, ℕ, Bool, Option, Some, List}
use Rattle.std.proofs.Common.{ap, sym, ◌∙◌}
use Rattle.winnow_stream.specs.Source.{Source}
use Rattle.winnow_stream.specs.Front.{front}
use Rattle.winnow_stream.specs.Longer.{SlicesStay, front-longer}
use Rattle.winnow_parser.specs.Outcome.{Ahead, Meaning}
use Rattle.winnow_parser.specs.Errors.{Errors}
use Rattle.winnow_parser.specs.Laws.{IsParser}
use Rattle.winnow_parser.specs.FlatMap.{FlatMaps, IsParser-FlatMaps}
use Rattle.winnow_token.specs.Take.{Takes, IsParser-Takes}
use Rattle.winnow_combinator.specs.Appended.{AppendingIf, AppendedErrorsIf, needs_some, IsParser-AppendingIf}
use Rattle.winnow_combinator.specs.Misuse.{TakingErrors, GatheredErrors}
use Rattle.winnow_combinator.specs.Repeat.{Repeats, RepeatErrors, IsParser-Repeats}
use Rattle.winnow_combinator.specs.Gathering.{Gathered, IsParser-Gathered}

-- the value of the first parser is this number
abbrev pub IsNumber : {L : Type 0} → (L → ℕ) → L → ℕ → Type 0
IsNumber number x n = n ≡ number x

-- a count, and then the slice of that number of tokens
abbrev pub LengthTakes : {L S T : Type 0} → (L → ℕ) → Bool → (S → Source T → ℕ → Type 0)
    → Meaning L T → Meaning S T
LengthTakes number counts_shortage is_slice length = FlatMaps (IsNumber number) (Takes counts_shortage is_slice) length

-- the stream stands at this location, and the front of this width remains of it
abbrev pub IsFrontAt : {S T : Type 0} → (S → Ahead T) → Option ℕ → S → Source T → ℕ → Type 0
IsFrontAt stands location s tokens n = stands s ≡ record { location = location; tokens = front tokens n }

-- a stream of the first n tokens alone, which stands where they do
abbrev pub FrontOf : {S T : Type 0} → (S → Ahead T) → Bool → ℕ → Meaning S T
FrontOf stands counts_shortage n partial a v = Takes counts_shortage (IsFrontAt stands a.location) n partial a v

-- a count, and then a stream of that number of tokens alone
abbrev pub CountedFront : {L S T : Type 0} → (L → ℕ) → (S → Ahead T) → Bool → Meaning L T
    → Meaning S T
CountedFront number stands counts_shortage length = FlatMaps (IsNumber number) (FrontOf stands counts_shortage) length

-- n values of the parser, one after the other, and what is made of them; memory may be refused
-- while the error of a missing value is appended to
abbrev pub Times : {O A T : Type 0} → Type 0 → Type 0 → (List O → A → Type 0) → Meaning O T → ℕ
    → Meaning A T
Times refusable appends makes inner n = Gathered refusable makes (AppendingIf (needs_some n) appends (Repeats n (Some n) inner))

-- a count, and then that number of values
abbrev pub LengthRepeats : {L O A T : Type 0} → (L → ℕ) → Type 0 → Type 0
    → (List O → A → Type 0) → Meaning L T → Meaning O T → Meaning A T
LengthRepeats number refusable appends makes length inner = FlatMaps (IsNumber number) (Times refusable appends makes inner) length

-- the errors of n values: that of a missing value is appended to
abbrev pub TimesErrors : {O E S C T : Type 0} → (C → Ahead T) → (E → S → C → E → Type 0)
    → (S → E → Type 0) → Meaning O T → Errors E S T → ℕ → Errors E S T
TimesErrors stood appends cuts inner errors n = GatheredErrors (RepeatErrors inner
    (AppendedErrorsIf (needs_some n) stood appends (TakingErrors cuts inner errors)))

-- ---- The laws

-- `LengthTakes` keeps the laws of a parser
pub IsParser-LengthTakes : {L S T : Type 0} (number : L → ℕ) (counts_shortage : Bool)
    (is_slice : S → Source T → ℕ → Type 0) → SlicesStay is_slice → (length : Meaning L T)
    → IsParser length → IsParser (LengthTakes number counts_shortage is_slice length)
IsParser-LengthTakes number counts_shortage is_slice stay length p =
    IsParser-FlatMaps (IsNumber number) (Takes counts_shortage is_slice) length (IsParser-Takes counts_shortage is_slice stay) p

module _ {S T : Type 0} (stands : S → Ahead T) (counts_shortage : Bool) where
  -- a stream of a front is one of that front of each longer list
  front_at-stay : (location : Option ℕ) → SlicesStay (IsFrontAt stands location)
  front_at-stay location s tokens more n offset e =
      e ∙ ap (λ t. record { location = location; tokens = t }) (sym (front-longer tokens more n offset))

  -- `Takes` keeps the laws of a parser where it gives a stream of the front
  front_of-counted : (location : Option ℕ) (n : ℕ)
      → IsParser (Takes counts_shortage (IsFrontAt stands location) n)
  front_of-counted location n = IsParser-Takes counts_shortage (IsFrontAt stands location) (front_at-stay location) n

  -- `FrontOf` keeps the laws of a parser
  pub IsParser-FrontOf : (n : ℕ) → IsParser (FrontOf stands counts_shortage n)
  IsParser-FrontOf n = record {
    stable = λ more partial a v s h. (front_of-counted a.location n).stable more partial a v s h;
    final = λ a missing h. (front_of-counted a.location n).final a missing h;
    onward = λ partial a v h. (front_of-counted a.location n).onward partial a v h;
  }

  -- `CountedFront` keeps the laws of a parser
  pub IsParser-CountedFront : {L : Type 0} (number : L → ℕ) (length : Meaning L T)
      → IsParser length → IsParser (CountedFront number stands counts_shortage length)
  IsParser-CountedFront number length p =
      IsParser-FlatMaps (IsNumber number) (FrontOf stands counts_shortage) length IsParser-FrontOf p

-- `LengthRepeats` keeps the laws of a parser
pub IsParser-LengthRepeats : {L O A T : Type 0} (number : L → ℕ) (refusable appends : Type 0)
    (makes : List O → A → Type 0) (length : Meaning L T) (inner : Meaning O T) → IsParser length
    → IsParser inner → IsParser (LengthRepeats number refusable appends makes length inner)
IsParser-LengthRepeats number refusable appends makes length inner p q =
    IsParser-FlatMaps (IsNumber number) (Times refusable appends makes inner) length
    (λ n. IsParser-Gathered refusable makes (IsParser-AppendingIf (needs_some n) appends (IsParser-Repeats n (Some n) q))) p
