-- What comes after a count: asked as a repetition, and that it has one answer.
use Rattle.std.specs.Prelude.{◌≡◌, ℕ, Bool, List, Option, Some}
use Rattle.std.proofs.Common.{ap, sym, ◌∙◌, subst, inl, inr, arith, true≢false}
use Rattle.winnow_stream.specs.Source.{Source}
use Rattle.winnow_stream.specs.declared.needed.Needed.{Needed}
use Rattle.winnow_error.specs.declared.failure.Failure.{Failure}
use Rattle.winnow_parser.specs.Outcome.{Ahead, Backtracks, Cuts, Needs, Refuses, Outcome, Gives, Fails, Meaning}
use Rattle.winnow_parser.specs.Errors.{Errors}
use Rattle.winnow_parser.specs.Determined.{IsDetermined, Shows, Respects, SlicesRespect}
use Rattle.winnow_parser.proofs.lemmas.MadeLemmas.{determined-flat_map}
use Rattle.winnow_token.specs.Take.{Takes}
use Rattle.winnow_token.proofs.lemmas.ToldLemmas.{determined-take}
use Rattle.winnow_combinator.specs.Appended.{AppendingIf, needs_some}
use Rattle.winnow_combinator.specs.Counts.{Ascending}
use Rattle.winnow_combinator.specs.DeterminedLists.{AreSameEach}
use Rattle.winnow_combinator.specs.Gathering.{Gathered}
use Rattle.winnow_combinator.specs.Misuse.{AscendingErrors}
use Rattle.winnow_combinator.specs.Repeat.{Repeats}
use Rattle.winnow_combinator.proofs.lemmas.AgreeingLemmas.{determined-repeat}
use Rattle.winnow_combinator.proofs.lemmas.CombinedLemmas.{determined-gathered, determined-appending_if}
use Rattle.winnow_binary.specs.Lengths.{IsNumber, LengthTakes, FrontOf, CountedFront, Times, TimesErrors, LengthRepeats}

module _ {B O A T : Type 0} (refusable appends : Type 0) (makes : List O → A → Type 0) (means : B → Meaning O T) where
  -- what is asked for of a parser with these counts
  abbrev Asked : Meaning O T → ℕ → Option ℕ → Meaning A T
  Asked inner least greatest =
      Ascending least greatest (Gathered refusable makes (AppendingIf (needs_some least) appends (Repeats least greatest inner)))

  -- n values are asked for where the counts, from the least to the greatest, are n alone
  times-alone : (inner : Meaning O T) (n : ℕ) (partial : Bool) (a : Ahead T) (v : Outcome A T)
      → Asked inner n (Some n) partial a v → Times refusable appends makes inner n partial a v
  times-alone inner n partial a v (inl h) = h.1
  times-alone inner n partial a v (inr h) = absurd (omega (arith, h.0))

  -- the same for counts and a parser that are known by equations
  pub times-asked : (p q : B) (n least : ℕ) (greatest : Option ℕ) → p ≡ q → least ≡ n
      → greatest ≡ Some n → (partial : Bool) (a : Ahead T) (v : Outcome A T)
      → Asked (means p) least greatest partial a v
      → Times refusable appends makes (means q) n partial a v
  times-asked p q n least greatest e f h partial a v asked =
      let one = subst (λ b. Asked (means b) least greatest partial a v) e asked in
      let two = subst (λ l. Asked (means q) l greatest partial a v) f one in
      times-alone (means q) n partial a v (subst (λ g. Asked (means q) n g partial a v) h two)

module _ {B O E S C T : Type 0} (stood : C → Ahead T) (appends : E → S → C → E → Type 0) (cuts : S → E → Type 0) (means : B → Meaning O T) (errors : B → Errors E S T) (partial : Bool) (a : Ahead T) (s : S) (failure : Failure E Needed) where
  -- the errors of this many values of a parser
  abbrev Fail : B → ℕ → Type 0
  Fail p n = TimesErrors stood appends cuts (means p) (errors p) n partial a s failure

  -- counts that are n alone allow n, so the errors are those of n values
  errors-alone : (p : B) (n : ℕ)
      → AscendingErrors n (Some n) cuts (TimesErrors stood appends cuts (means p) (errors p) n) partial a s failure
      → Fail p n
  errors-alone p n (inl e) = e
  errors-alone p n (inr e) = absurd (e.0 (omega arith))

  -- the same for counts and a parser that are known by equations
  pub times-errors : (p q : B) (n least : ℕ) (greatest : Option ℕ) → p ≡ q → least ≡ n
      → greatest ≡ Some n
      → AscendingErrors least greatest cuts (TimesErrors stood appends cuts (means p) (errors p) least) partial a s failure
      → Fail q n
  times-errors p q n least greatest e f h asked =
      let one = subst (λ l. AscendingErrors l greatest cuts (TimesErrors stood appends cuts (means p) (errors p) l) partial a s failure) f asked in
      let two = subst (λ g. AscendingErrors n g cuts (TimesErrors stood appends cuts (means p) (errors p) n) partial a s failure) h one in
      subst (λ q. Fail q n) e (errors-alone p n two)

-- values that show the same number are the same number
one-number : {L : Type 0} (number : L → ℕ) (x y : L) (m n : ℕ) → Shows number x y
    → IsNumber number x m → IsNumber number y n → m ≡ n
one-number number x y m n e h k = h ∙ e ∙ sym k

-- `LengthTakes` has one answer where its count has one, and slices of one front are the same
pub determined-length_take : {L S T : Type 0} (number : L → ℕ) (counts_shortage : Bool)
    (is_slice : S → Source T → ℕ → Type 0) (alike : S → S → Type 0) → SlicesRespect is_slice alike
    → (length : Meaning L T) → IsDetermined (Shows number) length
    → IsDetermined alike (LengthTakes number counts_shortage is_slice length)
determined-length_take number counts_shortage is_slice alike fronts length d =
    determined-flat_map (IsNumber number) (Takes counts_shortage is_slice) length (Shows number) alike (one-number number)
    (λ n. determined-take is_slice alike fronts counts_shortage n) d

-- a place with this location and these tokens
pub same-place : {T : Type 0} (a : Ahead T) (l : Option ℕ) (r : Source T) → a.location ≡ l
    → a.tokens ≡ r → a ≡ record { location = l; tokens = r }
same-place a l r e f = ap (λ m. record { location = m; tokens = a.tokens }) e ∙ ap (λ t. record { location = l; tokens = t }) f

module _ {S T : Type 0} (stands : S → Ahead T) (counts_shortage : Bool) where
  -- `FrontOf` has one answer: streams that stand at one place show the same
  determined-front_of : (n : ℕ) → IsDetermined (Shows stands) (FrontOf stands counts_shortage n)
  determined-front_of n partial a (Gives s b) (Gives t c) p q h k = (h.2 ∙ sym k.2, h.3 ∙ sym k.3)
  determined-front_of n partial a (Gives s b) (Fails (Backtracks c)) p q h k = absurd (omega (arith, h.0, k.0))
  determined-front_of n partial a (Gives s b) (Fails (Cuts c)) p q h k = absurd k
  determined-front_of n partial a (Gives s b) (Fails (Needs m)) p q h k = absurd (omega (arith, h.0, k.0))
  determined-front_of n partial a (Gives s b) (Fails Refuses) p q h k = absurd k
  determined-front_of n partial a (Fails (Backtracks b)) (Gives t c) p q h k = absurd (omega (arith, h.0, k.0))
  determined-front_of n partial a (Fails (Backtracks b)) (Fails (Backtracks c)) p q h k = ap Backtracks (h.2 ∙ sym k.2)
  determined-front_of n partial a (Fails (Backtracks b)) (Fails (Cuts c)) p q h k = absurd k
  determined-front_of n partial a (Fails (Backtracks b)) (Fails (Needs m)) p q h k = absurd (true≢false (sym k.1 ∙ h.1))
  determined-front_of n partial a (Fails (Backtracks b)) (Fails Refuses) p q h k = absurd k
  determined-front_of n partial a (Fails (Cuts b)) w p q h k = absurd h
  determined-front_of n partial a (Fails (Needs m)) (Gives t c) p q h k = absurd (omega (arith, h.0, k.0))
  determined-front_of n partial a (Fails (Needs m)) (Fails (Backtracks c)) p q h k = absurd (true≢false (sym h.1 ∙ k.1))
  determined-front_of n partial a (Fails (Needs m)) (Fails (Cuts c)) p q h k = absurd k
  determined-front_of n partial a (Fails (Needs m)) (Fails (Needs l)) p q h k = ap Needs (h.2 ∙ sym k.2)
  determined-front_of n partial a (Fails (Needs m)) (Fails Refuses) p q h k = absurd k
  determined-front_of n partial a (Fails Refuses) w p q h k = absurd h

  -- `CountedFront` has one answer where its count has one
  pub determined-counted_front : {L : Type 0} (number : L → ℕ) (length : Meaning L T)
      → IsDetermined (Shows number) length
      → IsDetermined (Shows stands) (CountedFront number stands counts_shortage length)
  determined-counted_front number length d =
      determined-flat_map (IsNumber number) (FrontOf stands counts_shortage) length (Shows number) (Shows stands) (one-number number) determined-front_of d

-- `LengthRepeats` has one answer where its parts have one
pub determined-length_repeat : {L O A T : Type 0} (number : L → ℕ) (refusable appends : Type 0)
    (makes : List O → A → Type 0) (same : O → O → Type 0) (alike : A → A → Type 0)
    → Respects (AreSameEach same) alike makes → (length : Meaning L T) (inner : Meaning O T)
    → IsDetermined (Shows number) length → IsDetermined same inner
    → IsDetermined alike (LengthRepeats number refusable appends makes length inner)
determined-length_repeat number refusable appends makes same alike respects length inner d e =
    determined-flat_map (IsNumber number) (Times refusable appends makes inner) length (Shows number) alike (one-number number)
    (λ n. determined-gathered (AreSameEach same) alike refusable makes respects (AppendingIf (needs_some n) appends (Repeats n (Some n) inner))
    (determined-appending_if appends (AreSameEach same) (Repeats n (Some n) inner) (determined-repeat same n (Some n) inner e) (needs_some n))) d
