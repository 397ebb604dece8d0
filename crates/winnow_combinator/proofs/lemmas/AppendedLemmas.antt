-- Repetitions that append to the error with which they backtrack.
use Rattle.std.specs.Prelude.{◌≡◌, ℕ, zero, suc, ◌-◌, Bool, true, false, List, length, Option, Some, None, ◌⊎◌, ⊤}
use Rattle.std.proofs.Common.{subst, inl, inr, arith}
use Rattle.winnow_stream.specs.declared.needed.Needed.{Needed}
use Rattle.winnow_error.specs.declared.failure.Failure.{Failure}
use Rattle.winnow_error.specs.declared.failure.Failure.TheVariants.{Incomplete, Backtrack, Cut, Refused}
use Rattle.winnow_parser.specs.Outcome.{Ahead, Failed, Backtracks, Cuts, Needs, Refuses, Outcome, Gives, Fails, Meaning}
use Rattle.winnow_parser.specs.Answer.{failed}
use Rattle.winnow_parser.specs.Errors.{Errors}
use Rattle.winnow_parser.specs.Meanings.{CutsErr}
use Rattle.winnow_combinator.specs.Appended.{Appending, AppendedErrors, AppendingIf, AppendedErrorsIf, needs_some, appends_to_first}
use Rattle.winnow_combinator.specs.Counts.{IsBelow, Ascending}
use Rattle.winnow_combinator.specs.Gathering.{Gathered}
use Rattle.winnow_combinator.specs.Misuse.{GatheredErrors, IsRefusedMemory}
use Rattle.winnow_combinator.specs.Repeat.{Taking, InTurn, OneMore, Repeats, RepeatErrors}

-- ---- One parser as another

module _ {O P A T : Type 0} (refusable q : Type 0) (makes : O → A → Type 0) (gives : P → A → Type 0) (first : Meaning O T) (second : Meaning P T) (partial : Bool) (a b : Ahead T) (move : (w : Outcome A T) → Gathered refusable makes first partial a w → Gathered refusable gives second partial b w) where
  -- what is gathered of one parser at a place is gathered of another at another place, also where
  -- both append to their errors
  gathered-appending : (v : Outcome A T)
      → Gathered refusable makes (Appending q first) partial a v
      → Gathered refusable gives (Appending q second) partial b v
  gathered-appending (Gives y c) h = move (Gives y c) h
  gathered-appending (Fails (Backtracks c)) h = move (Fails (Backtracks c)) h
  gathered-appending (Fails (Cuts c)) h = move (Fails (Cuts c)) h
  gathered-appending (Fails (Needs n)) h = move (Fails (Needs n)) h
  gathered-appending (Fails Refuses) (inl r) = inl r
  gathered-appending (Fails Refuses) (inr (inl h)) = elim (move (Fails Refuses) (inr h)) [
    | inl r ↦ inl r
    | inr k ↦ inr (inl k)
  ]
  gathered-appending (Fails Refuses) (inr (inr (refused, (c, h)))) = inr (inr (refused, (c, move (Fails (Backtracks c)) h)))

  -- also where only the second appends
  gathered-first : (v : Outcome A T) → Gathered refusable makes first partial a v
      → Gathered refusable gives (Appending q second) partial b v
  gathered-first (Gives y c) h = move (Gives y c) h
  gathered-first (Fails (Backtracks c)) h = move (Fails (Backtracks c)) h
  gathered-first (Fails (Cuts c)) h = move (Fails (Cuts c)) h
  gathered-first (Fails (Needs n)) h = move (Fails (Needs n)) h
  gathered-first (Fails Refuses) h = elim (move (Fails Refuses) h) [
    | inl r ↦ inl r
    | inr k ↦ inr (inl k)
  ]

  -- the same by one flag
  pub Gathered-appending_if : (flag : Bool) (v : Outcome A T)
      → Gathered refusable makes (AppendingIf flag q first) partial a v
      → Gathered refusable gives (AppendingIf flag q second) partial b v
  Gathered-appending_if true v h = gathered-appending v h
  Gathered-appending_if false v h = move v h

  -- the same for what follows the first value of a list, and the list
  pub Gathered-later : (least : ℕ) (greatest : Option ℕ) (v : Outcome A T)
      → Gathered refusable makes (AppendingIf (needs_some (least - 1)) q first) partial a v
      → Gathered refusable gives (AppendingIf (appends_to_first least greatest) q second)
      partial b v
  Gathered-later zero greatest v h = move v h
  Gathered-later (suc zero) None v h = move v h
  Gathered-later (suc zero) (Some g) v h = gathered-first v h
  Gathered-later (suc (suc n)) greatest v h =
      let one_less : suc (suc n) - 1 ≡ suc n = omega arith in
      gathered-appending v (subst (λ k. Gathered refusable makes (AppendingIf (needs_some k) q first) partial a v) one_less h)

-- a failure of one parser at a place is one of another there, also where both append to their
-- errors
pub AppendingIf-fails : {O P T : Type 0} (flag : Bool) (q : Type 0) (first : Meaning O T)
    (second : Meaning P T) (partial : Bool) (a : Ahead T) (f : Failed T)
    → ((k : Failed T) → first partial a (Fails k) → second partial a (Fails k))
    → AppendingIf flag q first partial a (Fails f)
    → AppendingIf flag q second partial a (Fails f)
AppendingIf-fails false q first second partial a f move h = move f h
AppendingIf-fails true q first second partial a (Backtracks c) move h = move (Backtracks c) h
AppendingIf-fails true q first second partial a (Cuts c) move h = move (Cuts c) h
AppendingIf-fails true q first second partial a (Needs n) move h = move (Needs n) h
AppendingIf-fails true q first second partial a Refuses move (inl h) = inl (move Refuses h)
AppendingIf-fails true q first second partial a Refuses move (inr (refused, (c, h))) = inr (refused, (c, move (Backtracks c) h))

-- a value is given also by a parser that may append
pub AppendingIf-gives : {O T : Type 0} (flag : Bool) (q : Type 0) (inner : Meaning O T)
    (partial : Bool) (a b : Ahead T) (x : O) → inner partial a (Gives x b)
    → AppendingIf flag q inner partial a (Gives x b)
AppendingIf-gives true q inner partial a b x h = h
AppendingIf-gives false q inner partial a b x h = h

-- the value of one that may append is given
pub AppendingIf-gave : {O T : Type 0} (flag : Bool) (q : Type 0) (inner : Meaning O T)
    (partial : Bool) (a b : Ahead T) (x : O) → AppendingIf flag q inner partial a (Gives x b)
    → inner partial a (Gives x b)
AppendingIf-gave true q inner partial a b x h = h
AppendingIf-gave false q inner partial a b x h = h

-- ---- Failures of a repetition

module _ {O T : Type 0} (q : Type 0) (greatest : Option ℕ) (inner : Meaning O T) (partial : Bool) (xs : List O) (a b : Ahead T) (turns : InTurn (Taking inner) partial xs a b) (below : IsBelow greatest (length xs)) where
  -- a failure after some values is one of the repetition
  repeated-appending : (least : ℕ) (f : Failed T)
      → Appending q (OneMore least (length xs) (Taking inner)) partial b (Fails f)
      → Appending q (Repeats least greatest inner) partial a (Fails f)
  repeated-appending least (Backtracks c) h = (xs, (b, (turns, below, h)))
  repeated-appending least (Cuts c) h = (xs, (b, (turns, below, h)))
  repeated-appending least (Needs n) h = (xs, (b, (turns, below, h)))
  repeated-appending least Refuses (inl h) = inl (xs, (b, (turns, below, h)))
  repeated-appending least Refuses (inr (refused, (c, h))) = inr (refused, (c, (xs, (b, (turns, below, h)))))

  -- where no value is needed, the repetition does not append
  repeated-plain : (f : Failed T)
      → Appending q (OneMore 0 (length xs) (Taking inner)) partial b (Fails f)
      → Repeats 0 greatest inner partial a (Fails f)
  repeated-plain (Backtracks c) h = (xs, (b, (turns, below, h)))
  repeated-plain (Cuts c) h = (xs, (b, (turns, below, h)))
  repeated-plain (Needs n) h = (xs, (b, (turns, below, h)))
  repeated-plain Refuses (inl h) = (xs, (b, (turns, below, h)))
  repeated-plain Refuses (inr h) = absurd (omega (arith, h.1.1.0))

  -- a failure after some values is one of the repetition, which appends if values are needed
  pub Repeats-fails : (least : ℕ) (f : Failed T)
      → Appending q (OneMore least (length xs) (Taking inner)) partial b (Fails f)
      → AppendingIf (needs_some least) q (Repeats least greatest inner) partial a (Fails f)
  Repeats-fails zero f h = repeated-plain f h
  Repeats-fails (suc n) f h = repeated-appending (suc n) f h

  module _ {E S C : Type 0} (stood : C → Ahead T) (gives : E → S → C → E → Type 0) (errors : Errors E S T) (s : S) (d : Ahead T) where
    -- an error after some values is one of the repetition
    pub RepeatErrors-fails : (least : ℕ) (failure : Failure E Needed)
        → Appending q (OneMore least (length xs) (Taking inner)) partial b (Fails (failed failure d))
        → AppendedErrors stood gives errors partial b s failure
        → GatheredErrors (RepeatErrors inner (AppendedErrorsIf (needs_some least) stood gives errors))
        partial a s failure
    RepeatErrors-fails zero (Backtrack x) h e = absurd (omega (arith, h.0))
    RepeatErrors-fails zero (Cut x) h e = inl (xs, (b, (turns, e)))
    RepeatErrors-fails zero (Incomplete n) h e = inl (xs, (b, (turns, e)))
    RepeatErrors-fails zero (Refused x) h e = inr tt
    RepeatErrors-fails (suc n) failure h e = inl (xs, (b, (turns, e)))

-- ---- Repetitions for whose values memory may be refused

-- where memory may be refused for what is gathered, it may be refused also while an error is
-- appended to
pub Gathered-plain : {O A T : Type 0} (flag : Bool) (q : Type 0) (makes : O → A → Type 0)
    (inner : Meaning O T) (partial : Bool) (a : Ahead T) (v : Outcome A T)
    → Gathered ⊤ makes (AppendingIf flag q inner) partial a v
    → Gathered ⊤ makes inner partial a v
Gathered-plain false q makes inner partial a v h = h
Gathered-plain true q makes inner partial a (Gives y b) h = h
Gathered-plain true q makes inner partial a (Fails (Backtracks b)) h = h
Gathered-plain true q makes inner partial a (Fails (Cuts b)) h = h
Gathered-plain true q makes inner partial a (Fails (Needs n)) h = h
Gathered-plain true q makes inner partial a (Fails Refuses) h = inl tt

module _ {O T : Type 0} (first second : Meaning O T) (partial : Bool) (a : Ahead T) (move : (w : Outcome O T) → first partial a w → second partial a w) where
  -- an answer of one parser is one of another, also where some number of values must be allowed
  pub Ascending-moves : (least : ℕ) (greatest : Option ℕ) (v : Outcome O T)
      → Ascending least greatest first partial a v → Ascending least greatest second partial a v
  Ascending-moves least None v h = move v h
  Ascending-moves least (Some greatest) v (inl h) = inl (h.0, move v h.1)
  Ascending-moves least (Some greatest) v (inr h) = inr h

  -- also where both cut
  pub CutsErr-moves : (v : Outcome O T) → CutsErr first partial a v → CutsErr second partial a v
  CutsErr-moves (Gives x b) h = move (Gives x b) h
  CutsErr-moves (Fails (Backtracks b)) h = absurd h
  CutsErr-moves (Fails (Cuts b)) (inl h) = inl (move (Fails (Backtracks b)) h)
  CutsErr-moves (Fails (Cuts b)) (inr h) = inr (move (Fails (Cuts b)) h)
  CutsErr-moves (Fails (Needs n)) h = move (Fails (Needs n)) h
  CutsErr-moves (Fails Refuses) h = move (Fails Refuses) h
