-- Steps and ends of a repetition up to an end.
use Rattle.std.specs.Prelude.{◌≡◌, ℕ, ◌≤◌, Bool, List, [], ◌∷◌, ◌++◌, length, Option, Some, None}
use Rattle.std.proofs.Common.{refl, sym, subst, inl, inr, arith}
use Rattle.winnow_stream.specs.declared.needed.Needed.{Needed}
use Rattle.winnow_error.specs.declared.failure.Failure.{Failure}
use Rattle.winnow_parser.specs.Outcome.{Ahead, Failed, Gives, Fails, Meaning}
use Rattle.winnow_parser.specs.Errors.{Errors}
use Rattle.winnow_combinator.specs.Misuse.{GatheredErrors}
use Rattle.winnow_combinator.specs.Repeat.{Taking}
use Rattle.winnow_combinator.specs.RepeatTill.{EndAfter, InTurnTill, InTurnTill-more, RepeatsTill, RepeatTillErrors}

module _ {O P T : Type 0} (least : ℕ) (greatest : Option ℕ) (inner : Meaning O T) (terminator : Meaning P T) (partial : Bool) (n : ℕ) (xs : List O) (a b : Ahead T) (counted : n ≡ length xs) (turns : InTurnTill least greatest 0 terminator (Taking inner) partial xs a b) where
  -- the terminator gives no end after these values
  no_end-at : (c : Ahead T) → EndAfter least greatest n terminator partial b (Gives None c)
      → EndAfter least greatest (length xs) terminator partial b (Gives None b)
  no_end-at c none = subst (λ m. EndAfter least greatest m terminator partial b (Gives None b)) counted (refl, none.1)

  -- one more value, where the terminator gives no end
  pub RepeatsTill-more : (x : O) (c d : Ahead T)
      → EndAfter least greatest n terminator partial b (Gives None c)
      → Taking inner partial c (Gives x d)
      → InTurnTill least greatest 0 terminator (Taking inner) partial (xs ++ x ∷ []) a d
  RepeatsTill-more x c d none means =
      InTurnTill-more least greatest terminator (Taking inner) partial 0 (length xs) xs x a b d (omega arith) turns (no_end-at c none) (subst (λ s. Taking inner partial s (Gives x d)) (sym none.0) means)

  -- the terminator's value ends the repetition
  pub RepeatsTill-ended : (y : P) (c : Ahead T)
      → EndAfter least greatest n terminator partial b (Gives (Some y) c)
      → RepeatsTill least greatest inner terminator partial a (Gives (xs, y) c)
  RepeatsTill-ended y c means = (b, (turns, subst (λ m. EndAfter least greatest m terminator partial b (Gives (Some y) c)) counted means))

  -- a failure of the terminator is one of the whole
  pub RepeatsTill-no_end : (f : Failed T)
      → EndAfter least greatest n terminator partial b (Fails f)
      → RepeatsTill least greatest inner terminator partial a (Fails f)
  RepeatsTill-no_end f means = (xs, (b, (turns, inl (subst (λ m. EndAfter least greatest m terminator partial b (Fails f)) counted means))))

  -- a failure of the parser, where there is no end, is one of the whole
  pub RepeatsTill-no_more : (f : Failed T) (c : Ahead T)
      → EndAfter least greatest n terminator partial b (Gives None c)
      → Taking inner partial c (Fails f)
      → RepeatsTill least greatest inner terminator partial a (Fails f)
  RepeatsTill-no_more f c none means = (xs, (b, (turns, inr (no_end-at c none, subst (λ s. Taking inner partial s (Fails f)) (sym none.0) means))))

  module _ {E S : Type 0} (errors terminator_errors : Errors E S T) (s : S) (failure : Failure E Needed) where
    -- an error of the terminator is one of the whole
    pub RepeatTillErrors-end : least ≤ n → terminator_errors partial b s failure
        → GatheredErrors (RepeatTillErrors least greatest inner errors terminator terminator_errors)
        partial a s failure
    RepeatTillErrors-end enough e = inl (xs, (b, (turns, inl (subst (λ m. least ≤ m) counted enough, e))))

    -- an error of the parser, where there is no end, is one of the whole
    pub RepeatTillErrors-more : (c : Ahead T)
        → EndAfter least greatest n terminator partial b (Gives None c)
        → errors partial c s failure
        → GatheredErrors (RepeatTillErrors least greatest inner errors terminator terminator_errors)
        partial a s failure
    RepeatTillErrors-more c none e = inl (xs, (b, (turns, inr (no_end-at c none, subst (λ p. errors partial p s failure) (sym none.0) e))))
