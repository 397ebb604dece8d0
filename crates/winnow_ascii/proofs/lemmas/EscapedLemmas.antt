-- Fragments that are read one after the other.
use Rattle.std.proofs.Common.{◌≡◌, ◌<◌, ◌≤◌, Bool, true, false, List, [], ◌∷◌, ◌++◌, Option, Some, refl, sym, subst, inl, inr, arith}
use Rattle.std.specs.Prelude.{◌≢◌}
use Rattle.winnow_stream.specs.Source.{Source, width, HasPositiveWidths}
use Rattle.winnow_parser.specs.Outcome.{Ahead, Outcome, Gives, Meaning}
use Rattle.winnow_ascii.specs.Escaped.{end_answer, UpToEnd, GivesInTurn, TakesInTurn}

-- what is not empty has a width, where each token has one
pub some-width : {T : Type 0} (r : Source T) → HasPositiveWidths r → r ≢ [] → 1 ≤ width r
some-width [] h n = absurd (n refl)
some-width (x ∷ xs) h n = omega (arith, h.0)

-- what has no width is empty, where each token has one
pub no-width : {T : Type 0} (r : Source T) → HasPositiveWidths r → width r ≤ 0 → r ≡ []
no-width [] h e = refl
no-width (x ∷ xs) h e = absurd (omega (arith, h.0, e))

-- the answer at the end of the input is no value
value-at-end : {O T : Type 0} (partial : Bool) (x : O) (a b : Ahead T)
    → Gives (Some x) b ≡ end_answer partial a → ⊥
value-at-end true x a b e = cc
value-at-end false x a b e = cc

-- where there is a value, the input does not end
pub value-before-end : {O T : Type 0} (inner : Meaning (Option O) T) (partial : Bool) (x : O)
    (a b : Ahead T) → UpToEnd inner partial a (Gives (Some x) b) → a.tokens ≢ []
value-before-end inner partial x a b (inl h) = h.0
value-before-end inner partial x a b (inr h) = absurd (value-at-end partial x a b h.1)

module _ {O T : Type 0} (inner : Meaning (Option O) T) (partial : Bool) where
  -- one more value after some values
  pub TakesInTurn-more : (xs : List O) (x : O) (a b c : Ahead T) → TakesInTurn inner partial xs a b
      → inner partial b (Gives (Some x) c) → width c.tokens < width b.tokens
      → TakesInTurn inner partial (xs ++ x ∷ []) a c
  TakesInTurn-more [] x a b c e h less =
      (c, (subst (λ s. inner partial s (Gives (Some x) c)) (sym e) h, subst (λ s. width c.tokens < width s.tokens) (sym e) less, refl))
  TakesInTurn-more (y ∷ ys) x a b c t h less = (t.0, (t.1.0, t.1.1, TakesInTurn-more ys x t.0 b c t.1.2 h less))

  -- the end after some values is the end of all
  pub GivesInTurn-ended : (xs : List O) (a b : Ahead T) (v : Outcome (Unit {0}) T)
      → TakesInTurn inner partial xs a b → GivesInTurn inner partial [] b v
      → GivesInTurn inner partial xs a v
  GivesInTurn-ended [] a b v e h = subst (λ s. GivesInTurn inner partial [] s v) (sym e) h
  GivesInTurn-ended (x ∷ xs) a b v t h = (t.0, (t.1.0, inl (t.1.1, GivesInTurn-ended xs t.0 b v t.1.2 h)))

  -- a value for which nothing was taken is the last
  pub GivesInTurn-last : (xs : List O) (x : O) (a b c : Ahead T) → TakesInTurn inner partial xs a b
      → inner partial b (Gives (Some x) c) → width b.tokens ≤ width c.tokens
      → GivesInTurn inner partial (xs ++ x ∷ []) a (Gives tt c)
  GivesInTurn-last [] x a b c e h still =
      (c, (subst (λ s. inner partial s (Gives (Some x) c)) (sym e) h, inr (subst (λ s. width s.tokens ≤ width c.tokens) (sym e) still, refl, refl)))
  GivesInTurn-last (y ∷ ys) x a b c t h still = (t.0, (t.1.0, inl (t.1.1, GivesInTurn-last ys x t.0 b c t.1.2 h still)))
