-- The answer of a union of sets that each have one answer, and of the complement of one.
use Rattle.std.specs.Prelude.{Bool, true, false, not, ◌||◌}
use Rattle.std.proofs.Common.{ap, ap₂, sym, inl, inr}
use Rattle.std.proofs.lemmas.Bool.{or_left, or_right}
use Rattle.winnow_sets.specs.Sets.{◌∪◌, AnswersOnly}

module _ {a b : Bool → Type 0} {p q : Bool} where
  -- the union's only answer is the disjunction of the two
  pub AnswersOnly-union : AnswersOnly a p → AnswersOnly b q → AnswersOnly (a ∪ b) (p || q)
  AnswersOnly-union f g true (inl h) = sym (or_left p q (sym (f true h)))
  AnswersOnly-union f g true (inr h) = sym (or_right p q (sym (g true h)))
  AnswersOnly-union f g false h = ap₂ (λ x y. x || y) (f false h.0) (g false h.1)

-- the complement's only answer is the other one
pub AnswersOnly-not : {a : Bool → Type 0} {p : Bool} → AnswersOnly a p
    → AnswersOnly (λ b. a (not b)) (not p)
AnswersOnly-not f true h = ap not (f false h)
AnswersOnly-not f false h = ap not (f true h)
