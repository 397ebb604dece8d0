-- What combinators spell has other spellings, too: for the answers of a part.
use Rattle.std.specs.Prelude.{◌≡◌, ℕ, Bool, List, [], ◌∷◌, ◌++◌, Option}
use Rattle.std.specs.List.{FoldsTo}
use Rattle.std.proofs.Common.{ap, sym, ◌∙◌, subst, append_assoc}
use Rattle.std.proofs.lemmas.List.{append-nil}
use Rattle.winnow_combinator.specs.Gathering.{Folds}
use Rattle.winnow_grammar.specs.Spelling.{Spelling, IsWithin}
use Rattle.winnow_grammar.specs.Spellings.{OneToken, Then, InRow, Counted, Chain}

-- tokens in a row are their values
pub InRow-tokens : {T : Type 0} (holds : T → Bool) (xs ts : List T) → InRow (OneToken holds) xs ts
    → ts ≡ xs
InRow-tokens holds [] ts e = e
InRow-tokens holds (x ∷ xs) ts (one, (others, (split, (is, held), row))) =
    split ∙ ap (λ u. u ++ others) is ∙ ap (λ r. x ∷ r) (InRow-tokens holds xs others row)

-- a step keeps a spelling: it makes of a value with that spelling, and of one that is read after
-- it, a value whose tokens are those of both
abbrev pub Keeps : {A O T : Type 0} → (A → O → A → Type 0) → Spelling O T → Spelling A T → Type 0
Keeps {A} {O} {T} step p whole = (x : A) (y : O) (z : A) (ts us : List T) → whole x ts → p y us
    → step x y z → whole z (ts ++ us)

module _ {A O T : Type 0} (step : A → O → A → Type 0) (p : Spelling O T) (whole : Spelling A T) (on : Keeps step p whole) where
  -- a fold by steps that keep a property keeps it
  pub FoldsTo-within : (xs : List O) (x z : A) (ts us : List T) → whole x ts → InRow p xs us
      → FoldsTo step x xs z → whole z (ts ++ us)
  FoldsTo-within [] x z ts us w e f =
      subst (λ y. whole y (ts ++ us)) f (subst (λ r. whole x r) (sym (ap (λ u. ts ++ u) e ∙ append-nil ts)) w)
  FoldsTo-within (y ∷ ys) x z ts us w (one, (others, (split, h, row))) (j, s, f) =
      subst (λ r. whole z r) (append_assoc ts one others ∙ ap (λ u. ts ++ u) (sym split))
      (FoldsTo-within ys j z (ts ++ one) others (on x y j ts one w h s) row f)

  -- values in a row that are folded, from a start that no token spells
  pub Folds-within : (starts : A → Type 0) (least : ℕ) (greatest : Option ℕ)
      → ((x : A) → starts x → whole x [])
      → IsWithin (Counted least greatest (Folds starts step) p) whole
  Folds-within starts least greatest first z ts (xs, ((x, (start, folds)), (counts, row))) =
      FoldsTo-within xs x z [] ts (first x start) row folds

-- values that are folded from the left, where the first is spelled so
pub Chain-within : {O S T : Type 0} (step : O → S × O → O → Type 0) (s : Spelling S T)
    (p whole : Spelling O T) → IsWithin p whole → Keeps step (Then s p) whole
    → IsWithin (Chain step s p) whole
Chain-within step s p whole first on z ts (both, (folds, (one, (other, (split, h, (counts, row)))))) =
    subst (λ r. whole z r) (sym split) (FoldsTo-within step (Then s p) whole on both.1 both.0 z one other (first both.0 one h) row folds)
