-- Steps in a row.
use Rattle.std.specs.Prelude.{◌≡◌, List, [], ◌∷◌, ◌++◌}
use Rattle.std.proofs.Common.{refl, sym, subst}

-- from the first to the last there is a step to each of these, one after the other
abbrev pub Chain : {A : Type 0} → (A → A → Type 0) → List A → A → A → Type 0
Chain step [] a b = a ≡ b
Chain step (c ∷ cs) a b = step a c × Chain step cs c b

-- one more step
pub Chain-more : {A : Type 0} (step : A → A → Type 0) (cs : List A) (a b c : A) → Chain step cs a b
    → step b c → Chain step (cs ++ c ∷ []) a c
Chain-more step [] a b c e one = (subst (λ x. step x c) (sym e) one, refl)
Chain-more step (d ∷ ds) a b c h one = (h.0, Chain-more step ds d b c h.1 one)
