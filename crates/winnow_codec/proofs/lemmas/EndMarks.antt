-- Bytes that hold a mark at their end alone.
use Rattle.std.specs.Prelude.{◌⊎◌}
use Rattle.std.proofs.Common.{◌≡◌, ℕ, ◌<◌, false, List, [], ◌∷◌, ◌++◌, length, take, drop, inl, inr, ap, sym, ◌∙◌, refl, arith, append_assoc}
use Rattle.std.proofs.lemmas.List.{append-nil, length-drop, same_from_push, take-append-drop}
use Rattle.winnow_codec.specs.Formats.{SpellsNone}
use Rattle.winnow_codec.specs.EndMarks.{EndsOnly, SpellsMarked}

-- a list is empty, or has a last member
last-of : (xs : List ℕ) → (xs ≡ []) ⊎ ((init : List ℕ) × (last : ℕ) × (xs ≡ init ++ last ∷ []))
last-of [] = inl refl
last-of (x ∷ xs) = elim (last-of xs) [
  | inl none ↦ inr ([], x, ap (λ l. x ∷ l) none)
  | inr (init, last, e) ↦ inr (x ∷ init, last, ap (λ l. x ∷ l) e)
]

module _ (mark : List ℕ) where
  -- an empty part holds no mark before its end
  pub ends-none : EndsOnly mark []
  ends-none [] [] e = refl
  ends-none [] (y ∷ ys) e = absurd (nil-more mark y ys e)
    where
      nil-more : (m : List ℕ) (y : ℕ) (ys : List ℕ) → [] ≡ m ++ y ∷ ys → ⊥
      nil-more [] y ys e = cc
      nil-more (x ∷ xs) y ys e = cc
  ends-none (x ∷ xs) back e = absurd (cc)

  -- if a part holds no mark, it holds at most one at its end after one byte more
  pub ends-more : (part : List ℕ) (x : ℕ) → EndsOnly mark part
      → ((front : List ℕ) → part ≡ front ++ mark → ⊥) → EndsOnly mark (part ++ x ∷ [])
  ends-more part x only unmarked front back e = elim (last-of back) [
    | inl none ↦ none
    | inr (init, last, is) ↦ (
        let whole : part ++ x ∷ [] ≡ (front ++ (mark ++ init)) ++ last ∷ [] =
        e ∙ ap (λ b. front ++ (mark ++ b)) is ∙ ap (λ l. front ++ l) (sym (append_assoc mark init (last ∷ []))) ∙ sym (append_assoc front (mark ++ init) (last ∷ [])) in
        let before = (same_from_push part (front ++ (mark ++ init)) x last whole).0 in
        let none = only front init before in
        absurd (unmarked front (before ∙ ap (λ l. front ++ (mark ++ l)) none ∙ ap (λ l. front ++ l) (append-nil mark))))
  ]

  -- if the remaining bytes hold no mark, and none follow, they begin with no marked part
  pub none-marked : (part ahead : List ℕ) → EndsOnly mark part
      → ((front : List ℕ) → part ≡ front ++ mark → ⊥) → ahead ≡ part
      → SpellsNone (SpellsMarked mark) false ahead
  none-marked part ahead only unmarked is v bytes more rest follows s whole =
      let e : part ≡ v ++ (mark ++ rest) =
      sym is ∙ sym (append-nil ahead) ∙ ap (λ m. ahead ++ m) (sym (follows refl)) ∙ whole ∙ ap (λ b. b ++ rest) s.0 ∙ append_assoc v mark rest in
      let none = only v rest e in
      unmarked v (e ∙ ap (λ r. v ++ (mark ++ r)) none ∙ ap (λ l. v ++ l) (append-nil mark))

  -- if a mark ends before the end of the bytes, not each mark in them is at their end
  pub ends-early : (bytes : List ℕ) (end : ℕ) → end < length bytes → (front : List ℕ)
      → take end bytes ≡ front ++ mark → EndsOnly mark bytes → ⊥
  ends-early bytes end l front e only =
      let whole : bytes ≡ front ++ (mark ++ drop end bytes) =
      sym (take-append-drop end bytes) ∙ ap (λ t. t ++ drop end bytes) e ∙ append_assoc front mark (drop end bytes) in
      omega (arith, l, length-drop end bytes, ap length (only front (drop end bytes) whole))
