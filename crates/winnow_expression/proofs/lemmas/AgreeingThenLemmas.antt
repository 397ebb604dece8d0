-- Parsers whose answers agree: one after the other, and values of which something holds.
use Rattle.std.proofs.Common.{sym, ◌∙◌, subst, inl, inr}
use Rattle.winnow_parser.specs.Outcome.{Gives, Fails, Meaning}
use Rattle.winnow_parser.specs.Meanings.{Returns}
use Rattle.winnow_expression.specs.Then.{Yields, Then}
use Rattle.winnow_expression.specs.Agreeing.{AnswersAgree}

module _ {O P T : Type 0} (same : O → O → Type 0) (alike : P → P → Type 0) (first other : Meaning O T) (next last : O → Meaning P T) (d : AnswersAgree same first other) (e : (x y : O) → same x y → AnswersAgree alike (next x) (last y)) where
  -- answers of `Then` agree where those of its parts do
  pub agree-then : AnswersAgree alike (Then first next) (Then other last)
  agree-then partial a (Gives x b) (Gives y c) s t h k =
      let one = d partial a (Gives h.0 h.1.0) (Gives k.0 k.1.0) tt tt h.1.1.0 k.1.1.0 in
      e h.0 k.0 one.0 partial h.1.0 (Gives x b) (Gives y c) tt tt h.1.1.1 (subst (λ m. last k.0 partial m (Gives y c)) (sym one.1) k.1.1.1)
  agree-then partial a (Gives x b) (Fails g) s t h (inl k) = d partial a (Gives h.0 h.1.0) (Fails g) tt t h.1.1.0 k
  agree-then partial a (Gives x b) (Fails g) s t h (inr k) =
      let one = d partial a (Gives h.0 h.1.0) (Gives k.0 k.1.0) tt tt h.1.1.0 k.1.1.0 in
      e h.0 k.0 one.0 partial h.1.0 (Gives x b) (Fails g) tt t h.1.1.1 (subst (λ m. last k.0 partial m (Fails g)) (sym one.1) k.1.1.1)
  agree-then partial a (Fails f) (Gives y c) s t (inl h) k = d partial a (Fails f) (Gives k.0 k.1.0) s tt h k.1.1.0
  agree-then partial a (Fails f) (Gives y c) s t (inr h) k =
      let one = d partial a (Gives h.0 h.1.0) (Gives k.0 k.1.0) tt tt h.1.1.0 k.1.1.0 in
      e h.0 k.0 one.0 partial h.1.0 (Fails f) (Gives y c) s tt h.1.1.1 (subst (λ m. last k.0 partial m (Gives y c)) (sym one.1) k.1.1.1)
  agree-then partial a (Fails f) (Fails g) s t (inl h) (inl k) = d partial a (Fails f) (Fails g) s t h k
  agree-then partial a (Fails f) (Fails g) s t (inl h) (inr k) = absurd (d partial a (Fails f) (Gives k.0 k.1.0) s tt h k.1.1.0)
  agree-then partial a (Fails f) (Fails g) s t (inr h) (inl k) = absurd (d partial a (Gives h.0 h.1.0) (Fails g) tt t h.1.1.0 k)
  agree-then partial a (Fails f) (Fails g) s t (inr h) (inr k) =
      let one = d partial a (Gives h.0 h.1.0) (Gives k.0 k.1.0) tt tt h.1.1.0 k.1.1.0 in
      e h.0 k.0 one.0 partial h.1.0 (Fails f) (Fails g) s t h.1.1.1 (subst (λ m. last k.0 partial m (Fails g)) (sym one.1) k.1.1.1)

module _ {O T : Type 0} (same : O → O → Type 0) where
  -- answers of `Yields` agree where the values do
  pub agree-yields : (holds other : O → Type 0) → ((x y : O) → holds x → other y → same x y)
      → AnswersAgree {T = T} same (Yields holds) (Yields other)
  agree-yields holds other e partial a (Gives x b) (Gives y c) s t h k = (e x y h.0 k.0, sym h.1 ∙ k.1)
  agree-yields holds other e partial a (Gives x b) (Fails g) s t h k = k
  agree-yields holds other e partial a (Fails f) (Gives y c) s t h k = h
  agree-yields holds other e partial a (Fails f) (Fails g) s t h k = absurd h

  -- answers of `Returns` agree where the values do
  pub agree-returns : (x y : O) → same x y → AnswersAgree {T = T} same (Returns x) (Returns y)
  agree-returns x y e partial a (Gives z b) (Gives w c) s t h k =
      (subst (λ u. same u w) h.0 (subst (same x) k.0 e), sym h.1 ∙ k.1)
  agree-returns x y e partial a (Gives z b) (Fails g) s t h k = k
  agree-returns x y e partial a (Fails f) (Gives w c) s t h k = h
  agree-returns x y e partial a (Fails f) (Fails g) s t h k = absurd h
