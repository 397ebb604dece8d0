-- Parsers of slices, of ranges, with a context, and of what follows a value have one answer where
-- their parts have one.
use Rattle.std.specs.Prelude.{◌≡◌, ℕ, Bool, Some}
use Rattle.std.specs.declared.ops.Range.{Range}
use Rattle.std.proofs.Common.{sym, ◌∙◌, ap, subst, inl, inr}
use Rattle.winnow_stream.specs.Source.{Source}
use Rattle.winnow_parser.specs.Outcome.{Ahead, Backtracks, Cuts, Needs, Refuses, Outcome, Gives, Fails, Meaning}
use Rattle.winnow_parser.specs.Taken.{IsFrontTaken, Taken, WithTaken}
use Rattle.winnow_parser.specs.Span.{IsRangeOf, Spans, HasSpan}
use Rattle.winnow_parser.specs.Context.{InContext}
use Rattle.winnow_parser.specs.FlatMap.{FlatMaps}
use Rattle.winnow_parser.specs.Determined.{IsGranted, IsDetermined, AreBothSame, SlicesRespect}

module _ {O S T : Type 0} (is_slice : S → Source T → ℕ → Type 0) (alike : S → S → Type 0) (fronts : SlicesRespect is_slice alike) (inner : Meaning O T) (same : O → O → Type 0) (d : IsDetermined same inner) where
  -- `WithTaken` has one answer where its parts have one
  pub determined-with_taken : IsDetermined (AreBothSame same alike) (WithTaken is_slice inner)
  determined-with_taken partial a (Gives x b) (Gives y c) s t h k =
      let e = d partial a (Gives x.0 b) (Gives y.0 c) tt tt h.0 k.0 in
      ((e.0, fronts x.1 y.1 a c (subst (IsFrontTaken is_slice x.1 a) e.1 h.1) k.1), e.1)
  determined-with_taken partial a (Gives x b) (Fails g) s t h k = d partial a (Gives x.0 b) (Fails g) tt t h.0 k
  determined-with_taken partial a (Fails f) (Gives y c) s t h k = d partial a (Fails f) (Gives y.0 c) s tt h k.0
  determined-with_taken partial a (Fails f) (Fails g) s t h k = d partial a (Fails f) (Fails g) s t h k

  -- `Taken` has one answer where its parts have one
  pub determined-taken : IsDetermined alike (Taken is_slice inner)
  determined-taken partial a (Gives x b) (Gives y c) s t h k =
      let e = d partial a (Gives h.0.0 b) (Gives k.0.0 c) tt tt h.0.1 k.0.1 in
      (fronts x y a c (subst (IsFrontTaken is_slice x a) e.1 h.1) k.1, e.1)
  determined-taken partial a (Gives x b) (Fails g) s t h k = d partial a (Gives h.0.0 b) (Fails g) tt t h.0.1 k
  determined-taken partial a (Fails f) (Gives y c) s t h k = d partial a (Fails f) (Gives k.0.0 c) s tt h k.0.1
  determined-taken partial a (Fails f) (Fails g) s t h k = d partial a (Fails f) (Fails g) s t h k

-- there is one range from one place to another
same-range : {T : Type 0} (r s : Range ℕ) (a b : Ahead T) → IsRangeOf r a b → IsRangeOf s a b
    → r ≡ s
same-range r s a b h k =
    let start : Some r.start ≡ Some s.start = sym h.0 ∙ k.0 in
    let end : Some r.end ≡ Some s.end = sym h.1 ∙ k.1 in
    let first : r.start ≡ s.start = cc in
    let last : r.end ≡ s.end = cc in
    ap (λ n. record { start = n; end = r.end }) first ∙ ap (λ n. record { start = s.start; end = n }) last

module _ {O T : Type 0} (inner : Meaning O T) (same : O → O → Type 0) (d : IsDetermined same inner) where
  -- `HasSpan` has one answer where its parts have one
  pub determined-with_span : IsDetermined (AreBothSame same ◌≡◌) (HasSpan inner)
  determined-with_span partial a (Gives x b) (Gives y c) s t h k =
      let e = d partial a (Gives x.0 b) (Gives y.0 c) tt tt h.0 k.0 in
      ((e.0, same-range x.1 y.1 a c (subst (IsRangeOf x.1 a) e.1 h.1) k.1), e.1)
  determined-with_span partial a (Gives x b) (Fails g) s t h k = d partial a (Gives x.0 b) (Fails g) tt t h.0 k
  determined-with_span partial a (Fails f) (Gives y c) s t h k = d partial a (Fails f) (Gives y.0 c) s tt h k.0
  determined-with_span partial a (Fails f) (Fails g) s t h k = d partial a (Fails f) (Fails g) s t h k

  -- `Spans` has one answer where its parts have one
  pub determined-span : IsDetermined ◌≡◌ (Spans inner)
  determined-span partial a (Gives x b) (Gives y c) s t h k =
      let e = d partial a (Gives h.0.0 b) (Gives k.0.0 c) tt tt h.0.1 k.0.1 in
      (same-range x y a c (subst (IsRangeOf x a) e.1 h.1) k.1, e.1)
  determined-span partial a (Gives x b) (Fails g) s t h k = d partial a (Gives h.0.0 b) (Fails g) tt t h.0.1 k
  determined-span partial a (Fails f) (Gives y c) s t h k = d partial a (Fails f) (Gives k.0.0 c) s tt h k.0.1
  determined-span partial a (Fails f) (Fails g) s t h k = d partial a (Fails f) (Fails g) s t h k

  -- an answer of `InContext` is one of the inner parser, unless memory was refused
  in_context-inner : (refusable : Type 0) (partial : Bool) (a : Ahead T) (v : Outcome O T)
      → IsGranted v → InContext refusable inner partial a v → inner partial a v
  in_context-inner refusable partial a (Gives x b) s h = h
  in_context-inner refusable partial a (Fails (Backtracks b)) s h = h
  in_context-inner refusable partial a (Fails (Cuts b)) s h = h
  in_context-inner refusable partial a (Fails (Needs n)) s h = h
  in_context-inner refusable partial a (Fails Refuses) s h = absurd s

  -- `InContext` has one answer where the inner parser has one
  pub determined-context : (refusable : Type 0) → IsDetermined same (InContext refusable inner)
  determined-context refusable partial a v w s t h k =
      d partial a v w s t (in_context-inner refusable partial a v s h) (in_context-inner refusable partial a w t k)

module _ {O P Q T : Type 0} (makes : O → Q → Type 0) (means : Q → Meaning P T) (first : Meaning O T) (same : O → O → Type 0) (alike : P → P → Type 0) (one : (x y : O) (q r : Q) → same x y → makes x q → makes y r → q ≡ r) (all : (q : Q) → IsDetermined alike (means q)) (d : IsDetermined same first) where
  -- `FlatMaps` has one answer where its parts have one
  pub determined-flat_map : IsDetermined alike (FlatMaps makes means first)
  determined-flat_map partial a (Gives y c) (Gives z e) s t h k =
      let same_first = d partial a (Gives h.0 h.1.0) (Gives k.0 k.1.0) tt tt h.1.1.1.0 k.1.1.1.0 in
      let same_parser = one h.0 k.0 h.1.1.0 k.1.1.0 same_first.0 h.1.1.1.1 k.1.1.1.1 in
      all h.1.1.0 partial h.1.0 (Gives y c) (Gives z e) tt tt h.1.1.1.2
      (subst (λ q. means q partial h.1.0 (Gives z e)) (sym same_parser) (subst (λ m. means k.1.1.0 partial m (Gives z e)) (sym same_first.1) k.1.1.1.2))
  determined-flat_map partial a (Gives y c) (Fails g) s t h (inl k) = d partial a (Gives h.0 h.1.0) (Fails g) tt t h.1.1.1.0 k
  determined-flat_map partial a (Gives y c) (Fails g) s t h (inr k) =
      let same_first = d partial a (Gives h.0 h.1.0) (Gives k.0 k.1.0) tt tt h.1.1.1.0 k.1.1.1.0 in
      let same_parser = one h.0 k.0 h.1.1.0 k.1.1.0 same_first.0 h.1.1.1.1 k.1.1.1.1 in
      all h.1.1.0 partial h.1.0 (Gives y c) (Fails g) tt t h.1.1.1.2
      (subst (λ q. means q partial h.1.0 (Fails g)) (sym same_parser) (subst (λ m. means k.1.1.0 partial m (Fails g)) (sym same_first.1) k.1.1.1.2))
  determined-flat_map partial a (Fails f) (Gives z e) s t (inl h) k = d partial a (Fails f) (Gives k.0 k.1.0) s tt h k.1.1.1.0
  determined-flat_map partial a (Fails f) (Gives z e) s t (inr h) k =
      let same_first = d partial a (Gives h.0 h.1.0) (Gives k.0 k.1.0) tt tt h.1.1.1.0 k.1.1.1.0 in
      let same_parser = one h.0 k.0 h.1.1.0 k.1.1.0 same_first.0 h.1.1.1.1 k.1.1.1.1 in
      all h.1.1.0 partial h.1.0 (Fails f) (Gives z e) s tt h.1.1.1.2
      (subst (λ q. means q partial h.1.0 (Gives z e)) (sym same_parser) (subst (λ m. means k.1.1.0 partial m (Gives z e)) (sym same_first.1) k.1.1.1.2))
  determined-flat_map partial a (Fails f) (Fails g) s t (inl h) (inl k) = d partial a (Fails f) (Fails g) s t h k
  determined-flat_map partial a (Fails f) (Fails g) s t (inl h) (inr k) = absurd (d partial a (Fails f) (Gives k.0 k.1.0) s tt h k.1.1.1.0)
  determined-flat_map partial a (Fails f) (Fails g) s t (inr h) (inl k) = absurd (d partial a (Gives h.0 h.1.0) (Fails g) tt t h.1.1.1.0 k)
  determined-flat_map partial a (Fails f) (Fails g) s t (inr h) (inr k) =
      let same_first = d partial a (Gives h.0 h.1.0) (Gives k.0 k.1.0) tt tt h.1.1.1.0 k.1.1.1.0 in
      let same_parser = one h.0 k.0 h.1.1.0 k.1.1.0 same_first.0 h.1.1.1.1 k.1.1.1.1 in
      all h.1.1.0 partial h.1.0 (Fails f) (Fails g) s t h.1.1.1.2
      (subst (λ q. means q partial h.1.0 (Fails g)) (sym same_parser) (subst (λ m. means k.1.1.0 partial m (Fails g)) (sym same_first.1) k.1.1.1.2))
