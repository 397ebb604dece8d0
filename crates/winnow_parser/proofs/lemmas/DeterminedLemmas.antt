-- A combinator of parsers that have one answer has one answer.
use Rattle.std.specs.Prelude.{Bool, ◌⊎◌, ⊤}
use Rattle.std.proofs.Common.{sym, ◌∙◌, subst, inl, inr}
use Rattle.winnow_parser.specs.Outcome.{Ahead, Backtracks, Cuts, Needs, Refuses, Outcome, Gives, Fails, Meaning}
use Rattle.winnow_parser.specs.Meanings.{Returns, Maps, Pair, IsAlt2}
use Rattle.winnow_parser.specs.Determined.{IsGranted, Agree, IsDetermined, AreBothSame, Respects}

-- ---- A value, and what a relation gives for it

module _ {O T : Type 0} (x : O) (same : O → O → Type 0) (self : same x x) where
  -- `Returns` has one answer
  pub determined-returns : IsDetermined {O = O} {T = T} same (Returns x)
  determined-returns partial a (Gives y b) (Gives z c) s t h k =
      (subst (λ u. same u z) h.0 (subst (same x) k.0 self), sym h.1 ∙ k.1)
  determined-returns partial a (Gives y b) (Fails g) s t h k = k
  determined-returns partial a (Fails f) (Gives z c) s t h k = h
  determined-returns partial a (Fails f) (Fails g) s t h k = absurd h

module _ {O P T : Type 0} (same : O → O → Type 0) (alike : P → P → Type 0) (gives : O → P → Type 0) (respects : Respects same alike gives) (inner : Meaning O T) (d : IsDetermined same inner) where
  -- `Maps` has one answer where its relation gives the same for values that are the same
  pub determined-maps : IsDetermined alike (Maps gives inner)
  determined-maps partial a (Gives y b) (Gives z c) s t h k =
      let e = d partial a (Gives h.0 b) (Gives k.0 c) tt tt h.1.1 k.1.1 in (respects h.0 k.0 y z e.0 h.1.0 k.1.0, e.1)
  determined-maps partial a (Gives y b) (Fails g) s t h k = d partial a (Gives h.0 b) (Fails g) tt t h.1.1 k
  determined-maps partial a (Fails f) (Gives z c) s t h k = d partial a (Fails f) (Gives k.0 c) s tt h k.1.1
  determined-maps partial a (Fails f) (Fails g) s t h k = d partial a (Fails f) (Fails g) s t h k

-- ---- One after the other

module _ {O P T : Type 0} (same : O → O → Type 0) (alike : P → P → Type 0) (first : Meaning O T) (second : Meaning P T) (d : IsDetermined same first) (e : IsDetermined alike second) where
  -- `Pair` has one answer where its parts have one
  pub determined-pair : IsDetermined (AreBothSame same alike) (Pair first second)
  determined-pair partial a (Gives x b) (Gives y c) s t h k =
      let one = d partial a (Gives x.0 h.0) (Gives y.0 k.0) tt tt h.1.0 k.1.0 in
      let two = e partial h.0 (Gives x.1 b) (Gives y.1 c) tt tt h.1.1 (subst (λ m. second partial m (Gives y.1 c)) (sym one.1) k.1.1) in
      ((one.0, two.0), two.1)
  determined-pair partial a (Gives x b) (Fails g) s t h (inl k) = d partial a (Gives x.0 h.0) (Fails g) tt t h.1.0 k
  determined-pair partial a (Gives x b) (Fails g) s t h (inr k) =
      let one = d partial a (Gives x.0 h.0) (Gives k.0 k.1.0) tt tt h.1.0 k.1.1.0 in
      e partial h.0 (Gives x.1 b) (Fails g) tt t h.1.1 (subst (λ m. second partial m (Fails g)) (sym one.1) k.1.1.1)
  determined-pair partial a (Fails f) (Gives y c) s t (inl h) k = d partial a (Fails f) (Gives y.0 k.0) s tt h k.1.0
  determined-pair partial a (Fails f) (Gives y c) s t (inr h) k =
      let one = d partial a (Gives h.0 h.1.0) (Gives y.0 k.0) tt tt h.1.1.0 k.1.0 in
      e partial h.1.0 (Fails f) (Gives y.1 c) s tt h.1.1.1 (subst (λ m. second partial m (Gives y.1 c)) (sym one.1) k.1.1)
  determined-pair partial a (Fails f) (Fails g) s t (inl h) (inl k) = d partial a (Fails f) (Fails g) s t h k
  determined-pair partial a (Fails f) (Fails g) s t (inl h) (inr k) = absurd (d partial a (Fails f) (Gives k.0 k.1.0) s tt h k.1.1.0)
  determined-pair partial a (Fails f) (Fails g) s t (inr h) (inl k) = absurd (d partial a (Gives h.0 h.1.0) (Fails g) tt t h.1.1.0 k)
  determined-pair partial a (Fails f) (Fails g) s t (inr h) (inr k) =
      let one = d partial a (Gives h.0 h.1.0) (Gives k.0 k.1.0) tt tt h.1.1.0 k.1.1.0 in
      e partial h.1.0 (Fails f) (Fails g) s t h.1.1.1 (subst (λ m. second partial m (Fails g)) (sym one.1) k.1.1.1)

-- ---- One of two

-- the outcome is not a backtrack, so that `IsAlt2` takes it from the first parser
abbrev Taken-first : {O T : Type 0} → Outcome O T → Type 0
Taken-first (Gives x b) = ⊤
Taken-first (Fails (Backtracks b)) = ⊥
Taken-first (Fails (Cuts b)) = ⊤
Taken-first (Fails (Needs n)) = ⊤
Taken-first (Fails Refuses) = ⊤

module _ {O T : Type 0} (refusable : Type 0) (first second : Meaning O T) where
  -- an answer of `IsAlt2` comes from the first parser, or from the second where the first
  -- backtracks
  either-cases : (partial : Bool) (a : Ahead T) (v : Outcome O T) → IsGranted v
      → IsAlt2 refusable first second partial a v
      → (first partial a v × Taken-first v) ⊎ ((c : Ahead T) × (first partial a (Fails (Backtracks c)) × second partial a v))
  either-cases partial a (Gives x b) s (inl h) = inl (h, tt)
  either-cases partial a (Gives x b) s (inr h) = inr h
  either-cases partial a (Fails (Backtracks b)) s h = inr h
  either-cases partial a (Fails (Cuts b)) s (inl h) = inl (h, tt)
  either-cases partial a (Fails (Cuts b)) s (inr h) = inr h
  either-cases partial a (Fails (Needs n)) s (inl h) = inl (h, tt)
  either-cases partial a (Fails (Needs n)) s (inr h) = inr h
  either-cases partial a (Fails Refuses) s h = absurd s

-- an outcome that is not a backtrack agrees with no backtrack
first-backtracks : {O T : Type 0} (same : O → O → Type 0) (v : Outcome O T) (c : Ahead T)
    → Taken-first v → Agree same v (Fails (Backtracks c)) → ⊥
first-backtracks same (Gives x b) c s e = e
first-backtracks same (Fails (Backtracks b)) c s e = s
first-backtracks same (Fails (Cuts b)) c s e = cc
first-backtracks same (Fails (Needs n)) c s e = cc
first-backtracks same (Fails Refuses) c s e = cc

-- the same in the other order
backtracks-first : {O T : Type 0} (same : O → O → Type 0) (v : Outcome O T) (c : Ahead T)
    → Taken-first v → Agree same (Fails (Backtracks c)) v → ⊥
backtracks-first same (Gives x b) c s e = e
backtracks-first same (Fails (Backtracks b)) c s e = s
backtracks-first same (Fails (Cuts b)) c s e = cc
backtracks-first same (Fails (Needs n)) c s e = cc
backtracks-first same (Fails Refuses) c s e = cc

module _ {O T : Type 0} (refusable : Type 0) (same : O → O → Type 0) (first second : Meaning O T) (d : IsDetermined same first) (e : IsDetermined same second) where
  -- two answers of `IsAlt2` agree, by which parser each comes from
  either-agree : (partial : Bool) (a : Ahead T) (v w : Outcome O T) → IsGranted v → IsGranted w
      → (first partial a v × Taken-first v) ⊎ ((c : Ahead T) × (first partial a (Fails (Backtracks c)) × second partial a v))
      → (first partial a w × Taken-first w) ⊎ ((c : Ahead T) × (first partial a (Fails (Backtracks c)) × second partial a w))
      → Agree same v w
  either-agree partial a v w s t (inl h) (inl k) = d partial a v w s t h.0 k.0
  either-agree partial a v w s t (inl h) (inr k) = absurd (first-backtracks same v k.0 h.1 (d partial a v (Fails (Backtracks k.0)) s tt h.0 k.1.0))
  either-agree partial a v w s t (inr h) (inl k) = absurd (backtracks-first same w h.0 k.1 (d partial a (Fails (Backtracks h.0)) w tt t h.1.0 k.0))
  either-agree partial a v w s t (inr h) (inr k) = e partial a v w s t h.1.1 k.1.1

  -- `IsAlt2` has one answer where its parts have one
  pub determined-alt2 : IsDetermined same (IsAlt2 refusable first second)
  determined-alt2 partial a v w s t h k =
      either-agree partial a v w s t (either-cases refusable first second partial a v s h) (either-cases refusable first second partial a w t k)
