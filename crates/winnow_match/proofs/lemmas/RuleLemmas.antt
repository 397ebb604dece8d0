-- The rule of definite hits, and of needles that stretch, as facts in both directions.
use Rattle.std.proofs.Common.{◌≡◌, ◌↔◌, ℕ, ◌<◌, ◌⊎◌, true, false, List, [], length, drop, Some, None, refl, ap, sym, ◌∙◌, arith, subst, inl, inr}
use Rattle.std.specs.Prelude.{Contains}
use Rattle.std.specs.List.{list_any}
use Rattle.std.specs.declared.ops.Range.{Range}
use Rattle.std.proofs.lemmas.Bool.{cases_lt}
use Rattle.winnow_stream.specs.Span.{span}
use Rattle.winnow_match.specs.Search.{is_empty, needle_of, hit, Occurs, IsFirstHit}
use Rattle.winnow_match.proofs.lemmas.ByteFrontLemmas.{is_prefix-IsPrefixOf, length-front}
use Rattle.winnow_match.proofs.lemmas.HitLemmas.{none-empty, some-says}
use Rattle.winnow_match.specs.declared.needles.Stretch.{Stretch}
use Rattle.winnow_match.specs.Stretch.{stretch_of, hit_is_definite, Stretches, CanMove, IsStretch, NothingStretches}
use Rattle.winnow_match.proofs.lemmas.StretchLemmas.{none-or-some}
use Rattle.winnow_match.proofs.lemmas.MoveLemmas.{empty-at, stretch-none, stretch-some, stretch-first, stretch-empty, hit-empty, definite-parts, definite-from}

-- with an empty needle the hit is definite
pub empty-definite : (ls : List (List ℕ)) (b : List ℕ) → Contains ls []
    → hit_is_definite ls b ≡ true
empty-definite ls b c = let e = empty-at ls c.0 c.1 c.2 in definite-from ls b (span 0 0) (hit-empty ls b e) (stretch-empty ls b e)

-- ---- what can move the hit, by the number of the needle at it

module _ (ls : List (List ℕ)) (b : List ℕ) (r : Range ℕ) (f : IsFirstHit ls b r) (i q : ℕ) where
  -- a needle can move the hit exactly if it stretches before it, or at it and is listed before the
  -- one there
  can-move : i < length ls → (q < r.start) ⊎ ((q ≡ r.start) × (i < f.index))
      → Stretches (needle_of ls i) b q → CanMove ls b r i q
  can-move l w s =
      record {
        listed = l;
        stretches = s;
        first =
            elim w [
              | inl k ↦ inl k
              | inr k ↦ inr (k.0, λ j m t. f.first_listed j (omega (arith, m, k.1)) (subst (Occurs (needle_of ls j) b) k.0 t))
            ];
      }

  moved-by : CanMove ls b r i q → (q < r.start) ⊎ ((q ≡ r.start) × (i < f.index))
  moved-by c =
      elim c.first [
        | inl k ↦ inl k
        | inr k ↦ elim (cases_lt i f.index) [
          | inl l ↦ inr (k.0, l)
          | inr l ↦
              let here : Occurs (needle_of ls f.index) b q = subst (Occurs (needle_of ls f.index) b) (sym k.0) f.stands in
              elim (cases_lt f.index i) [
                | inl m ↦ absurd (k.1 f.index m here)
                | inr m ↦
                    let same : f.index ≡ i = omega (arith, l, m) in
                    let there : Occurs (needle_of ls i) b q = subst (λ j. Occurs (needle_of ls j) b q) same here in
                    let long = length-front (needle_of ls i) (drop q b) (is_prefix-IsPrefixOf (needle_of ls i) (drop q b) there) in
                    absurd (omega (arith, long, c.stretches.1))
              ]
        ]
      ]

module _ (ls : List (List ℕ)) (b : List ℕ) (some : ¬ Contains ls []) (r : Range ℕ) where
  -- no needle is empty
  none : list_any is_empty ls ≡ false
  none = none-empty ls some

  -- `stretch_of` is `None` exactly if nothing can move the hit
  pub stretch-none-says : hit ls b ≡ Some r
      → (stretch_of ls b ≡ None ↔ ((i q : ℕ) → ¬ CanMove ls b r i q))
  stretch-none-says h = (
    λ e. stretch-none ls b none r h (sym (stretch-first ls b none) ∙ e),
    λ still.
        elim (none-or-some (stretch_of ls b)) [
          | inl e ↦ e
          | inr e ↦ absurd (still e.0.needle e.0.place (stretch-some ls b none r h e.0 (sym (stretch-first ls b none) ∙ e.1)).can_move)
        ],
  )

  -- there is only one least stretch
  same-stretch : (s t : Stretch) → IsStretch ls b r s → IsStretch ls b r t → s ≡ t
  same-stretch s t f g =
      let p : s.place ≡ t.place = omega (arith, f.least t.needle t.place g.can_move, g.least s.needle s.place f.can_move) in
      let a = f.first_listed t.needle (subst (CanMove ls b r t.needle) (sym p) g.can_move) in
      let c = g.first_listed s.needle (subst (CanMove ls b r s.needle) p f.can_move) in
      let n : s.needle ≡ t.needle = omega (arith, a, c) in
      ap (λ x. let v : Stretch = record { needle = s.needle; place = x } in v) p ∙ ap (λ x. let v : Stretch = record { needle = x; place = t.place } in v) n

  -- `stretch_of` gives exactly the least stretch
  pub stretch-some-says : (s : Stretch) → hit ls b ≡ Some r
      → (stretch_of ls b ≡ Some s ↔ IsStretch ls b r s)
  stretch-some-says s h = (
    λ e. stretch-some ls b none r h s (sym (stretch-first ls b none) ∙ e),
    λ f.
        elim (none-or-some (stretch_of ls b)) [
          | inl e ↦ absurd ((stretch-none-says h).0 e s.needle s.place f.can_move)
          | inr e ↦ e.1 ∙ ap Some (sym (same-stretch s e.0 f (stretch-some ls b none r h e.0 (sym (stretch-first ls b none) ∙ e.1))))
        ],
  )

  -- a hit is definite exactly if nothing stretches
  pub rule-says : (f : IsFirstHit ls b r)
      → (hit_is_definite ls b ≡ true ↔ NothingStretches ls b r f)
  rule-says f =
      let h = (some-says ls b some r).1 f in
      let says = stretch-none-says h in (
        λ d i q l w s. says.0 (definite-parts ls b d).1 i q (can-move ls b r f i q l w s),
        λ n. definite-from ls b r h (says.1 (λ i q c. n i q c.listed (moved-by ls b r f i q c) c.stretches)),
      )

-- without a hit nothing is definite
pub none-definite : (ls : List (List ℕ)) (b : List ℕ) → hit ls b ≡ None
    → hit_is_definite ls b ≡ false
none-definite ls b h = rw h refl
