-- The one place up to a hit at which a needle can stretch: what stands at the hit stands first in
-- the needle at their distance.
use Rattle.std.proofs.Common.{◌≡◌, ℕ, ◌+◌, ◌-◌, ◌≤◌, ◌<◌, ◌||◌, Bool, true, false, List, [], ◌∷◌, ◌++◌, length, take, drop, get_or, Option, Some, None, refl, ap, sym, ◌∙◌, arith, subst, inl, inr, length-drop}
use Rattle.std.specs.Prelude.{min, option_map}
use Rattle.std.specs.List.{list_any}
use Rattle.std.specs.declared.ops.Range.{Range}
use Rattle.std.proofs.lemmas.Bool.{or_left, or_right, false≢true, false_from_ne_true, cases_Bool, cases_lt}
use Rattle.std.proofs.lemmas.Option.{none-some, same_Some}
use Rattle.std.proofs.lemmas.List.{get_or-drop, take_at}
use Rattle.std.proofs.lemmas.List.Prefix.{at_from_reads, at_reads, front_reads}
use Rattle.memchr.specs.Find.{IsFirst, OccursAt, FindsNeedle}
use Rattle.winnow_match.specs.Comparison.{is_prefix}
use Rattle.winnow_match.specs.Search.{is_empty, needle_at, needle_of, hit}
use Rattle.winnow_match.specs.Stretch.{stretches, mover, stretch_of, any_stretches, IsLeastPlace}
use Rattle.winnow_match.proofs.lemmas.MoveLemmas.{absent-before, first, fits, inside}
use Rattle.winnow_match.proofs.lemmas.StretchLemmas.{stretches-parts}
use Rattle.winnow_match.proofs.lemmas.TailLemmas.{mover_or-later, stretch-found, stretch-over}

-- ---- one needle

-- the first place with a property is the only answer of a search for it
only-first : (P : ℕ → Type 0) (n i : ℕ) (r : Option ℕ) → i < n → P i → ((k : ℕ) → k < i → ¬ P k)
    → IsFirst P 0 n r → r ≡ Some i
only-first P n i None l p none f = absurd (f i (omega arith) l p)
only-first P n i (Some k) l p none f =
    elim (cases_lt k i) [
      | inl m ↦ absurd (none k m f.1)
      | inr m ↦ elim (cases_lt i k) [ inl t ↦ absurd (f.0.before i (omega arith) t p) | inr t ↦ ap Some (omega (arith, m, t)) ]
    ]

module _ (needle b h : List ℕ) (s : ℕ) (finds : FindsNeedle b h 0 (Some s)) where
  -- in a needle that stretches at q, what stands at s stands first at their distance
  pub only-distance : (q : ℕ) → q ≤ s → stretches needle (drop q b) ≡ true → (r : Option ℕ)
      → FindsNeedle needle h 0 r → r ≡ Some (s - q)
  only-distance q low e r f =
      let p = stretches-parts needle (drop q b) e in
      let stands = finds.1 in
      let w = length-drop q b in
      let same : (j : ℕ) → q + j < length b → get_or needle j 0 ≡ get_or b (q + j) 0 =
      λ j l. front_reads 0 needle (drop q b) p.0.0 p.0.1 j (omega (arith, l, w)) ∙ get_or-drop q b j 0
      in
      let here : OccursAt needle h (s - q) =
      record {
        fits = omega (arith, stands.fits, p.1, w, low);
        reads = λ j l.
            let at : q + (s - q + j) ≡ s + j = omega (arith, low) in
            same (s - q + j) (omega (arith, l, low, stands.fits)) ∙ ap (λ m. get_or b m 0) at ∙ stands.reads j l;
      }
      in
      let none : (k : ℕ) → k < s - q → ¬ OccursAt needle h k =
      λ k l o.
      finds.0.before (q + k) (omega arith) (omega (arith, l))
      (record {
        fits = omega (arith, l, stands.fits);
        reads = λ j m.
            let at : q + k + j ≡ q + (k + j) = omega arith in
            ap (λ n. get_or b n 0) at ∙ sym (same (k + j) (omega (arith, l, m, stands.fits))) ∙ o.reads j m;
      })
      in
      only-first (OccursAt needle h) (length needle + 1) (s - q) r (omega (arith, here.fits)) here none f

  -- some needle of one is that needle
  one-needle : (xs : List ℕ) → any_stretches (needle ∷ []) xs ≡ true → stretches needle xs ≡ true
  one-needle xs e = elim (cases_Bool (stretches needle xs)) [ inl t ↦ t | inr t ↦ absurd (false≢true (rw t at e)) ]

  -- a needle that is no longer than what remains from s on stretches nowhere up to s
  pub place-short : (p : ℕ) → s < p → length needle ≤ length b - s
      → IsLeastPlace (needle ∷ []) b s p
  place-short p over short = record {
    before = λ k l low.
        false_from_ne_true (any_stretches (needle ∷ []) (drop k b)) (λ e.
        omega (arith, (stretches-parts needle (drop k b) (one-needle (drop k b) e)).1, length-drop k b, short, low));
    here = λ l. absurd (omega (arith, l, over));
  }

  -- a needle that does not stretch at that distance from s stretches nowhere up to s
  pub place-behind : (r : Option ℕ) (p : ℕ) → FindsNeedle needle h 0 r → s < p
      → ((q : ℕ) → q ≤ s → r ≡ Some (s - q) → stretches needle (drop q b) ≡ false) → IsLeastPlace (needle ∷ []) b s p
  place-behind r p f over none = record {
    before = λ k l low.
        false_from_ne_true (any_stretches (needle ∷ []) (drop k b)) (λ e.
        let t = one-needle (drop k b) e in
        false≢true (sym (none k low (only-distance k low t r f)) ∙ t));
    here = λ l. absurd (omega (arith, l, over));
  }

  -- a needle that stretches at the distance has its least place there
  pub place-here : (p : ℕ) → FindsNeedle needle h 0 (Some (s - p)) → p ≤ s
      → stretches needle (drop p b) ≡ true → IsLeastPlace (needle ∷ []) b s p
  place-here p f low e = record {
    before = λ k l m.
        false_from_ne_true (any_stretches (needle ∷ []) (drop k b)) (λ t.
        let is = only-distance k m (one-needle (drop k b) t) (Some (s - p)) f in
        omega (arith, same_Some (s - p) (s - k) is, l, low));
    here = λ l. or_left (stretches needle (drop p b)) false e;
  }

-- ---- several needles

-- some needle of two lists stretches if one of the first or of the second does
any-append : (ls ms : List (List ℕ)) (xs : List ℕ)
    → any_stretches (ls ++ ms) xs ≡ (any_stretches ls xs || any_stretches ms xs)
any-append [] ms xs = refl
any-append (n ∷ ls) ms xs =
    elim (cases_Bool (stretches n xs)) [ inl e ↦ rw e refl | inr e ↦ rw e (any-append ls ms xs) ]

-- a disjunction of two false values is false
or-false : (a b : Bool) → a ≡ false → b ≡ false → (a || b) ≡ false
or-false a b e f = rw (e, f) refl

module _ (ls ms : List (List ℕ)) (b : List ℕ) (at : ℕ) where
  -- the least place of two lists of needles is the lesser of theirs
  pub least-both : (p q : ℕ) → IsLeastPlace ls b at p → IsLeastPlace ms b at q
      → IsLeastPlace (ls ++ ms) b at (min p q)
  least-both p q left right = record {
    before = λ k l low.
        any-append ls ms (drop k b)
        ∙ or-false (any_stretches ls (drop k b)) (any_stretches ms (drop k b)) (left.before k (omega (arith, l)) low) (right.before k (omega (arith, l)) low);
    here = λ low.
        any-append ls ms (drop (min p q) b)
        ∙ elim (cases_lt q p) [
          | inl l ↦
              let is : q ≡ min p q = omega (arith, l) in
              or_right (any_stretches ls (drop (min p q) b)) (any_stretches ms (drop (min p q) b)) (subst (λ n. any_stretches ms (drop n b) ≡ true) is (right.here (omega (arith, low, is))))
          | inr l ↦
              let is : p ≡ min p q = omega (arith, l) in
              or_left (any_stretches ls (drop (min p q) b)) (any_stretches ms (drop (min p q) b)) (subst (λ n. any_stretches ls (drop n b) ≡ true) is (left.here (omega (arith, low, is))))
        ];
  }

-- the least place of two and of three needles
pub least-two : (x y b : List ℕ) (at p q : ℕ) → IsLeastPlace (x ∷ []) b at p
    → IsLeastPlace (y ∷ []) b at q → IsLeastPlace (x ∷ y ∷ []) b at (min p q)
least-two x y b at p q = least-both (x ∷ []) (y ∷ []) b at p q

pub least-three : (x y z b : List ℕ) (at p q r : ℕ) → IsLeastPlace (x ∷ []) b at p
    → IsLeastPlace (y ∷ []) b at q → IsLeastPlace (z ∷ []) b at r
    → IsLeastPlace (x ∷ y ∷ z ∷ []) b at (min (min p q) r)
least-three x y z b at p q r e f g = least-both (x ∷ y ∷ []) (z ∷ []) b at (min p q) r (least-two x y b at p q e f) g

-- the rules for several needles
pub ruleset least_places = (least-two, least-three)

-- ---- the hit

-- where no needle stretches, `mover` is `None`
mover-never : (ls : List (List ℕ)) (xs : List ℕ) → any_stretches ls xs ≡ false
    → mover ls xs ≡ None
mover-never [] xs e = refl
mover-never (n ∷ ls) xs e =
    elim (cases_Bool (stretches n xs)) [
      | inl t ↦ absurd (false≢true (sym e ∙ or_left (stretches n xs) (any_stretches ls xs) t))
      | inr t ↦ mover_or-later (is_prefix n xs) (stretches n xs) (mover ls xs) t (mover-never ls xs (rw t at e))
    ]

-- an option whose mapped value is `None` is `None`
mapped-some : (o : Option ℕ) → option_map (λ i. i + 1) o ≡ None → o ≡ None
mapped-some None e = refl
mapped-some (Some i) e = absurd (none-some (i + 1) (sym e))

-- if no needle stands and some needle stretches, one is the first that does
mover-some-here : (ls : List (List ℕ)) (xs : List ℕ) → needle_at ls xs ≡ None
    → mover ls xs ≡ None → any_stretches ls xs ≡ false
mover-some-here [] xs none e = refl
mover-some-here (n ∷ ls) xs none e =
    elim (cases_Bool (is_prefix n xs)) [
      | inl f ↦ absurd (none-some (length n) (sym (rw f at none)))
      | inr f ↦ elim (cases_Bool (stretches n xs)) [
        | inl t ↦ absurd (none-some 0 (sym (rw (f, t) at e)))
        | inr t ↦
            or-false (stretches n xs) (any_stretches ls xs) t
            (mover-some-here ls xs (rw f at none) (mapped-some (mover ls xs) (rw (f, t) at e)))
      ]
    ]

module _ (ls : List (List ℕ)) (b : List ℕ) (some : list_any is_empty ls ≡ false) (r : Range ℕ) (h : hit ls b ≡ Some r) where
  -- both ends of the hit are within the bytes, in order
  pub hit-span : (r.start ≤ r.end) × (r.end ≤ length b)
  hit-span =
      let whole = (first ls b some r h).whole in
      (omega (arith, whole), omega (arith, whole, fits ls b some r h, length-drop r.start b, inside ls b some r h))

  -- what stands at the hit stands nowhere before it
  pub hit-finds : FindsNeedle b (take (r.end - r.start) (drop r.start b)) 0 (Some r.start)
  hit-finds =
      let f = first ls b some r h in
      let n = needle_of ls f.index in
      let m : length n ≡ r.end - r.start = omega (arith, f.whole) in
      let is : n ≡ take (r.end - r.start) (drop r.start b) = sym (ap (take (r.end - r.start)) f.stands.1 ∙ take_at n f.stands.0 (r.end - r.start) m) in
      subst (λ xs. FindsNeedle b xs 0 (Some r.start)) is (
        record {
          low = omega arith;
          high = omega (arith, inside ls b some r h);
          before = λ k low l o.
              f.first_place f.index k f.listed l (drop (k + length n) b, at_from_reads 0 b n k o.fits o.reads);
        },
        record {
          fits = omega (arith, fits ls b some r h, length-drop r.start b, inside ls b some r h);
          reads = λ j l. at_reads 0 b n r.start f.stands.0 f.stands.1 j l;
        },
      )

  module _ (p : ℕ) (least : IsLeastPlace ls b r.start p) where
    -- no needle stretches before the least place
    never-before : (k : ℕ) → k < p → k ≤ r.start → mover ls (drop k b) ≡ None
    never-before k l low = mover-never ls (drop k b) (least.before k l low)

    -- if the least place is after the hit, nothing can move it
    pub place-over : r.start < p → stretch_of ls b ≡ None
    place-over over = stretch-over ls b some r h (λ k m l. never-before k (omega (arith, over, l)) (omega (arith, l)))

    module _ (low : p ≤ r.start) where
      -- a needle that stretches at the hit, but is listed after the one that stands there, does not
      -- move it
      pub place-later : mover ls (drop p b) ≡ None → stretch_of ls b ≡ None
      place-later e =
          elim (cases_lt p r.start) [
            | inl l ↦
                absurd (false≢true (sym (mover-some-here ls (drop p b) (absent-before ls b some r h p l) e) ∙ least.here low))
            | inr l ↦
                let at : p ≡ r.start = omega (arith, l, low) in
                stretch-over ls b some r h (λ k m n.
                elim (cases_lt k p) [
                  | inl t ↦ never-before k t (omega (arith, n))
                  | inr t ↦
                      let is : p ≡ k = omega (arith, t, n, at) in
                      subst (λ j. mover ls (drop j b) ≡ None) is e
                ])
          ]

      -- a needle that stretches at the least place is what could move the hit
      pub place-first : (i : ℕ) → mover ls (drop p b) ≡ Some i
          → stretch_of ls b ≡ Some (record { needle = i; place = p })
      place-first i e = stretch-found ls b some r h p i low (λ k m l. never-before k l (omega (arith, l, low))) e
