-- What can move a hit, and hits that nothing moves under more input.
use Rattle.std.proofs.Common.{◌≡◌, ℕ, zero, suc, ◌+◌, ◌≤◌, ◌<◌, ◌⊎◌, true, false, not, List, [], ◌∷◌, ◌++◌, length, drop, Some, None, refl, ap, sym, ◌∙◌, arith, subst, inl, inr, length-drop}
use Rattle.std.specs.Prelude.{is_some, Contains}
use Rattle.std.specs.List.{list_any}
use Rattle.std.specs.declared.ops.Range.{Range}
use Rattle.std.proofs.lemmas.Bool.{and_parts, and_from, or_right, or_left, false≢true, false_from_ne_true, cases_Bool, cases_lt}
use Rattle.std.proofs.lemmas.Option.{none-some}
use Rattle.std.proofs.lemmas.List.{drop-append-le, length-append, append_assoc}
use Rattle.winnow_stream.specs.Span.{span}
use Rattle.winnow_match.specs.Comparison.{is_prefix}
use Rattle.winnow_match.specs.Search.{is_empty, needle_at, needle_of, hit, Occurs, IsFirstHit}
use Rattle.winnow_match.proofs.lemmas.ByteFrontLemmas.{IsPrefixOf-is_prefix, is_prefix-IsPrefixOf, no_front, is_prefix-more, length-front, is_prefix-append, is_prefix-both, is_prefix-long}
use Rattle.winnow_match.proofs.lemmas.HitLemmas.{no-needle, needle_at-nowhere, some-says}
use Rattle.winnow_match.specs.declared.needles.Stretch.{Stretch}
use Rattle.winnow_match.specs.Stretch.{mover, first_mover, stretch_of, hit_is_definite, Stretches, CanMove, IsStretch}
use Rattle.winnow_match.proofs.lemmas.StretchLemmas.{none-or-some, stretches-parts, stretches-from, mover-some, mover-none, first_mover-some, first_mover-none}

-- ---- lists of needles

-- a list with an empty needle tests as one
pub empty-at : (ls : List (List ℕ)) (i : ℕ) → i < length ls → needle_of ls i ≡ []
    → list_any is_empty ls ≡ true
empty-at [] i l e = absurd (omega (arith, l))
empty-at (n ∷ ls) zero l e = or_left (is_empty n) (list_any is_empty ls) (ap is_empty e)
empty-at (n ∷ ls) (suc i) l e = or_right (is_empty n) (list_any is_empty ls) (empty-at ls i (omega (arith, l)) e)

-- a list that is not empty has a positive length
nonempty : (xs : List ℕ) → ¬ (xs ≡ []) → 0 < length xs
nonempty [] h = absurd (h refl)
nonempty (x ∷ xs) h = omega arith

-- ---- one needle under more input

module _ (n b m : List ℕ) (q : ℕ) where
  -- a needle that stands still stands under more input
  stands-later : q ≤ length b → Occurs n b q → Occurs n (b ++ m) q
  stands-later l s = (s.0 ++ m, drop-append-le q b m l ∙ ap (λ xs. xs ++ m) s.1 ∙ append_assoc n s.0 m)

  -- a needle that stands under more input stood before, or the bytes ended inside it
  pub stands-before : q ≤ length b → Occurs n (b ++ m) q → Occurs n b q ⊎ Stretches n b q
  stands-before l s =
      let xs : List ℕ = drop q b in
      let f : is_prefix n (xs ++ m) ≡ true = ap (is_prefix n) (sym (drop-append-le q b m l)) ∙ is_prefix-IsPrefixOf n (drop q (b ++ m)) s in
      elim (cases_lt (length xs) (length n)) [
        | inl k ↦ inr (IsPrefixOf-is_prefix xs n (is_prefix-both n xs (xs ++ m) f (is_prefix-append xs m) (omega (arith, k))), k)
        | inr k ↦ inl (IsPrefixOf-is_prefix n xs (sym (is_prefix-more n xs m k) ∙ f))
      ]

  -- a needle that stretches under more input stretched before
  stretches-before : q ≤ length b → Stretches n (b ++ m) q → Stretches n b q
  stretches-before l s =
      let e : drop q (b ++ m) ≡ drop q b ++ m = drop-append-le q b m l in
      let w : length (drop q (b ++ m)) ≡ length (drop q b) + length m = ap length e ∙ length-append (drop q b) m in
      ((m ++ s.0.0, s.0.1 ∙ ap (λ xs. xs ++ s.0.0) e ∙ append_assoc (drop q b) m s.0.0), omega (arith, s.1, w))

-- ---- what the first hit rules out

module _ (ls : List (List ℕ)) (bytes : List ℕ) (some : list_any is_empty ls ≡ false) where
  -- no needle is empty
  pub none-contained : ¬ Contains ls []
  none-contained c = false≢true (sym some ∙ empty-at ls c.0 c.1 c.2)

  module _ (r : Range ℕ) (h : hit ls bytes ≡ Some r) where
    -- the hit as a fact
    pub first : IsFirstHit ls bytes r
    first = (some-says ls bytes none-contained r).0 h

    -- the needle at the hit has a byte
    pub has-byte : 0 < length (needle_of ls first.index)
    has-byte = nonempty (needle_of ls first.index) (λ e. false≢true (sym some ∙ empty-at ls first.index first.listed e))

    -- the needle at the hit fits in the bytes
    pub fits : length (needle_of ls first.index) ≤ length (drop r.start bytes)
    fits = length-front (needle_of ls first.index) (drop r.start bytes) (is_prefix-IsPrefixOf (needle_of ls first.index) (drop r.start bytes) first.stands)

    -- the hit starts before the end of the bytes
    pub inside : r.start < length bytes
    inside = omega (arith, has-byte, fits, length-drop r.start bytes)

    -- no needle stands before the hit
    pub absent-before : (k : ℕ) → k < r.start → needle_at ls (drop k bytes) ≡ None
    absent-before k l = needle_at-nowhere ls (drop k bytes) (λ i m. no_front (needle_of ls i) (drop k bytes) (first.first_place i k m l))

    -- where no needle stands, none of them is a front
    no-front : (i k : ℕ) → i < length ls → needle_at ls (drop k bytes) ≡ None
        → is_prefix (needle_of ls i) (drop k bytes) ≡ false
    no-front i k l e = no-needle ls (drop k bytes) e i l

    -- if `first_mover` is `None`, nothing can move the hit
    pub stretch-none : first_mover ls 0 bytes ≡ None → (i q : ℕ) → ¬ CanMove ls bytes r i q
    stretch-none e i q c =
        let within : q ≤ r.start = elim c.first [ inl l ↦ omega (arith, l) | inr s ↦ omega (arith, s.0) ] in
        let none : mover ls (drop q bytes) ≡ None = first_mover-none ls bytes 0 e q (omega (arith, within, inside)) (λ k l. absent-before k (omega (arith, l, within))) in
        let absent : (j : ℕ) → j < suc i → is_prefix (needle_of ls j) (drop q bytes) ≡ false =
        λ j l. elim c.first [
          | inl s ↦ no_front (needle_of ls j) (drop q bytes) (first.first_place j q (omega (arith, l, c.listed)) s)
          | inr s ↦ elim (cases_lt j i) [
            | inl k ↦ no_front (needle_of ls j) (drop q bytes) (s.1 j k)
            | inr k ↦
                let e : i ≡ j = omega (arith, l, k) in
                subst (λ t. is_prefix (needle_of ls t) (drop q bytes) ≡ false) e (is_prefix-long (needle_of ls i) (drop q bytes) c.stretches.1)
          ]
        ]
        in
        false≢true (sym (mover-none ls (drop q bytes) none i c.listed absent) ∙ stretches-from (needle_of ls i) (drop q bytes) c.stretches)

    -- what `first_mover` gives is the least stretch, as a fact
    pub stretch-some : (s : Stretch) → first_mover ls 0 bytes ≡ Some s → IsStretch ls bytes r s
    stretch-some s e =
        let t = first_mover-some ls bytes 0 s e in
        let at : t.place ≡ s.place = omega (arith, t.is) in
        let here : mover ls (drop s.place bytes) ≡ Some s.needle = ap (λ q. mover ls (drop q bytes)) (sym at) ∙ t.here in
        let u = mover-some ls (drop s.place bytes) s.needle here in
        let within : s.place ≤ r.start =
        elim (cases_lt r.start s.place) [
          | inl l ↦
              let none = no-front first.index r.start first.listed (t.absent r.start (omega (arith, l, at))) in
              absurd (false≢true (sym none ∙ is_prefix-IsPrefixOf (needle_of ls first.index) (drop r.start bytes) first.stands))
          | inr l ↦ l
        ]
        in
        record {
          can_move =
              record {
                listed = u.listed;
                stretches = stretches-parts (needle_of ls s.needle) (drop s.place bytes) u.stretched;
                first =
                    elim (cases_lt s.place r.start) [
                      | inl l ↦ inl l
                      | inr l ↦
                          inr (omega (arith, l, within), λ j k st. false≢true (sym (u.absent j k) ∙ is_prefix-IsPrefixOf (needle_of ls j) (drop s.place bytes) st))
                    ];
              };
          least = λ i q c.
              elim (cases_lt q s.place) [
                | inl l ↦
                    let none = t.absent q (omega (arith, l, at)) in
                    let off =
                    mover-none ls (drop q bytes) (t.before q (omega (arith, l, at))) i c.listed (λ j k. no-front j q (omega (arith, k, c.listed)) none)
                    in
                    absurd (false≢true (sym off ∙ stretches-from (needle_of ls i) (drop q bytes) c.stretches))
                | inr l ↦ l
              ];
          first_listed = λ i c.
              elim (cases_lt i s.needle) [
                | inl l ↦ absurd (false≢true (sym (u.before i l) ∙ stretches-from (needle_of ls i) (drop s.place bytes) c.stretches))
                | inr l ↦ l
              ];
        }

-- ---- definite hits

module _ (ls : List (List ℕ)) (b : List ℕ) where
  -- an empty needle stands at once, and nothing moves that hit
  pub hit-empty : list_any is_empty ls ≡ true → hit ls b ≡ Some (span 0 0)
  hit-empty e = rw e refl

  pub stretch-empty : list_any is_empty ls ≡ true → stretch_of ls b ≡ None
  stretch-empty e = rw e refl

  -- without an empty needle, `stretch_of` is `first_mover` from place 0
  pub stretch-first : list_any is_empty ls ≡ false → stretch_of ls b ≡ first_mover ls 0 b
  stretch-first e = rw e refl

  -- a definite hit is a hit that nothing can move, in both directions
  pub definite-parts : hit_is_definite ls b ≡ true
      → ((r : Range ℕ) × (hit ls b ≡ Some r)) × (stretch_of ls b ≡ None)
  definite-parts h =
      let p = and_parts (is_some (hit ls b)) (not (is_some (stretch_of ls b))) h in (
        elim (none-or-some (hit ls b)) [ inl e ↦ absurd (false≢true (sym (ap is_some e) ∙ p.0)) | inr e ↦ e ],
        elim (none-or-some (stretch_of ls b)) [ inl e ↦ e | inr e ↦ absurd (false≢true (sym (ap (λ o. not (is_some o)) e.1) ∙ p.1)) ],
      )

  pub definite-from : (r : Range ℕ) → hit ls b ≡ Some r → stretch_of ls b ≡ None
      → hit_is_definite ls b ≡ true
  definite-from r h e = and_from (is_some (hit ls b)) (not (is_some (stretch_of ls b))) (ap is_some h) (ap (λ o. not (is_some o)) e)

-- a hit that nothing can move stays under more input, and nothing can move it there
module _ (ls : List (List ℕ)) (b m : List ℕ) (some : list_any is_empty ls ≡ false) (r : Range ℕ) (h : hit ls b ≡ Some r) (still : (i q : ℕ) → ¬ CanMove ls b r i q) where
  -- the hit as a fact, before more input
  was : IsFirstHit ls b r
  was = first ls b some r h

  -- the hit starts within the bytes
  reach : r.start ≤ length b
  reach = omega (arith, inside ls b some r h)

  -- it is the first hit under more input
  first-more : IsFirstHit ls (b ++ m) r
  first-more =
      record {
        index = was.index;
        listed = was.listed;
        stands = stands-later (needle_of ls was.index) b m r.start reach was.stands;
        whole = was.whole;
        first_listed = λ i l s.
            elim (stands-before (needle_of ls i) b m r.start reach s) [
              | inl t ↦ was.first_listed i l t
              | inr t ↦
                  still i r.start
                  (record { listed = omega (arith, l, was.listed); stretches = t; first = inr (refl, λ j k. was.first_listed j (omega (arith, k, l))) })
            ];
        first_place = λ i k l low s.
            elim (stands-before (needle_of ls i) b m k (omega (arith, low, reach)) s) [
              | inl t ↦ was.first_place i k l low t
              | inr t ↦ still i k (record { listed = l; stretches = t; first = inl low })
            ];
      }

  -- so the search finds it under more input
  hit-still : hit ls (b ++ m) ≡ Some r
  hit-still = (some-says ls (b ++ m) (none-contained ls b some) r).1 first-more

  -- and nothing can move it there
  still-more : (i q : ℕ) → ¬ CanMove ls (b ++ m) r i q
  still-more i q c =
      let within : q ≤ length b = elim c.first [ inl l ↦ omega (arith, l, reach) | inr s ↦ omega (arith, s.0, reach) ] in
      still i q
      (record {
        listed = c.listed;
        stretches = stretches-before (needle_of ls i) b m q within c.stretches;
        first = elim c.first [ inl l ↦ inl l | inr s ↦ inr (s.0, λ j k t. s.1 j k (stands-later (needle_of ls j) b m q within t)) ];
      })

-- `definite_hit_law`: a definite hit stays, and stays definite
pub find-stable : (ls : List (List ℕ)) (b m : List ℕ) → hit_is_definite ls b ≡ true
    → (hit ls (b ++ m) ≡ hit ls b) × (hit_is_definite ls (b ++ m) ≡ true)
find-stable ls b m d =
    let p = definite-parts ls b d in
    elim (cases_Bool (list_any is_empty ls)) [
      | inl e ↦ (hit-empty ls (b ++ m) e ∙ sym (hit-empty ls b e), definite-from ls (b ++ m) (span 0 0) (hit-empty ls (b ++ m) e) (stretch-empty ls (b ++ m) e))
      | inr e ↦
          let r = p.0.0 in
          let still = stretch-none ls b e r p.0.1 (sym (stretch-first ls b e) ∙ p.1) in
          let more = hit-still ls b m e r p.0.1 still in
          let none : stretch_of ls (b ++ m) ≡ None =
          elim (none-or-some (stretch_of ls (b ++ m))) [
            | inl f ↦ f
            | inr f ↦
                let s = stretch-some ls (b ++ m) e r more f.0 (sym (stretch-first ls (b ++ m) e) ∙ f.1) in
                absurd (still-more ls b m e r p.0.1 still f.0.needle f.0.place s.can_move)
          ]
          in
          (more ∙ sym p.0.1, definite-from ls (b ++ m) r more none)
    ]

-- some needle stands at the start of a hit
pub stands-some : (ls : List (List ℕ)) (b : List ℕ) (some : list_any is_empty ls
    ≡ false) (r : Range ℕ) (h : hit ls b ≡ Some r)
    → (n : ℕ) × (needle_at ls (drop r.start b) ≡ Some n)
stands-some ls b some r h =
    let f = first ls b some r h in
    elim (none-or-some (needle_at ls (drop r.start b))) [
      | inl e ↦ absurd (false≢true (sym (no-needle ls (drop r.start b) e f.index f.listed) ∙ is_prefix-IsPrefixOf (needle_of ls f.index) (drop r.start b) f.stands))
      | inr e ↦ e
    ]

-- before the place of a needle that could move the hit none stands, no matter what input follows
module _ (ls : List (List ℕ)) (b : List ℕ) (r : Range ℕ) (s : Stretch) (h : hit ls b ≡ Some r) (e : stretch_of ls b ≡ Some s) where
  -- no needle is empty, as there is a stretch
  some-byte : list_any is_empty ls ≡ false
  some-byte = false_from_ne_true (list_any is_empty ls) (λ y. none-some s (sym (stretch-empty ls b y) ∙ e))

  -- the stretch as a fact
  least-stretch : IsStretch ls b r s
  least-stretch = stretch-some ls b some-byte r h s (sym (stretch-first ls b some-byte) ∙ e)

  -- the stretch is no later than the hit, and within the bytes
  low : s.place ≤ r.start
  low = elim least-stretch.can_move.first [ inl l ↦ omega (arith, l) | inr l ↦ omega (arith, l.0) ]

  pub stretch-within : s.place ≤ length b
  stretch-within = omega (arith, low, inside ls b some-byte r h)

  -- no needle stands before the stretch, under any further input
  pub none-before_stretch : (m : List ℕ) (i : ℕ) → i < s.place
      → needle_at ls (drop i (b ++ m)) ≡ None
  none-before_stretch m i l =
      let first = first ls b some-byte r h in
      needle_at-nowhere ls (drop i (b ++ m)) (λ j k. no_front (needle_of ls j) (drop i (b ++ m)) (λ t.
      elim (stands-before (needle_of ls j) b m i (omega (arith, l, stretch-within)) t) [
        | inl u ↦ first.first_place j i k (omega (arith, l, low)) u
        | inr u ↦
            let least = least-stretch.least j i (record { listed = k; stretches = u; first = inl (omega (arith, l, low)) }) in
            omega (arith, l, least)
      ]))
