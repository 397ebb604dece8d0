-- Appending the missing bytes changes a search's answer.
use Rattle.std.proofs.Common.{◌≡◌, ℕ, ◌-◌, ◌≤◌, ◌<◌, false, List, [], ◌++◌, length, drop, Some, None, refl, ap, sym, ◌∙◌, arith, subst, inl, inr, length-drop}
use Rattle.std.specs.List.{list_any}
use Rattle.std.specs.declared.ops.Range.{Range}
use Rattle.std.proofs.lemmas.Bool.{false≢true, cases_Bool, cases_lt}
use Rattle.std.proofs.lemmas.Option.{none-some}
use Rattle.std.proofs.lemmas.List.{drop_all, drop-append-le, append-nil}
use Rattle.winnow_stream.specs.Span.{span}
use Rattle.winnow_match.specs.Search.{is_empty, needle_of, hit, Occurs}
use Rattle.winnow_match.specs.declared.needles.Stretch.{Stretch}
use Rattle.winnow_match.specs.Stretch.{stretch_of, hit_is_definite, Stretches, CanMove}
use Rattle.winnow_match.proofs.lemmas.ByteFrontLemmas.{is_prefix-IsPrefixOf, front_rest, length-front}
use Rattle.winnow_match.proofs.lemmas.HitLemmas.{none-says}
use Rattle.winnow_match.proofs.lemmas.StretchLemmas.{none-or-some}
use Rattle.winnow_match.proofs.lemmas.MoveLemmas.{first, fits, inside, stands-before, none-contained, stretch-some, hit-empty, stretch-first, stretch-empty, definite-from}
use Rattle.winnow_script_attempt.specs.Missing.{needle_missing}

-- a needle that stretches occurs once its rest follows
module _ (n b : List ℕ) (q : ℕ) (within : q ≤ length b) (s : Stretches n b q) where
  -- what is there of the needle, then the rest, is the needle
  rest-is : drop q b ++ drop (length b - q) n ≡ n
  rest-is =
      let e : length b - q ≡ length (drop q b) = omega (arith, length-drop q b) in
      ap (λ k. drop q b ++ drop k n) e ∙ sym (front_rest (drop q b) n (is_prefix-IsPrefixOf (drop q b) n s.0))

  -- the needle occurs at its place once its rest follows
  stands-rest : Occurs n (b ++ drop (length b - q) n) q
  stands-rest = ([], drop-append-le q b (drop (length b - q) n) within ∙ rest-is ∙ sym (append-nil n))

module _ (ls : List (List ℕ)) (b : List ℕ) (some : list_any is_empty ls ≡ false) (r : Range ℕ) (h : hit ls b ≡ Some r) (i q : ℕ) (c : CanMove ls b r i q) where
  -- the needle that can move the hit
  it : List ℕ
  it = needle_of ls i

  -- the hit changes its place, or its length at the same place
  moves : (m : List ℕ) → Occurs (needle_of ls i) (b ++ m) q → ¬ (hit ls (b ++ m) ≡ Some r)
  moves m s g =
      let old = first ls b some r h in
      let new = first ls (b ++ m) some r g in
      let reach : r.start ≤ length b = omega (arith, inside ls b some r h) in
      elim c.first [
        | inl l ↦ new.first_place i q c.listed l s
        | inr f ↦
            let same : Occurs (needle_of ls i) (b ++ m) r.start = subst (Occurs (needle_of ls i) (b ++ m)) f.0 s in
            let low : new.index ≤ i = elim (cases_lt i new.index) [ inl l ↦ absurd (new.first_listed i l same) | inr l ↦ l ] in
            let absent : ¬ Occurs (needle_of ls new.index) b q =
            λ t. elim (cases_lt new.index i) [
              | inl l ↦ f.1 new.index l t
              | inr l ↦
                  let e : new.index ≡ i = omega (arith, l, low) in
                  let u : Occurs (needle_of ls i) b q = subst (λ j. Occurs (needle_of ls j) b q) e t in
                  let long = length-front (needle_of ls i) (drop q b) (is_prefix-IsPrefixOf (needle_of ls i) (drop q b) u) in
                  omega (arith, long, c.stretches.1)
            ]
            in
            elim (stands-before (needle_of ls new.index) b m r.start reach new.stands) [
              | inl t ↦ absent (subst (Occurs (needle_of ls new.index) b) (sym f.0) t)
              | inr t ↦ omega (arith, t.1, fits ls b some r h, old.whole, new.whole)
            ]
      ]

-- if there is no hit, appending the first needle makes one
none-moves : (ls : List (List ℕ)) (b : List ℕ) → 0 < length ls → hit ls b ≡ None
    → ¬ (hit ls (b ++ needle_of ls 0) ≡ None)
none-moves ls b l h g =
    elim (cases_Bool (list_any is_empty ls)) [
      | inl e ↦ none-some (span 0 0) (sym h ∙ hit-empty ls b e)
      | inr e ↦
          let nowhere = (none-says ls (b ++ needle_of ls 0) (none-contained ls b e)).0 g in
          let at : drop (length b) (b ++ needle_of ls 0) ≡ needle_of ls 0 ++ [] = drop-append-le (length b) b (needle_of ls 0) (omega arith) ∙ ap (λ xs. xs ++ needle_of ls 0) (drop_all (length b) b (omega arith)) ∙ sym (append-nil (needle_of ls 0)) in
          nowhere 0 (length b) l ([], at)
    ]

-- a search that is not definite answers differently when the missing bytes are appended
pub needle-changes : (ls : List (List ℕ)) (b : List ℕ) → 0 < length ls
    → hit_is_definite ls b ≡ false → ¬ (hit ls (b ++ needle_missing ls b) ≡ hit ls b)
needle-changes ls b l d g =
    elim (none-or-some (hit ls b)) [
      | inl e ↦
          let c : needle_missing ls b ≡ needle_of ls 0 = rw e refl in
          none-moves ls b l e (ap (λ m. hit ls (b ++ m)) (sym c) ∙ g ∙ e)
      | inr e ↦ elim (none-or-some (stretch_of ls b)) [
        | inl f ↦ false≢true (sym d ∙ definite-from ls b e.0 e.1 f)
        | inr f ↦ elim (cases_Bool (list_any is_empty ls)) [
          | inl p ↦ none-some f.0 (sym (stretch-empty ls b p) ∙ f.1)
          | inr p ↦
              let s : Stretch = f.0 in
              let m : List ℕ = drop (length b - s.place) (needle_of ls s.needle) in
              let c : needle_missing ls b ≡ m = rw (e.1, f.1) refl in
              let t = stretch-some ls b p e.0 e.1 s (sym (stretch-first ls b p) ∙ f.1) in
              let w = inside ls b p e.0 e.1 in
              let within : s.place ≤ length b = elim t.can_move.first [ inl k ↦ omega (arith, k, w) | inr k ↦ omega (arith, k.0, w) ] in
              let stands : Occurs (needle_of ls s.needle) (b ++ m) s.place = stands-rest (needle_of ls s.needle) b s.place within t.can_move.stretches in
              moves ls b p e.0 e.1 s.needle s.place t.can_move m stands (ap (λ x. hit ls (b ++ x)) (sym c) ∙ g ∙ e.1)
        ]
      ]
    ]
