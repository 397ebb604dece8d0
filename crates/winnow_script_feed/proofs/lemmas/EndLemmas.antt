-- The ends of marks, step by step.
use Rattle.std.proofs.Common.{◌≡◌, ℕ, ◌+◌, ◌≤◌, ◌<◌, List, length, length-set, set, get_or, refl, sym, ap, ◌∙◌, arith, inl, inr, subst}
use Rattle.std.specs.Prelude.{Option, None, Some, slice_get}
use Rattle.std.proofs.lemmas.Bool.{cases_lt, cases_eq, lt-ltb, le-ltb}
use Rattle.std.proofs.lemmas.List.{get_or-set_same, get_or-set_other}
use Rattle.std.proofs.lemmas.Option.{none-some, same_Some}
use Rattle.winnow_script_run.specs.declared.search_steps.SearchStep.{SearchStep}
use Rattle.winnow_script_feed.specs.Reach.{step_mark}
use Rattle.winnow_script_feed.specs.NamedMarks.{Names, AreEnds, ended}

module _ {C L : Type 0} (steps : List (SearchStep C L)) (ends : List ℕ) (i : ℕ) (s : SearchStep C L) (h : AreEnds steps i ends) (is : slice_get steps i ≡ Some s) where
  -- step i names what s names
  names-here : (k : ℕ) → Names steps i k → step_mark s ≡ Some k
  names-here k n = ap step_mark (same_Some s n.step (sym is ∙ n.is)) ∙ n.names

  -- a step before the next is one of the earlier ones or this one
  last-of : (later : List ℕ) (j k : ℕ) → j < i + 1
      → (j < i → j < get_or later k 0) → (j ≡ i → j < get_or later k 0) → j < get_or later k 0
  last-of later j k l before here =
      elim (cases_eq j i) [
        | inl same ↦ here same
        | inr other ↦ before (omega (arith, l, other))
      ]

  -- a step that names no mark, or none that can be made, changes nothing
  AreEnds-same : ((k : ℕ) → k < length ends → step_mark s ≡ Some k → ⊥) → AreEnds steps (i + 1) ends
  AreEnds-same none = record {
    named = h.named;
    last = λ j k l m n. last-of ends j k l (λ b. h.last j k b m n) (λ e. absurd (none k m (names-here k (subst (λ x. Names steps x k) e n))));
  }

  -- a step that names a mark is its last so far
  AreEnds-set : (x : ℕ) → step_mark s ≡ Some x → x < length ends
      → AreEnds steps (i + 1) (set ends x (i + 1))
  AreEnds-set x e l = record {
    named = λ k end g. elim (cases_eq k x) [
      | inl same ↦
          let at : i ≡ end = omega (arith, g, ap (λ j. get_or (set ends x (i + 1)) j 0) same, get_or-set_same ends x (i + 1) 0 l) in
          subst (λ j. Names steps j k) at (record { step = s; is = is; names = e ∙ ap Some (sym same) })
      | inr other ↦ h.named k end (sym (get_or-set_other ends x k (i + 1) 0 other) ∙ g)
    ];
    last = λ j k b m n. elim (cases_eq k x) [
      | inl same ↦ omega (arith, b, ap (λ j. get_or (set ends x (i + 1)) j 0) same, get_or-set_same ends x (i + 1) 0 l)
      | inr other ↦ last-of (set ends x (i + 1)) j k b (λ c. omega (arith, get_or-set_other ends x k (i + 1) 0 other, h.last j k c (omega (arith, m, length-set ends x (i + 1))) n)) (λ c. absurd (other (same_Some k x (sym (names-here k (subst (λ y. Names steps y k) c n)) ∙ e))))
    ];
  }

  -- one more step
  pub AreEnds-more : (mark : Option ℕ) → step_mark s ≡ mark
      → AreEnds steps (i + 1) (ended ends mark (i + 1))
  AreEnds-more None e = AreEnds-same (λ k l n. none-some k (sym e ∙ n))
  AreEnds-more (Some x) e =
      elim (cases_lt x (length ends)) [
        | inl l ↦ rw (lt-ltb x (length ends) l) (AreEnds-set x e l)
        | inr l ↦ rw (le-ltb x (length ends) l) (AreEnds-same (λ k m n. let same = same_Some k x (sym n ∙ e) in omega (arith, same, m, l)))
      ]

-- as many ends as before
pub length-ended : (ends : List ℕ) (mark : Option ℕ) (end : ℕ)
    → length (ended ends mark end) ≡ length ends
length-ended ends None end = refl
length-ended ends (Some x) end =
    elim (cases_lt x (length ends)) [
      | inl l ↦ rw (lt-ltb x (length ends) l) (length-set ends x end)
      | inr l ↦ rw (le-ltb x (length ends) l) refl
    ]

-- the ends after some steps are those after fewer that all of them are past
pub AreEnds-fewer : {C L : Type 0} (steps : List (SearchStep C L)) (ends : List ℕ) (n i : ℕ) → n ≤ i
    → AreEnds steps i ends → AreEnds steps n ends
AreEnds-fewer steps ends n i l h = record { named = h.named; last = λ j k m. h.last j k (omega (arith, m, l)) }
