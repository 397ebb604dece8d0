-- The first range with a number up to `greatest`: its lower bound is in the set; without one, no
-- such number is.
use Rattle.std.proofs.Common.{◌≡◌, ℕ, ◌≤◌, true, false, List, [], ◌∷◌, Some, None, refl, ap, sym, ◌∙◌, arith, inl, inr}
use Rattle.std.specs.Prelude.{nat_le}
use Rattle.std.specs.Int.{is_in_range}
use Rattle.std.proofs.lemmas.Bool.{and_parts, and_from, or_left, or_right, false≢true, cases_Bool, leb-true, le-leb}
use Rattle.std.proofs.lemmas.Option.{same_Some, none-some}
use Rattle.winnow_sets.specs.Sets.{holds_up_to, in_ranges, least_of_first}

-- the lower bound of that range is in the set
pub least_held : (greatest : ℕ) (ranges : List (ℕ × ℕ)) (t : ℕ)
    → least_of_first greatest ranges ≡ Some t → in_ranges ranges t ≡ true
least_held greatest [] t e = absurd (none-some t e)
least_held greatest (first ∷ ranges) t e =
    elim (cases_Bool (holds_up_to greatest first)) [
      | inl passes ↦
          let same : first.0 ≡ t = same_Some first.0 t (rw passes at e) in
          let p = and_parts (nat_le first.0 first.1) (nat_le first.0 greatest) passes in
          let here : is_in_range first.0 first.1 first.0 ≡ true = and_from (nat_le first.0 first.0) (nat_le first.0 first.1) (le-leb first.0 first.0 (omega (arith))) p.0 in
          ap (in_ranges (first ∷ ranges)) (sym same) ∙ or_left (is_in_range first.0 first.1 first.0) (in_ranges ranges first.0) here
      | inr fails ↦ or_right (is_in_range first.0 first.1 t) (in_ranges ranges t) (least_held greatest ranges t (rw fails at e))
    ]

-- that lower bound is at most `greatest`
pub least_within : (greatest : ℕ) (ranges : List (ℕ × ℕ)) (t : ℕ)
    → least_of_first greatest ranges ≡ Some t → t ≤ greatest
least_within greatest [] t e = absurd (none-some t e)
least_within greatest (first ∷ ranges) t e =
    elim (cases_Bool (holds_up_to greatest first)) [
      | inl passes ↦
          let same : first.0 ≡ t = same_Some first.0 t (rw passes at e) in
          let low = leb-true first.0 greatest (and_parts (nat_le first.0 first.1) (nat_le first.0 greatest) passes).1 in
          rw same at low
      | inr fails ↦ least_within greatest ranges t (rw fails at e)
    ]

-- without such a range, no number up to `greatest` is in the set
pub none_held : (greatest : ℕ) (ranges : List (ℕ × ℕ)) → least_of_first greatest ranges ≡ None
    → (c : ℕ) → c ≤ greatest → in_ranges ranges c ≡ false
none_held greatest [] e c low = refl
none_held greatest (first ∷ ranges) e c low =
    elim (cases_Bool (holds_up_to greatest first)) [
      | inl passes ↦ absurd (none-some first.0 (sym (rw passes at e)))
      | inr fails ↦
          let later = none_held greatest ranges (rw fails at e) c low in
          let here : is_in_range first.0 first.1 c ≡ false =
          elim (cases_Bool (is_in_range first.0 first.1 c)) [
            | inl inside ↦
                let p = and_parts (nat_le first.0 c) (nat_le c first.1) inside in
                let begins = leb-true first.0 c p.0 in
                let ends = leb-true c first.1 p.1 in
                absurd (false≢true (sym fails ∙ and_from (nat_le first.0 first.1) (nat_le first.0 greatest) (le-leb first.0 first.1 (omega (arith, begins, ends))) (le-leb first.0 greatest (omega (arith, begins, low)))))
            | inr out ↦ out
          ]
          in
          rw (here, later) refl
    ]
