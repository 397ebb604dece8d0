-- A list that more tokens follow: its fronts stay what they were.
use Rattle.std.specs.Prelude.{◌≡◌, ℕ, ◌+◌, ◌-◌, ◌==◌, nat_le, Bool, true, false, cond, [], ◌∷◌, ◌++◌, take, drop, Option, Some, None, option_map, is_some, unwrap_or, IsTrue}
use Rattle.std.proofs.Common.{suc, ◌≤◌, length, refl, ap, sym, ◌∙◌, inl, inr, arith}
use Rattle.std.proofs.lemmas.Bool.Decides.{eqb_tells}
use Rattle.std.proofs.lemmas.List.{take-append-le, drop-append-le}
use Rattle.winnow_stream.specs.Source.{Source}
use Rattle.winnow_stream.specs.Front.{front_count, is_offset, count_to, front, back}

-- a slice of a list is that slice of each longer list
abbrev pub SlicesStay : {S T : Type 0} → (S → Source T → ℕ → Type 0) → Type 0
SlicesStay {S} {T} is_slice = (s : S) (r more : Source T) (n : ℕ) → IsTrue (is_offset r n) → is_slice s r n → is_slice s (r ++ more) n

-- the step of `count_to-le`: one token adds at most 1 to the number of tokens
count-bound : (b c : Bool) (o : Option ℕ) (m : ℕ) → unwrap_or o 0 ≤ m
    → unwrap_or (cond b (Some 0) (cond c (option_map (λ k. k + 1) o) None)) 0 ≤ suc m
count-bound true c o m h = omega arith
count-bound false true None m h = omega arith
count-bound false true (Some k) m h = omega (arith, h)
count-bound false false o m h = omega arith

-- a front has no more tokens than the list
pub count_to-le : {T : Type 0} (r : Source T) (n : ℕ) → count_to r n ≤ length r
count_to-le [] n = elim (eqb_tells n 0) [ inl p ↦ rw p.0 (omega arith) | inr p ↦ rw p.0 (omega arith) ]
count_to-le (x ∷ xs) n = count-bound (n == 0) (nat_le x.1 n) (front_count xs (n - x.1)) (length xs) (count_to-le xs (n - x.1))

-- the step of `front_count-longer`: if the later front is found, more tokens change nothing
found-step : (b c : Bool) (o longer : Option ℕ) → (is_some o ≡ true → longer ≡ o)
    → is_some (cond b (Some 0) (cond c (option_map (λ k. k + 1) o) None)) ≡ true
    → cond b (Some 0) (cond c (option_map (λ k. k + 1) longer) None)
    ≡ cond b (Some 0) (cond c (option_map (λ k. k + 1) o) None)
found-step true c o longer e h = refl
found-step false true None longer e h = absurd (cc)
found-step false true (Some k) longer e h = ap (option_map (λ k. k + 1)) (e refl)
found-step false false o longer e h = absurd (cc)

-- the front of width 0 has no token
none-front : {T : Type 0} (r : Source T) (n : ℕ) → (n == 0) ≡ true → front_count r n ≡ Some 0
none-front [] n e = rw e refl
none-front (x ∷ xs) n e = rw e refl

-- the front of width n has as many tokens as before
pub front_count-longer : {T : Type 0} (r more : Source T) (n : ℕ) → IsTrue (is_offset r n)
    → front_count (r ++ more) n ≡ front_count r n
front_count-longer {T} [] more n h =
    elim (eqb_tells n 0) [
      | inl p ↦ none-front more n p.0 ∙ sym (none-front {T = T} [] n p.0)
      | inr p ↦ let f : is_some (cond (n == 0) (Some 0) None) ≡ true = h in absurd (let g = rw p.0 at f in cc)
    ]
front_count-longer (x ∷ xs) more n h =
    found-step (n == 0) (nat_le x.1 n) (front_count xs (n - x.1)) (front_count (xs ++ more) (n - x.1)) (front_count-longer xs more (n - x.1)) h

-- an offset of a list is an offset of each longer list
pub is_offset-longer : {T : Type 0} (r more : Source T) (n : ℕ) → IsTrue (is_offset r n)
    → IsTrue (is_offset (r ++ more) n)
is_offset-longer r more n h = ap is_some (front_count-longer r more n h) ∙ h

-- the front of width n is the same
pub front-longer : {T : Type 0} (r more : Source T) (n : ℕ) → IsTrue (is_offset r n)
    → front (r ++ more) n ≡ front r n
front-longer r more n h =
    ap (λ o. take (unwrap_or o 0) (r ++ more)) (front_count-longer r more n h) ∙ take-append-le (count_to r n) r more (count_to-le r n)

-- what follows the front has the further tokens appended
pub back-longer : {T : Type 0} (r more : Source T) (n : ℕ) → IsTrue (is_offset r n)
    → back (r ++ more) n ≡ back r n ++ more
back-longer r more n h =
    ap (λ o. drop (unwrap_or o 0) (r ++ more)) (front_count-longer r more n h) ∙ drop-append-le (count_to r n) r more (count_to-le r n)

-- slices that their tokens determine stay slices of each longer list
pub SlicesStay-front : {S T : Type 0} (tokens : S → Source T)
    → SlicesStay (λ s r n. tokens s ≡ front r n)
SlicesStay-front tokens s r more n offset e = e ∙ sym (front-longer r more n offset)
