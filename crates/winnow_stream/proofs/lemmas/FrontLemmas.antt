-- The fronts of a source: the widths that they have, and what they leave.
use Rattle.std.proofs.Common.{◌≡◌, ℕ, zero, suc, ◌+◌, ◌-◌, ◌≤◌, ◌==◌, Bool, true, false, ◌&&◌, cond, List, [], ◌∷◌, ◌++◌, length, take, drop, refl, ap, sym, ◌∙◌, arith, subst, Option, Some, None, add-one, leb-true, inl, inr, length-drop, take_all}
use Rattle.std.specs.Prelude.{nat_le, option_map, is_some, unwrap_or}
use Rattle.std.proofs.lemmas.Bool.{and_parts}
use Rattle.std.proofs.lemmas.Bool.Decides.{nat_tests, eqb_tells}
use Rattle.std.proofs.lemmas.List.{append-nil, drop_all, drop-drop}
use Rattle.winnow_stream.specs.Source.{width, HasPositiveWidths, IsEndOf}
use Rattle.winnow_stream.specs.Front.{HasFront, front_count, is_offset, count_to, front, back}
use Rattle.winnow_stream.specs.Longer.{count_to-le}

-- the test and the count of a front, read off one step of `front_count`
offset-parts : (b c : Bool) (o : Option ℕ)
    → is_some (cond b (Some 0) (cond c (option_map (λ k. k + 1) o) None))
    ≡ cond b true (c && is_some o)
offset-parts true c o = refl
offset-parts false true None = refl
offset-parts false true (Some k) = refl
offset-parts false false o = refl

count-parts : (b c : Bool) (o : Option ℕ)
    → is_some (cond b (Some 0) (cond c (option_map (λ k. k + 1) o) None)) ≡ true
    → unwrap_or (cond b (Some 0) (cond c (option_map (λ k. k + 1) o) None)) 0
    ≡ cond b 0 (unwrap_or o 0 + 1)
count-parts true c o h = refl
count-parts false true None h = absurd (cc)
count-parts false true (Some k) h = refl
count-parts false false o h = absurd (cc)

-- an option that is not `Some` is `None`, and one that is holds its own value
none-parts : (o : Option ℕ) → is_some o ≡ false → o ≡ None
none-parts None h = refl
none-parts (Some k) h = absurd (cc)

some-parts : (o : Option ℕ) → is_some o ≡ true → o ≡ Some (unwrap_or o 0)
some-parts None h = absurd (cc)
some-parts (Some k) h = refl

-- sums and differences that the cases of `front_count` come down to
minus-none : (n : ℕ) → n - 0 ≡ n
minus-none n = omega arith

more-none : (o : Option ℕ) → o ≡ option_map (λ k. 0 + k) o
more-none None = refl
more-none (Some k) = ap Some (omega arith)

more-one : (n : ℕ) (o : Option ℕ)
    → option_map (λ k. k + 1) (option_map (λ k. n + k) o) ≡ option_map (λ k. suc n + k) o
more-one n None = refl
more-one n (Some k) = ap Some (omega arith)

more-some : (n : ℕ) (o : Option ℕ) → is_some (option_map (λ k. n + k) o) ≡ is_some o
more-some n None = refl
more-some n (Some k) = refl

module _ {A : Type 0} where
  -- the test and the count of a front of a list with a first token
  pub is_offset-cons : (x : A × ℕ) (xs : List (A × ℕ)) (n : ℕ)
      → is_offset (x ∷ xs) n ≡ cond (n == 0) true (nat_le x.1 n && is_offset xs (n - x.1))
  is_offset-cons x xs n = offset-parts (n == 0) (nat_le x.1 n) (front_count xs (n - x.1))

  pub count_to-cons : (x : A × ℕ) (xs : List (A × ℕ)) (n : ℕ) → is_offset (x ∷ xs) n ≡ true
      → count_to (x ∷ xs) n ≡ cond (n == 0) 0 (count_to xs (n - x.1) + 1)
  count_to-cons x xs n h = count-parts (n == 0) (nat_le x.1 n) (front_count xs (n - x.1)) h

  -- `front_count` as the test and the count
  pub front_count-found : (r : List (A × ℕ)) (n : ℕ) → is_offset r n ≡ true
      → front_count r n ≡ Some (count_to r n)
  front_count-found r n h = some-parts (front_count r n) h

  pub front_count-missing : (r : List (A × ℕ)) (n : ℕ) → is_offset r n ≡ false
      → front_count r n ≡ None
  front_count-missing r n h = none-parts (front_count r n) h

  -- the front of the width of some tokens, before any others, is those tokens
  pub front_count-seam : (xs ys : List (A × ℕ)) → HasPositiveWidths xs
      → front_count (xs ++ ys) (width xs) ≡ Some (length xs)
  front_count-seam [] [] h = refl
  front_count-seam [] (y ∷ ys) h = refl
  front_count-seam (x ∷ xs) ys h =
      let w : ℕ = width xs in
      let a : (x.1 + w == 0) ≡ false = grind (arith, nat_tests, h.0) in
      let b : (x.1 + w) - x.1 ≡ w = omega arith in
      let d : nat_le x.1 (x.1 + w) ≡ true = grind (arith, nat_tests) in
      rw a (rw d (rw b (rw (front_count-seam xs ys h.1) (ap Some (omega arith)))))

  -- the width of some tokens is an offset of each list that begins with them
  pub is_offset-seam : (xs ys : List (A × ℕ)) → HasPositiveWidths xs
      → is_offset (xs ++ ys) (width xs) ≡ true
  is_offset-seam xs ys h = ap is_some (front_count-seam xs ys h)

  pub count_to-seam : (xs ys : List (A × ℕ)) → HasPositiveWidths xs
      → count_to (xs ++ ys) (width xs) ≡ length xs
  count_to-seam xs ys h = ap (λ o. unwrap_or o 0) (front_count-seam xs ys h)

  -- the front of the width of the first i tokens has i tokens
  pub front_count-place : (r : List (A × ℕ)) (i : ℕ) → HasPositiveWidths r → i ≤ length r
      → front_count r (width (take i r)) ≡ Some i
  front_count-place [] zero h l = refl
  front_count-place [] (suc i) h l = absurd (omega arith)
  front_count-place (x ∷ xs) zero h l = refl
  front_count-place (x ∷ xs) (suc i) h l =
      let w : ℕ = width (take i xs) in
      let a : (x.1 + w == 0) ≡ false = grind (arith, nat_tests, h.0) in
      let b : (x.1 + w) - x.1 ≡ w = omega arith in
      let d : nat_le x.1 (x.1 + w) ≡ true = grind (arith, nat_tests) in
      rw a (rw d (rw b (rw (front_count-place xs i h.1 (omega arith)) (ap Some (omega arith)))))

  -- the width of the first i tokens counts i tokens
  pub count_to-place : (r : List (A × ℕ)) (i : ℕ) → HasPositiveWidths r → i ≤ length r
      → count_to r (width (take i r)) ≡ i
  count_to-place r i h l = ap (λ o. unwrap_or o 0) (front_count-place r i h l)

  -- a front has its width
  pub width-front : (r : List (A × ℕ)) (n : ℕ) → is_offset r n ≡ true → width (front r n) ≡ n
  width-front [] n h =
      elim (eqb_tells n 0) [
        | inl p ↦ rw p.0 (sym p.1)
        | inr p ↦ let f : is_some (cond (n == 0) (Some 0) None) ≡ true = h in absurd (let g = rw p.0 at f in cc)
      ]
  width-front (x ∷ xs) n h =
      elim (eqb_tells n 0) [
        | inl p ↦ rw p.0 (sym p.1)
        | inr p ↦
            let c : (nat_le x.1 n && is_offset xs (n - x.1)) ≡ true = sym (ap (λ b. cond b true (nat_le x.1 n && is_offset xs (n - x.1))) p.0) ∙ sym (is_offset-cons x xs n) ∙ h in
            let parts = and_parts (nat_le x.1 n) (is_offset xs (n - x.1)) c in
            let e = width-front xs (n - x.1) parts.1 in
            let l : x.1 ≤ n = leb-true _ _ parts.0 in
            let k : count_to (x ∷ xs) n ≡ count_to xs (n - x.1) + 1 = count_to-cons x xs n h ∙ ap (λ b. cond b 0 (count_to xs (n - x.1) + 1)) p.0 in
            ap (λ m. width (take m (x ∷ xs))) (k ∙ add-one _) ∙ omega (arith, e, l)
      ]

  -- the width of two lists in a row
  pub width-append : (p q : List (A × ℕ)) → width (p ++ q) ≡ width p + width q
  width-append [] q = omega arith
  width-append (x ∷ p) q = omega (arith, width-append p q)

  -- the widths of a front and of what follows it sum to the whole width
  pub width-take_drop : (r : List (A × ℕ)) (i : ℕ) → width (take i r) + width (drop i r) ≡ width r
  width-take_drop r zero = omega arith
  width-take_drop [] (suc i) = refl
  width-take_drop (x ∷ xs) (suc i) = let e = width-take_drop xs i in omega (arith, e)

  -- a front's width and what follows it sum to the whole width
  pub width-back : (r : List (A × ℕ)) (n : ℕ) → is_offset r n ≡ true
      → n + width (back r n) ≡ width r
  width-back r n h = omega (arith, width-front r n h, width-take_drop r (count_to r n))

  -- what is left after k tokens is no wider than the whole
  pub width-drop_le : (r : List (A × ℕ)) (k : ℕ) → width (drop k r) ≤ width r
  width-drop_le r k = omega (arith, width-take_drop r k)

  -- an end of a list is no wider than the list
  pub width-end : (r whole : List (A × ℕ)) → IsEndOf r whole → width r ≤ width whole
  width-end r whole e = omega (arith, ap width e.1, width-drop_le whole e.0)

  -- the whole width is an offset
  pub is_offset-whole : (r : List (A × ℕ)) → HasPositiveWidths r → is_offset r (width r) ≡ true
  is_offset-whole r h = subst (λ xs. is_offset xs (width r) ≡ true) (append-nil r) (is_offset-seam r [] h)

  -- nothing follows the front of the whole width
  pub back-whole : (r : List (A × ℕ)) → HasPositiveWidths r → back r (width r) ≡ []
  back-whole r h =
      let e : count_to r (width r) ≡ length r = subst (λ xs. count_to xs (width r) ≡ length r) (append-nil r) (count_to-seam r [] h) in
      ap (λ n. drop n r) e ∙ drop_all (length r) r (omega arith)

  -- what follows the first i tokens is the list without them
  pub back-place : (r : List (A × ℕ)) (i : ℕ) → HasPositiveWidths r → i ≤ length r
      → back r (width (take i r)) ≡ drop i r
  back-place r i h l = ap (λ n. drop n r) (count_to-place r i h l)

  -- the front of the width of the first i tokens is those tokens
  pub front-place : (r : List (A × ℕ)) (i : ℕ) → HasPositiveWidths r → i ≤ length r
      → front r (width (take i r)) ≡ take i r
  front-place r i h l = ap (λ n. take n r) (count_to-place r i h l)

  -- a front that is taken from place i leaves a later place of the same list
  pub back-drop : (r : List (A × ℕ)) (i n : ℕ)
      → back (drop i r) n ≡ drop (i + count_to (drop i r) n) r
  back-drop r i n = drop-drop (count_to (drop i r) n) i r

  -- that place is within the list
  pub within-back : (r : List (A × ℕ)) (i n : ℕ) → i ≤ length r
      → i + count_to (drop i r) n ≤ length r
  within-back r i n h = omega (arith, count_to-le (drop i r) n, length-drop i r)

  -- the front of the whole width is the whole
  pub front-whole : (r : List (A × ℕ)) → HasPositiveWidths r → front r (width r) ≡ r
  front-whole r h =
      let e : count_to r (width r) ≡ length r = subst (λ xs. count_to xs (width r) ≡ length r) (append-nil r) (count_to-seam r [] h) in
      ap (λ n. take n r) e ∙ take_all (length r) r (omega arith)

  -- the test and the fact that a front has the width agree
  pub HasFront-is_offset : (r : List (A × ℕ)) (n : ℕ) → is_offset r n ≡ true → HasFront r n
  HasFront-is_offset r n h = (count_to r n, (count_to-le r n, width-front r n h))

  -- if some front has the width, the test says so
  pub is_offset-HasFront : (r : List (A × ℕ)) (n : ℕ) → HasPositiveWidths r → HasFront r n
      → is_offset r n ≡ true
  is_offset-HasFront r n w f = subst (λ m. is_offset r m ≡ true) f.1.1 (ap is_some (front_count-place r f.0 w f.1.0))

  -- positive widths stay positive when tokens are dropped
  pub HasPositiveWidths-drop : (k : ℕ) (r : List (A × ℕ)) → HasPositiveWidths r
      → HasPositiveWidths (drop k r)
  HasPositiveWidths-drop zero r h = h
  HasPositiveWidths-drop (suc k) [] h = h
  HasPositiveWidths-drop (suc k) (x ∷ xs) h = HasPositiveWidths-drop k xs h.1

  -- the tokens up to a further offset are those up to the nearer one and those from there on
  front_count-on : (r : List (A × ℕ)) (a b : ℕ) → is_offset r a ≡ true → a ≤ b
      → front_count r b ≡ option_map (λ k. count_to r a + k) (front_count (back r a) (b - a))
  front_count-on [] a b h l =
      elim (eqb_tells a 0) [
        | inl p ↦ rw p.1 (rw (minus-none b) (more-none (front_count {T = A} [] b)))
        | inr p ↦ let f : is_some (cond (a == 0) (Some 0) None) ≡ true = h in absurd (let g = rw p.0 at f in cc)
      ]
  front_count-on (x ∷ xs) a b h l =
      elim (eqb_tells a 0) [
        | inl p ↦ rw p.1 (rw (minus-none b) (more-none (front_count (x ∷ xs) b)))
        | inr p ↦
            let c : (nat_le x.1 a && is_offset xs (a - x.1)) ≡ true = sym (ap (λ t. cond t true (nat_le x.1 a && is_offset xs (a - x.1))) p.0) ∙ sym (is_offset-cons x xs a) ∙ h in
            let parts = and_parts (nat_le x.1 a) (is_offset xs (a - x.1)) c in
            let w : x.1 ≤ a = leb-true _ _ parts.0 in
            let k : count_to (x ∷ xs) a ≡ suc (count_to xs (a - x.1)) = count_to-cons x xs a h ∙ ap (λ t. cond t 0 (count_to xs (a - x.1) + 1)) p.0 ∙ add-one _ in
            let e = front_count-on xs (a - x.1) (b - x.1) parts.1 (omega (arith, l, w)) in
            let d : (b - x.1) - (a - x.1) ≡ b - a = omega (arith, w, l) in
            let z : (b == 0) ≡ false = grind (arith, nat_tests, p.0, l) in
            let m : nat_le x.1 b ≡ true = grind (arith, nat_tests, w, l) in
            subst (λ n. cond (b == 0) (Some 0) (cond (nat_le x.1 b) (option_map (λ j. j + 1) (front_count xs (b - x.1))) None) ≡ option_map (λ j. n + j) (front_count (drop n (x ∷ xs)) (b - a))) (sym k)
            (rw z (rw m (rw e (rw d (more-one (count_to xs (a - x.1)) (front_count (back xs (a - x.1)) (b - a)))))))
      ]

  -- the offsets after a front are the further offsets of the whole, and leave the same
  pub is_offset-on : (r : List (A × ℕ)) (a b : ℕ) → is_offset r a ≡ true → a ≤ b
      → is_offset (back r a) (b - a) ≡ is_offset r b
  is_offset-on r a b h l = sym (ap is_some (front_count-on r a b h l) ∙ more-some (count_to r a) (front_count (back r a) (b - a)))

  -- two fronts taken in a row leave what both at once leave
  pub back-on : (r : List (A × ℕ)) (a b : ℕ) → is_offset r a ≡ true → is_offset r b ≡ true → a ≤ b
      → back (back r a) (b - a) ≡ back r b
  back-on r a b h g l =
      let f : front_count (back r a) (b - a) ≡ Some (count_to (back r a) (b - a)) = front_count-found (back r a) (b - a) (is_offset-on r a b h l ∙ g) in
      let e : count_to r b ≡ count_to r a + count_to (back r a) (b - a) = ap (λ o. unwrap_or o 0) (front_count-on r a b h l ∙ ap (option_map (λ k. count_to r a + k)) f) in
      drop-drop (count_to (back r a) (b - a)) (count_to r a) r ∙ ap (λ n. drop n r) (sym e)

-- if no width is left, no token is left
pub nil_from_width : {A : Type 0} (r : List (A × ℕ)) → HasPositiveWidths r → width r ≡ 0 → r ≡ []
nil_from_width [] h e = refl
nil_from_width (x ∷ xs) h e = absurd (omega (arith, h.0, e))
