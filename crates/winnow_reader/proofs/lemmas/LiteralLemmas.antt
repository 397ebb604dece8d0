-- The first occurrence of a literal, with more bytes after those that were searched.
use Rattle.std.proofs.Common.{◌≡◌, ℕ, ◌+◌, ◌-◌, ◌≤◌, ◌<◌, List, ◌++◌, length, drop, Option, Some, None, option_map, ap, sym, ◌∙◌, subst, inl, inr, arith, get_or, length-append, length-drop}
use Rattle.std.proofs.lemmas.Bool.{cases_lt}
use Rattle.std.proofs.lemmas.List.{drop-append-le, get_or_append_left, get_or-drop}
use Rattle.memchr.specs.Find.{OccursAt, FindsNeedle}

module _ (bytes literal : List ℕ) where
  -- what stands in bytes stands in longer ones
  OccursAt-longer : (more : List ℕ) (k : ℕ) → OccursAt bytes literal k
      → OccursAt (bytes ++ more) literal k
  OccursAt-longer more k o = record {
    fits = omega (arith, o.fits, length-append bytes more);
    reads = λ j l. get_or_append_left bytes more 0 (k + j) (omega (arith, o.fits, l)) ∙ o.reads j l;
  }

  -- what stands in longer bytes, and ends in these, stands in these
  OccursAt-shorter : (more : List ℕ) (k : ℕ) → k + length literal ≤ length bytes
      → OccursAt (bytes ++ more) literal k → OccursAt bytes literal k
  OccursAt-shorter more k within o = record {
    fits = within;
    reads = λ j l. sym (get_or_append_left bytes more 0 (k + j) (omega (arith, within, l))) ∙ o.reads j l;
  }

  -- what stands n bytes later stands in the bytes without the first n
  OccursAt-dropped : (n k : ℕ) → OccursAt bytes literal (n + k) → OccursAt (drop n bytes) literal k
  OccursAt-dropped n k o = record {
    fits = omega (arith, o.fits, length-drop n bytes);
    reads = λ j l.
        let same : n + (k + j) ≡ n + k + j = omega arith in
        get_or-drop n bytes (k + j) 0 ∙ ap (λ i. get_or bytes i 0) same ∙ o.reads j l;
  }

  -- and the other way
  OccursAt-back : (n k : ℕ) → n ≤ length bytes → OccursAt (drop n bytes) literal k
      → OccursAt bytes literal (n + k)
  OccursAt-back n k within o = record {
    fits = omega (arith, o.fits, within, length-drop n bytes);
    reads = λ j l.
        let same : n + k + j ≡ n + (k + j) = omega arith in
        ap (λ i. get_or bytes i 0) same ∙ sym (get_or-drop n bytes (k + j) 0) ∙ o.reads j l;
  }

  -- the first occurrence stays the first, with more bytes after it
  pub FindsNeedle-longer : (more : List ℕ) (k : ℕ) → FindsNeedle bytes literal 0 (Some k)
      → FindsNeedle (bytes ++ more) literal 0 (Some k)
  FindsNeedle-longer more k h = (
    record {
      low = h.0.low;
      high = omega (arith, h.0.high, length-append bytes more);
      before = λ m a b o. h.0.before m a b (OccursAt-shorter more m (omega (arith, b, h.1.fits)) o);
    },
    OccursAt-longer more k h.1,
  )

module _ (bytes literal more : List ℕ) (n : ℕ) (none : FindsNeedle bytes literal 0 None)
    (is : n ≡ length bytes - (length literal - 1)) where
  -- no occurrence begins in the first n bytes
  none-dropped : (m : ℕ) → m < n → ¬ OccursAt (bytes ++ more) literal m
  none-dropped m less o =
      let within : m + length literal ≤ length bytes = omega (arith, less, is) in
      none m (omega arith) (omega (arith, less, is)) (OccursAt-shorter bytes literal more m within o)

  -- without the first n bytes, the longer ones are the others, and those that follow
  rest-longer : drop n (bytes ++ more) ≡ drop n bytes ++ more
  rest-longer = drop-append-le n bytes more (omega (arith, is))

  -- an occurrence after them is one in the rest
  occurs-rest : (m : ℕ) → n ≤ m → OccursAt (bytes ++ more) literal m
      → OccursAt (drop n bytes ++ more) literal (m - n)
  occurs-rest m low o =
      let at : m ≡ n + (m - n) = omega (arith, low) in
      subst (λ xs. OccursAt xs literal (m - n)) rest-longer
      (OccursAt-dropped (bytes ++ more) literal n (m - n) (subst (λ k. OccursAt (bytes ++ more) literal k) at o))

  -- an occurrence in the rest is one of the longer bytes
  occurs-whole : (k : ℕ) → OccursAt (drop n bytes ++ more) literal k
      → OccursAt (bytes ++ more) literal (n + k)
  occurs-whole k o = OccursAt-back (bytes ++ more) literal n k (omega (arith, is, length-append bytes more)) (subst (λ xs. OccursAt xs literal k) (sym rest-longer) o)

  -- the first occurrence in the rest is the first one
  pub FindsNeedle-dropped : (r : Option ℕ) → FindsNeedle (drop n bytes ++ more) literal 0 r
      → FindsNeedle (bytes ++ more) literal 0 (option_map (λ k. n + k) r)
  FindsNeedle-dropped None h = λ m a b o.
      elim (cases_lt m n) [
        | inl less ↦ none-dropped m less o
        | inr low ↦ h (m - n) (omega arith) (omega (arith, b, low, is, length-append bytes more, length-append (drop n bytes) more, length-drop n bytes)) (occurs-rest m low o)
      ]
  FindsNeedle-dropped (Some k) h = (
    record {
      low = omega arith;
      high = omega (arith, h.0.high, is, length-append bytes more, length-append (drop n bytes) more, length-drop n bytes);
      before = λ m a b o.
          elim (cases_lt m n) [
            | inl less ↦ none-dropped m less o
            | inr low ↦ h.0.before (m - n) (omega arith) (omega (arith, b, low)) (occurs-rest m low o)
          ];
    },
    occurs-whole k h.1,
  )
