-- A comparison that is decided stays as it is when more input follows.
use Rattle.std.specs.Prelude.{◌≡◌, ℕ, ◌==◌, true, false, List, [], ◌∷◌, ◌++◌}
use Rattle.std.proofs.Common.{refl, ap, sym, ◌∙◌, inl, inr, arith, append_assoc}
use Rattle.std.proofs.lemmas.Bool.{cases_Bool, and_parts, false≢true}
use Rattle.std.proofs.lemmas.Bool.Decides.{nat_tests}
use Rattle.winnow_stream.specs.Source.{Source}
use Rattle.winnow_match.specs.Bytes.{written}
use Rattle.winnow_match.specs.Comparison.{is_prefix, comparison}
use Rattle.winnow_match.specs.declared.compare.CompareResult.{CompareResult}
use Rattle.winnow_match.specs.declared.compare.CompareResult.TheVariants as compared

-- an answer other than `Incomplete` is also the answer of each longer list
abbrev pub ComparisonsStay : {T : Type 0} → (Source T → CompareResult) → Type 0
ComparisonsStay {T} compare = (r more : Source T) → ¬ (compare r ≡ compared.Incomplete) → compare (r ++ more) ≡ compare r

-- a front stays a front when more follows
front-longer : (p xs more : List ℕ) → is_prefix p xs ≡ true → is_prefix p (xs ++ more) ≡ true
front-longer [] xs more h = refl
front-longer (x ∷ p) [] more h = absurd (false≢true h)
front-longer (x ∷ p) (y ∷ xs) more h = let parts = and_parts (x == y) (is_prefix p xs) h in rw (parts.0, front-longer p xs more parts.1) refl

-- two lists that differ at some place still differ when more follows
differ-longer : (p xs more : List ℕ) → is_prefix p xs ≡ false → is_prefix xs p ≡ false
    → (is_prefix p (xs ++ more) ≡ false) × (is_prefix (xs ++ more) p ≡ false)
differ-longer [] xs more h g = absurd (false≢true (sym h))
differ-longer (x ∷ p) [] more h g = absurd (false≢true (sym g))
differ-longer (x ∷ p) (y ∷ xs) more h g =
    elim (cases_Bool (x == y)) [
      | inl e ↦ let s : (y == x) ≡ true = grind (arith, nat_tests, e) in rw (e, s) (differ-longer p xs more (rw e at h) (rw s at g))
      | inr e ↦ let s : (y == x) ≡ false = grind (arith, nat_tests, e) in rw (e, s) (refl, refl)
    ]

-- a decided comparison of bytes stays when more bytes follow
pub comparison-stays : (literal bytes more : List ℕ)
    → ¬ (comparison literal bytes ≡ compared.Incomplete)
    → comparison literal (bytes ++ more) ≡ comparison literal bytes
comparison-stays literal bytes more n =
    elim (cases_Bool (is_prefix literal bytes)) [
      | inl e ↦ let longer = front-longer literal bytes more e in rw (e, longer) refl
      | inr e ↦ elim (cases_Bool (is_prefix bytes literal)) [
        | inl s ↦ absurd (n (rw (e, s) refl))
        | inr s ↦ let longer = differ-longer literal bytes more e s in rw (e, s, longer.0, longer.1) refl
      ]
    ]

-- the bytes of two lists of tokens in a row are those of the first and then those of the second
pub written-append : {T : Type 0} (write : T → List ℕ) (r more : Source T)
    → written write (r ++ more) ≡ written write r ++ written write more
written-append write [] more = refl
written-append write (x ∷ r) more = ap (λ bytes. write x.0 ++ bytes) (written-append write r more) ∙ sym (append_assoc (write x.0) (written write r) (written write more))

-- a decided comparison of the bytes of tokens stays when more tokens follow
pub ComparisonsStay-written : {T : Type 0} (write : T → List ℕ) (literal : List ℕ)
    → ComparisonsStay (λ r. comparison literal (written write r))
ComparisonsStay-written write literal r more n =
    ap (comparison literal) (written-append write r more) ∙ comparison-stays literal (written write r) (written write more) n
