-- Comparisons that take no account of the case of ASCII letters, by cases of what the code found,
-- and that a slice may be taken at the end of such a literal.
use Rattle.std.proofs.Common.{◌≡◌, ◌↔◌, ℕ, ◌+◌, ◌≤◌, ◌<◌, Bool, true, false, List, [], ◌∷◌, ◌++◌, length, take, drop, refl, ap, sym, ◌∙◌, arith, subst, get_or, inl, inr, append_assoc, length-append}
use Rattle.std.specs.Prelude.{IsTrue, ◌==◌, map}
use Rattle.std.specs.Char.{to_ascii_lowercase}
use Rattle.std.specs.Str.{IsUtf8, IsCharBoundary, str_to_ascii_lowercase}
use Rattle.std.proofs.lemmas.Bool.{and_parts, false≢true, cases_lt}
use Rattle.std.proofs.lemmas.Bool.Decides.{nat_tests, same_from_decides}
use Rattle.std.proofs.lemmas.List.{length-map, get_or-map, get_or_at, take_at, drop_at}
use Rattle.std.proofs.lemmas.Str.{IsCharBoundary-start, IsCharBoundary-after_ascii, IsUtf8-append, IsUtf8-take, IsUtf8-drop, IsUtf8-from_ascii}
use Rattle.std.proofs.lemmas.Str.Ascii.{lowercase_is, lowercase_ascii, IsAscii-cons, IsAscii-nil}
use Rattle.winnow_stream.specs.Source.{Source, units, width}
use Rattle.winnow_stream.specs.Units.{width-units}
use Rattle.winnow_stream.specs.Front.{is_offset}
use Rattle.winnow_stream.specs.Text.{text_source}
use Rattle.winnow_stream.proofs.lemmas.TextLemmas.{is_offset-from_boundary, width-text_source}
use Rattle.winnow_match.specs.declared.compare.CompareResult.{CompareResult}
use Rattle.winnow_match.specs.declared.compare.CompareResult.TheVariants as compared
use Rattle.winnow_match.specs.Comparison.{is_prefix, EndsAtOffset, AgreesWithWidth}
use Rattle.winnow_match.specs.Caseless.{caseless}
use Rattle.winnow_match.proofs.lemmas.ByteLemmas.{bytes_of-units, utf8_of-text_source}
use Rattle.winnow_match.proofs.lemmas.ByteFrontLemmas.{is_prefix-long, length-front}
use Rattle.winnow_match.proofs.lemmas.ComparisonLemmas.{shorter-front}
use Rattle.winnow_match.proofs.lemmas.AnswerLemmas.{boundary-end, comparison-ends, comparison-agrees, is_offset-le}

abbrev small : List ℕ → List ℕ
small bytes = str_to_ascii_lowercase bytes

-- a list that is the front of another but for case, as a test and as the fact that the code tests
front-same : (p xs : List ℕ) → is_prefix (small p) (small xs) ≡ true
    → small p ≡ small (take (length p) xs)
front-same [] xs h = refl
front-same (x ∷ p) [] h = absurd (false≢true h)
front-same (x ∷ p) (y ∷ xs) h =
    let parts = and_parts _ (is_prefix (small p) (small xs)) h in
    let e : to_ascii_lowercase x ≡ to_ascii_lowercase y = grind (arith, nat_tests, parts.0) in
    ap (λ z. z ∷ small p) e ∙ ap (λ zs. to_ascii_lowercase y ∷ zs) (front-same p xs parts.1)

same-front : (p xs : List ℕ) → length p ≤ length xs → small p ≡ small (take (length p) xs)
    → is_prefix (small p) (small xs) ≡ true
same-front [] xs l h = refl
same-front (x ∷ p) [] l h = absurd (omega (arith, l))
same-front (x ∷ p) (y ∷ xs) l h =
    let e : to_ascii_lowercase x ≡ to_ascii_lowercase y = ap (λ zs. get_or zs 0 0) h in
    let s = same-front p xs (omega (arith, l)) (cc) in
    let f : (to_ascii_lowercase x == to_ascii_lowercase y) ≡ true = grind (arith, nat_tests, e) in
    rw (f, s) refl

-- a longer list is no front
pub caseless-long : (p xs : List ℕ) → length xs < length p → false ≡ is_prefix (small p) (small xs)
caseless-long p xs l =
    sym (is_prefix-long (small p) (small xs) (omega (arith, l, length-map p to_ascii_lowercase, length-map xs to_ascii_lowercase)))

-- the code's test of a list that is no longer decides whether it is a front
pub caseless-test : (p xs : List ℕ) (b : Bool) → length p ≤ length xs
    → (IsTrue b ↔ (map to_ascii_lowercase p ≡ map to_ascii_lowercase (take (length p) xs)))
    → b ≡ is_prefix (small p) (small xs)
caseless-test p xs b l d = same_from_decides b (is_prefix (small p) (small xs)) (d.0, d.1) (front-same p xs, same-front p xs l)

module _ (literal bytes : List ℕ) where
  -- the answer of the code is `caseless`, by cases of its two tests
  pub caseless-ok : is_prefix (small literal) (small bytes) ≡ true
      → compared.Ok (length literal) ≡ caseless literal bytes
  caseless-ok h = rw h (ap compared.Ok (sym (length-map literal to_ascii_lowercase)))

  pub caseless-incomplete : is_prefix (small literal) (small bytes) ≡ false
      → is_prefix (small bytes) (small literal) ≡ true
      → compared.Incomplete ≡ caseless literal bytes
  caseless-incomplete h g = rw (h, g) refl

  pub caseless-error : is_prefix (small literal) (small bytes) ≡ false
      → is_prefix (small bytes) (small literal) ≡ false → compared.Error ≡ caseless literal bytes
  caseless-error h g = rw (h, g) refl

pub ruleset caseless_comparisons = (caseless-ok, caseless-incomplete, caseless-error)

-- ---- A slice up to the end of a literal

-- a text is still one when the capital letters after a front of it are made small
small-after : (pre xs : List ℕ) → IsUtf8 (pre ++ xs) → IsUtf8 (pre ++ small xs)
small-after pre [] u = u
small-after pre (b ∷ xs) u =
    elim (cases_lt b 128) [
      | inl low ↦
          let whole : List ℕ = pre ++ b ∷ xs in
          let read : get_or whole (length pre) 0 ≡ b = get_or_at pre b xs 0 (length pre) refl in
          let within : length pre < length whole = omega (arith, length-append pre (b ∷ xs)) in
          let here : IsCharBoundary whole (length pre) = (omega (arith, within), λ m a. absurd (omega (arith, a, read, low))) in
          let behind = IsCharBoundary-after_ascii whole (length pre) u within (omega (arith, read, low)) in
          let before : IsUtf8 pre = subst IsUtf8 (take_at pre (b ∷ xs) (length pre) refl) (IsUtf8-take whole (length pre) u here) in
          let split : whole ≡ (pre ++ b ∷ []) ++ xs = sym (append_assoc pre (b ∷ []) xs) in
          let left : drop (length pre + 1) whole ≡ xs = ap (drop (length pre + 1)) split ∙ drop_at (pre ++ b ∷ []) xs (length pre + 1) (length-append pre (b ∷ [])) in
          let rest : IsUtf8 (small xs) = small-after [] xs (subst IsUtf8 left (IsUtf8-drop whole (length pre + 1) u behind)) in
          let letter = IsUtf8-from_ascii (to_ascii_lowercase b ∷ []) (IsAscii-cons (to_ascii_lowercase b) [] (lowercase_ascii b low) IsAscii-nil) in
          IsUtf8-append pre (small (b ∷ xs)) before (IsUtf8-append (to_ascii_lowercase b ∷ []) (small xs) letter rest)
      | inr high ↦
          let kept : to_ascii_lowercase b ≡ b = (lowercase_is b).2 (omega (arith, high)) in
          let rest : IsUtf8 ((pre ++ b ∷ []) ++ small xs) = small-after (pre ++ b ∷ []) xs (subst IsUtf8 (sym (append_assoc pre (b ∷ []) xs)) u) in
          subst (λ x. IsUtf8 (pre ++ x ∷ small xs)) (sym kept) (subst IsUtf8 (append_assoc pre (b ∷ []) (small xs)) rest)
    ]

-- the small letters of a text are a text
lowered : (bytes : List ℕ) → IsUtf8 bytes → IsUtf8 (small bytes)
lowered bytes u = small-after [] bytes u

-- a boundary of the small letters of a text is one of the text
small-boundary : (bytes : List ℕ) (k : ℕ) → IsCharBoundary (small bytes) k → IsCharBoundary bytes k
small-boundary bytes k (l, h) = (
  omega (arith, l, length-map bytes to_ascii_lowercase),
  λ m a.
      let at : get_or (small bytes) k 0 ≡ to_ascii_lowercase (get_or bytes k 0) = get_or-map to_ascii_lowercase bytes k 0 0 m in
      let same : to_ascii_lowercase (get_or bytes k 0) ≡ get_or bytes k 0 = (lowercase_is (get_or bytes k 0)).2 (omega (arith, a)) in
      let high = h (omega (arith, m, length-map bytes to_ascii_lowercase)) (omega (arith, a, at, same)) in
      omega (arith, high, at, same),
)

module _ (literal bytes : List ℕ) (result : CompareResult) (is : result ≡ caseless literal bytes) where
  -- a literal that stands in bytes, or in a text, ends at an offset
  pub EndsAtOffset-caseless-bytes : EndsAtOffset result (units bytes)
  EndsAtOffset-caseless-bytes =
      let P : CompareResult → Type 0 = λ x. EndsAtOffset x (units bytes) in
      let fits : is_prefix (small literal) (small bytes) ≡ true → length (small literal) ≤ length bytes = λ h. omega (arith, length-front (small literal) (small bytes) h, length-map bytes to_ascii_lowercase) in
      subst P (sym is) (comparison-ends (units bytes) (is_prefix (small literal) (small bytes)) (is_prefix (small bytes) (small literal)) (length (small literal)) (λ h. is_offset-le bytes (length (small literal)) (fits h)))

  pub EndsAtOffset-caseless-text : IsUtf8 bytes → IsUtf8 literal
      → EndsAtOffset result (text_source bytes)
  EndsAtOffset-caseless-text v u =
      let P : CompareResult → Type 0 = λ x. EndsAtOffset x (text_source bytes) in
      let start = IsCharBoundary-start (small bytes) (lowered bytes v) in
      let ends : is_prefix (small literal) (small bytes) ≡ true → is_offset (text_source bytes) (length (small literal)) ≡ true =
      λ h.
      is_offset-from_boundary bytes (length (small literal)) v
      (small-boundary bytes (length (small literal)) (subst (IsCharBoundary (small bytes)) {x = 0 + length (small literal)} {y = length (small literal)} (omega arith) (boundary-end (small literal) (small bytes) 0 (lowered bytes v) (lowered literal u) start h)))
      in
      subst P (sym is) (comparison-ends (text_source bytes) (is_prefix (small literal) (small bytes)) (is_prefix (small bytes) (small literal)) (length (small literal)) ends)

  -- what remains of a source as wide as its bytes agrees with the length of the literal
  caseless-agrees : {T : Type 0} (r : Source T) → width r ≡ length bytes
      → AgreesWithWidth result (length literal) r
  caseless-agrees r w =
      let P : CompareResult → Type 0 = λ x. AgreesWithWidth x (length (small literal)) r in
      let shorter : is_prefix (small literal) (small bytes) ≡ false → is_prefix (small bytes) (small literal) ≡ true → width r < length (small literal) =
      λ h g. let l = shorter-front (small literal) (small bytes) h g in omega (arith, w, l, length-map bytes to_ascii_lowercase)
      in
      subst (λ n. AgreesWithWidth result n r) (length-map literal to_ascii_lowercase)
      (subst P (sym is) (comparison-agrees r (is_prefix (small literal) (small bytes)) (is_prefix (small bytes) (small literal)) (length (small literal)) shorter))

  -- the answer agrees with the widths of bytes, and of a text
  pub AgreesWithWidth-caseless-bytes : AgreesWithWidth result (length literal) (units bytes)
  AgreesWithWidth-caseless-bytes = caseless-agrees (units bytes) (width-units bytes)

  pub AgreesWithWidth-caseless-text : IsUtf8 bytes
      → AgreesWithWidth result (length literal) (text_source bytes)
  AgreesWithWidth-caseless-text v = caseless-agrees (text_source bytes) (width-text_source bytes v)

-- the rules for the answers of slices and texts
pub ruleset caseless_answers = (bytes_of-units, utf8_of-text_source, EndsAtOffset-caseless-bytes, EndsAtOffset-caseless-text, AgreesWithWidth-caseless-bytes, AgreesWithWidth-caseless-text)
