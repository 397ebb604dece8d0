-- A slice may be taken at the end of a literal and at a needle: of bytes everywhere, of a text
-- between characters.
use Rattle.std.proofs.Common.{◌≡◌, ℕ, zero, suc, ◌+◌, ◌≤◌, ◌<◌, Bool, true, false, cond, List, [], ◌∷◌, ◌++◌, length, take, drop, get_or, Option, Some, None, refl, ap, sym, ◌∙◌, arith, subst, inl, inr, length-drop}
use Rattle.std.specs.Prelude.{IfSome}
use Rattle.std.specs.List.{list_any}
use Rattle.std.specs.Str.{IsUtf8, IsCharBoundary}
use Rattle.std.specs.declared.ops.Range.{Range}
use Rattle.std.proofs.lemmas.Bool.{or_parts, cases_Bool, false≢true}
use Rattle.std.proofs.lemmas.Option.{same_Some}
use Rattle.std.proofs.lemmas.Bool.Decides.{nat_tests}
use Rattle.std.proofs.lemmas.List.{get_or-drop, take_at}
use Rattle.std.proofs.lemmas.Str.{IsUtf8-drop, IsCharBoundary-start, IsCharBoundary-from_take, IsCharBoundary-from_rest}
use Rattle.winnow_stream.specs.Source.{Source, units, width}
use Rattle.winnow_stream.specs.Units.{width-units}
use Rattle.winnow_stream.specs.Front.{is_offset}
use Rattle.winnow_stream.specs.Text.{text_source}
use Rattle.winnow_stream.specs.Span.{span}
use Rattle.winnow_stream.proofs.lemmas.UnitLemmas.{is_offset-units}
use Rattle.winnow_stream.proofs.lemmas.TextLemmas.{is_offset-from_boundary, width-text_source}
use Rattle.winnow_match.specs.declared.compare.CompareResult.{CompareResult}
use Rattle.winnow_match.specs.declared.compare.CompareResult.TheVariants as compared
use Rattle.winnow_match.specs.Comparison.{is_prefix, comparison, EndsAtOffset, AgreesWithWidth}
use Rattle.winnow_match.specs.Search.{is_empty, needle_of, hit, first_hit, AreOffsets, AreTexts}
use Rattle.winnow_match.proofs.lemmas.ByteLemmas.{bytes_of-units, utf8_of-text_source}
use Rattle.winnow_match.proofs.lemmas.ComparisonLemmas.{shorter-front}
use Rattle.winnow_match.proofs.lemmas.ByteFrontLemmas.{length-front, front_rest, is_prefix-IsPrefixOf}
use Rattle.winnow_match.proofs.lemmas.SearchLemmas.{nonempty-length}
use Rattle.winnow_match.proofs.lemmas.HitLemmas.{hit-IsFirstHit}

-- ---- a text that stands at a place of a text

-- a front of some bytes is as many of them as it has
take-front : (l bs : List ℕ) → is_prefix l bs ≡ true → take (length l) bs ≡ l
take-front l bs h = ap (take (length l)) (front_rest l bs h) ∙ take_at l (drop (length l) bs) (length l) refl

-- the place at which it stands is a boundary: a character begins there
boundary-start : (l bs : List ℕ) (k : ℕ) → IsUtf8 l → is_empty l ≡ false
    → is_prefix l (drop k bs) ≡ true → IsCharBoundary bs k
boundary-start [] bs k u some h = absurd (false≢true (sym some))
boundary-start (x ∷ l) bs k u some h =
    let e : drop k bs ≡ x ∷ (l ++ drop (length (x ∷ l)) (drop k bs)) = front_rest (x ∷ l) (drop k bs) h in
    let n = length-front (x ∷ l) (drop k bs) h in
    let here : get_or bs k 0 ≡ x = ap (λ m. get_or bs m 0) (omega arith) ∙ sym (get_or-drop k bs 0 0) ∙ ap (λ xs. get_or xs 0 0) e in
    let first = IsCharBoundary-start (x ∷ l) u in
    (omega (arith, n, length-drop k bs), λ m a. let f = first.1 (omega arith) (omega (arith, a, here)) in omega (arith, f, here))

-- the place at which it ends is a boundary: a character ends there
pub boundary-end : (l bs : List ℕ) (k : ℕ) → IsUtf8 bs → IsUtf8 l → IsCharBoundary bs k
    → is_prefix l (drop k bs) ≡ true → IsCharBoundary bs (k + length l)
boundary-end l bs k v u b h =
    let whole = subst IsUtf8 (sym (take-front l (drop k bs) h)) u in
    IsCharBoundary-from_rest bs k (length l) b.0
    (IsCharBoundary-from_take (drop k bs) (length l) (IsUtf8-drop bs k v b) (length-front l (drop k bs) h) whole)

-- ---- comparisons

-- a comparison ends at an offset if its `Ok` does
pub comparison-ends : {T : Type 0} (r : Source T) (a b : Bool) (n : ℕ)
    → (a ≡ true → is_offset r n ≡ true)
    → EndsAtOffset (cond a (compared.Ok n) (cond b compared.Incomplete compared.Error)) r
comparison-ends r true b n h = h refl
comparison-ends r false true n h = tt
comparison-ends r false false n h = tt

-- a comparison agrees with the width if its `Incomplete` means that too little remains
pub comparison-agrees : {T : Type 0} (r : Source T) (a b : Bool) (n : ℕ)
    → (a ≡ false → b ≡ true → width r < n)
    → AgreesWithWidth (cond a (compared.Ok n) (cond b compared.Incomplete compared.Error)) n r
comparison-agrees r true b n h = refl
comparison-agrees r false true n h = h refl refl
comparison-agrees r false false n h = tt

-- a number of bytes up to their length is an offset
pub is_offset-le : (xs : List ℕ) (n : ℕ) → n ≤ length xs → is_offset (units xs) n ≡ true
is_offset-le xs n l = is_offset-units xs n ∙ grind (arith, nat_tests)

module _ (literal bytes : List ℕ) (result : CompareResult) (is : result ≡ comparison literal bytes) where
  -- a literal that stands in bytes, or in a text, ends at an offset
  pub EndsAtOffset-bytes : EndsAtOffset result (units bytes)
  EndsAtOffset-bytes =
      let P : CompareResult → Type 0 = λ x. EndsAtOffset x (units bytes) in
      subst P (sym is) (comparison-ends (units bytes) (is_prefix literal bytes) (is_prefix bytes literal) (length literal) (λ h. is_offset-le bytes (length literal) (length-front literal bytes h)))

  pub EndsAtOffset-text : IsUtf8 bytes → IsUtf8 literal → EndsAtOffset result (text_source bytes)
  EndsAtOffset-text v u =
      let P : CompareResult → Type 0 = λ x. EndsAtOffset x (text_source bytes) in
      let ends : is_prefix literal bytes ≡ true → is_offset (text_source bytes) (length literal) ≡ true =
      λ h.
      is_offset-from_boundary bytes (length literal) v
      (subst (IsCharBoundary bytes) {x = 0 + length literal} {y = length literal} (omega arith) (boundary-end literal bytes 0 v u (IsCharBoundary-start bytes v) h))
      in
      subst P (sym is) (comparison-ends (text_source bytes) (is_prefix literal bytes) (is_prefix bytes literal) (length literal) ends)

  -- what remains of a source as wide as its bytes agrees with the length of the literal
  agrees : {T : Type 0} (r : Source T) → width r ≡ length bytes
      → AgreesWithWidth result (length literal) r
  agrees r w =
      let P : CompareResult → Type 0 = λ x. AgreesWithWidth x (length literal) r in
      subst P (sym is) (comparison-agrees r (is_prefix literal bytes) (is_prefix bytes literal) (length literal) (λ h g. let l = shorter-front literal bytes h g in omega (arith, w, l)))

  -- the answer agrees with the widths of bytes, and of a text
  pub AgreesWithWidth-bytes : AgreesWithWidth result (length literal) (units bytes)
  AgreesWithWidth-bytes = agrees (units bytes) (width-units bytes)

  pub AgreesWithWidth-text : IsUtf8 bytes
      → AgreesWithWidth result (length literal) (text_source bytes)
  AgreesWithWidth-text v = agrees (text_source bytes) (width-text_source bytes v)

-- ---- searches

-- no needle is empty if the list has no empty one
nonempty-needle : (ls : List (List ℕ)) (i : ℕ) → list_any is_empty ls ≡ false → i < length ls
    → is_empty (needle_of ls i) ≡ false
nonempty-needle [] i h l = absurd (omega (arith, l))
nonempty-needle (n ∷ ls) zero h l = (or_parts (is_empty n) (list_any is_empty ls) h).0
nonempty-needle (n ∷ ls) (suc i) h l = nonempty-needle ls i (or_parts (is_empty n) (list_any is_empty ls) h).1 (omega (arith, l))

-- each needle of a list of texts is a text
text-needle : (ls : List (List ℕ)) (i : ℕ) → AreTexts ls → i < length ls → IsUtf8 (needle_of ls i)
text-needle [] i h l = absurd (omega (arith, l))
text-needle (n ∷ ls) zero h l = h.0
text-needle (n ∷ ls) (suc i) h l = text-needle ls i h.1 (omega (arith, l))

-- a property of 0, and of the begin and end of each needle that stands, is one of both ends of a
-- hit, whose end is no nearer
module _ (P : ℕ → Type 0) (ls : List (List ℕ)) (bytes : List ℕ) (start : P 0) (ends : (i k : ℕ) → i < length ls → is_empty (needle_of ls i) ≡ false → is_prefix (needle_of ls i) (drop k bytes) ≡ true → P k × P (k + length (needle_of ls i))) where
  -- the property for a hit, and for what a search answers
  hit-ends : (r : Range ℕ) → hit ls bytes ≡ Some r → (r.start ≤ r.end) × (P r.start × P r.end)
  hit-ends r h =
      elim (cases_Bool (list_any is_empty ls)) [
        | inl e ↦
            let g : cond (list_any is_empty ls) (Some (span 0 0)) (first_hit ls 0 bytes) ≡ Some r = h in
            let same : span 0 0 ≡ r = same_Some (span 0 0) r (rw e at g) in
            let Q : Range ℕ → Type 0 = λ q. (q.start ≤ q.end) × (P q.start × P q.end) in
            subst Q same (omega arith, (start, start))
        | inr e ↦
            let f = hit-IsFirstHit ls bytes e r h in
            let p = ends f.index r.start f.listed (nonempty-needle ls f.index e f.listed) (is_prefix-IsPrefixOf (needle_of ls f.index) (drop r.start bytes) f.stands) in
            (omega (arith, f.whole), (p.0, subst P (sym f.whole) p.1))
      ]

  hits-end : (o : Option (Range ℕ)) → o ≡ hit ls bytes
      → IfSome o (λ r. (r.start ≤ r.end) × (P r.start × P r.end))
  hits-end None is = tt
  hits-end (Some r) is = hit-ends r (sym is)

module _ (ls : List (List ℕ)) (bytes : List ℕ) (result : Option (Range ℕ)) (is : result ≡ hit ls bytes) where
  -- both ends of a hit in bytes, or in a text, are offsets
  pub AreOffsets-bytes : IfSome result (AreOffsets (units bytes))
  AreOffsets-bytes =
      hits-end (λ n. is_offset (units bytes) n ≡ true) ls bytes (is_offset-le bytes 0 (omega arith)) (λ i k l some f.
      let n : ℕ = length (needle_of ls i) in
      let reach : k + n ≤ length bytes = omega (arith, nonempty-length (needle_of ls i) some, length-front (needle_of ls i) (drop k bytes) f, length-drop k bytes) in
      (is_offset-le bytes k (omega (arith, reach)), is_offset-le bytes (k + n) reach)) result is

  pub AreOffsets-text : IsUtf8 bytes → AreTexts ls → IfSome result (AreOffsets (text_source bytes))
  AreOffsets-text v us =
      hits-end (λ n. is_offset (text_source bytes) n ≡ true) ls bytes (is_offset-from_boundary bytes 0 v (IsCharBoundary-start bytes v)) (λ i k l some f.
      let n : List ℕ = needle_of ls i in
      let u = text-needle ls i us l in
      let b = boundary-start n bytes k u some f in
      (is_offset-from_boundary bytes k v b, is_offset-from_boundary bytes (k + length n) v (boundary-end n bytes k v u b f))) result is

-- the rules for the answers of slices and texts
pub ruleset source_answers = (bytes_of-units, utf8_of-text_source, EndsAtOffset-bytes, EndsAtOffset-text, AgreesWithWidth-bytes, AgreesWithWidth-text, AreOffsets-bytes, AreOffsets-text)
