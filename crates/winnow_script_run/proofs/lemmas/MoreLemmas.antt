-- Definite facts about r hold of r followed by anything; one lemma per definition.
use Rattle.std.proofs.Common.{◌≡◌, ℕ, ◌+◌, ◌-◌, ◌≤◌, Bool, true, leb, List, [], ◌∷◌, ◌++◌, length, Some, refl, sym, ap, ◌∙◌, arith, inl, inr}
use Rattle.std.specs.Prelude.{is_some, is_ok}
use Rattle.std.proofs.lemmas.Bool.{cases_Bool, false≢true, leb-true, le-leb}
use Rattle.std.proofs.lemmas.Bool.Decides.{nat_tests}
use Rattle.std.proofs.lemmas.List.{take-append-le, length-append, append_assoc}
use Rattle.winnow_stream.specs.Source.{Source, width, first_token, first_held, first_offset, offsets_from}
use Rattle.winnow_stream.specs.Front.{front_count}
use Rattle.winnow_stream.specs.Shortage.{offset_at}
use Rattle.winnow_match.specs.declared.compare.CompareResult.TheVariants as compared
use Rattle.winnow_match.specs.Comparison.{comparison}
use Rattle.winnow_match.specs.Staying.{comparison-stays}
use Rattle.winnow_script_run.specs.Definite.{is_decided}

-- the width of appended lists is the sum of their widths
pub width-append : {T : Type 0} (r m : Source T) → width (r ++ m) ≡ width r + width m
width-append [] m = omega arith
width-append (x ∷ r) m = omega (arith, width-append r m)

-- ---- the words of calls

-- a first token that is there stays with more input appended
pub first_token-more : {T : Type 0} (r m : Source T) → is_some (first_token r) ≡ true
    → first_token (r ++ m) ≡ first_token r
first_token-more [] m h = absurd (cc)
first_token-more (x ∷ r) m h = refl

-- a front of width 0 has no tokens
front_count-zero : {T : Type 0} (r : Source T) → front_count r 0 ≡ Some 0
front_count-zero [] = refl
front_count-zero (x ∷ r) = refl

-- the tokens of a front that fits stay with more input appended
pub front_count-more : {T : Type 0} (r m : Source T) (n : ℕ) → n ≤ width r
    → front_count (r ++ m) n ≡ front_count r n
front_count-more [] m n h = let e : n ≡ 0 = omega arith in rw e (front_count-zero m)
front_count-more (x ∷ r) m n h = let ih = λ (g : n - x.1 ≤ width r). front_count-more r m (n - x.1) g in grind (arith, nat_tests)

-- the first offset in the set, if there is one, stays with more input appended
pub first_held-more : {T : Type 0} (holds : T → Bool) (n : ℕ) (r m : Source T)
    → is_some (first_held holds (offsets_from n r)) ≡ true
    → first_held holds (offsets_from n (r ++ m)) ≡ first_held holds (offsets_from n r)
first_held-more holds n [] m h = absurd (cc)
first_held-more holds n (x ∷ r) m h =
    elim (cases_Bool (holds x.0)) [
      | inl e ↦ rw e refl
      | inr e ↦ rw e (first_held-more holds (n + x.1) r m (rw e at h))
    ]

pub first_offset-more : {T : Type 0} (holds : T → Bool) (r m : Source T)
    → is_some (first_offset holds r) ≡ true → first_offset holds (r ++ m) ≡ first_offset holds r
first_offset-more holds r m h = first_held-more holds 0 r m h

-- the offset after a number of tokens, if there are enough, stays with more input appended
pub offset_at-more : {T : Type 0} (b : Bool) (r m : Source T) (n : ℕ)
    → is_ok (offset_at b r n) ≡ true → offset_at b (r ++ m) n ≡ offset_at b r n
offset_at-more b r m n h =
    elim (cases_Bool (leb n (length r))) [
      | inl e ↦
          let fits = leb-true n (length r) e in
          let more : n ≤ length (r ++ m) = omega (arith, length-append r m) in
          rw (e, le-leb n (length (r ++ m)) more, take-append-le n r m fits)
      | inr e ↦ absurd (false≢true (rw e at h))
    ]

-- ---- the word of comparisons

-- a decided comparison stays with more bytes appended
pub comparison-more : (literal bytes more : List ℕ) → is_decided (comparison literal bytes) ≡ true
    → comparison literal (bytes ++ more) ≡ comparison literal bytes
comparison-more literal bytes more h = comparison-stays literal bytes more (λ e. false≢true (rw e at h))
