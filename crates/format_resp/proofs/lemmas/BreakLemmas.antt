-- Where lines and numbers do not break off, but since the bytes end.
use Rattle.std.proofs.Common.{◌≡◌, ℕ, ◌≤◌, true, false, List, [], ◌∷◌, ◌++◌, length, inl, inr, ap, sym, ◌∙◌, subst, refl, arith, append_assoc}
use Rattle.std.specs.Prelude.{◌⊎◌, ⊤}
use Rattle.winnow_stream.specs.Source.{Source, units}
use Rattle.format_lemmas.specs.Bytes.{bytes_of, StartsWith}
use Rattle.format_lemmas.proofs.lemmas.ByteLemmas.{heads, tails}
use Rattle.format_resp.specs.Language.{is_in_line, AreInLine, IsText, line, line_end}
use Rattle.format_resp.specs.Meanings.{most_digits}
use Rattle.format_resp.specs.Ahead.{IsAhead}
use Rattle.format_resp.specs.Damage.{cause_at, EndsText, EndBreaksOff, LineBreaksOff, NumberBreaksOff}
use Rattle.format_resp.specs.declared.causes.Cause.{Cause}
use Rattle.format_resp.specs.declared.causes.Cause.TheVariants.{EndsInside, NoLineEnd}
use Rattle.format_resp.proofs.lemmas.AheadLemmas.{conses, ahead-none, ahead-first}

-- ---- Bytes

-- the rest of a source that is not empty
source-rest : Source ℕ → Source ℕ
source-rest [] = []
source-rest (x ∷ xs) = xs

-- the first byte of a source, or 0
source-head : Source ℕ → ℕ
source-head [] = 0
source-head (x ∷ xs) = x.0

-- equal sources have equal rests
source-tails : (x y : ℕ × ℕ) (xs ys : Source ℕ) → x ∷ xs ≡ y ∷ ys → xs ≡ ys
unfolding source-rest
source-tails x y xs ys e = ap source-rest e

-- and equal first bytes
source-heads : (x y : ℕ × ℕ) (xs ys : Source ℕ) → x ∷ xs ≡ y ∷ ys → x.0 ≡ y.0
unfolding source-head
source-heads x y xs ys e = ap source-head e

-- where bytes begin with others, the rest is bytes too
pub units-ahead : (bytes t : List ℕ) (s : Source ℕ) → IsAhead (units bytes) t s
    → (rest : List ℕ) × ((bytes ≡ t ++ rest) × (s ≡ units rest))
units-ahead bytes [] s h = (bytes, (refl, sym (ahead-none (units bytes) s h)))
units-ahead [] (c ∷ t) s h = let k = ahead-first c t [] s h in absurd (let e = k.1.1.0 in cc e)
units-ahead (b ∷ bytes) (c ∷ t) s h =
    let k = ahead-first c t (units (b ∷ bytes)) s h in
    let q = k.1.0 in
    let rest : units bytes ≡ q = source-tails (b, 1) k.0 (units bytes) q k.1.1.0 in
    let first : b ≡ c = source-heads (b, 1) k.0 (units bytes) q k.1.1.0 ∙ k.1.1.1 in
    let more = units-ahead bytes t s (subst (λ r. IsAhead r t s) (sym rest) k.1.1.2) in
    (more.0, (conses b c bytes (t ++ more.0) first more.1.0, more.1.1))

-- the bytes are none, or begin with one that ends a text
abbrev pub EndsHere : List ℕ → Type 0
EndsHere [] = ⊤
EndsHere (c ∷ bytes) = is_in_line c ≡ false

-- no byte both ends a text and stands in it
both-never : (c d : ℕ) → c ≡ d → is_in_line c ≡ true → is_in_line d ≡ false → ⊥
both-never c d e h k = let f = sym (subst (λ x. is_in_line x ≡ true) e h) ∙ k in cc f

-- a text ends at one place
pub text-once : (t u e f : List ℕ) → AreInLine t → AreInLine u → EndsHere e → EndsHere f
    → t ++ e ≡ u ++ f → (t ≡ u) × (e ≡ f)
text-once [] [] e f h k a b is = (refl, is)
text-once [] (y ∷ u) [] f h k a b is = absurd (cc is)
text-once [] (y ∷ u) (c ∷ e) f h k a b is = absurd (both-never y c (sym (heads c y e (u ++ f) is)) k.0 a)
text-once (x ∷ t) [] e [] h k a b is = absurd (cc is)
text-once (x ∷ t) [] e (c ∷ f) h k a b is = absurd (both-never x c (heads x c (t ++ e) f is) h.0 b)
text-once (x ∷ t) (y ∷ u) e f h k a b is =
    let more = text-once t u e f h.1 k.1 a b (tails x y (t ++ e) (u ++ f) is) in
    (conses x y t u (heads x y (t ++ e) (u ++ f) is) more.0, more.1)

-- a text is not longer than where it ends
pub text-full : (t u e f : List ℕ) → AreInLine u → EndsHere e → length t ≤ length u
    → t ++ e ≡ u ++ f → (t ≡ u) × (e ≡ f)
text-full [] [] e f k a short is = (refl, is)
text-full [] (y ∷ u) [] f k a short is = absurd (cc is)
text-full [] (y ∷ u) (c ∷ e) f k a short is = absurd (both-never y c (sym (heads c y e (u ++ f) is)) k.0 a)
text-full (x ∷ t) [] e f k a short is = absurd (omega (arith, short))
text-full (x ∷ t) (y ∷ u) e f k a short is =
    let more = text-full t u e f k.1 a (omega (arith, short)) (tails x y (t ++ e) (u ++ f) is) in
    (conses x y t u (heads x y (t ++ e) (u ++ f) is) more.0, more.1)

-- what begins with CR ends a text
pub ends-return : (s : List ℕ) → EndsHere (13 ∷ s)
ends-return s = refl

-- nothing ends a text
pub ends-nothing : EndsHere []
ends-nothing = tt

-- a line is its text, and then its end
pub line-before : (text s : List ℕ) → line text ++ s ≡ text ++ 13 ∷ 10 ∷ s
line-before text s = append_assoc text line_end s

-- bytes begin with one line
pub line-once : (t u s r : List ℕ) → AreInLine t → AreInLine u → line t ++ s ≡ line u ++ r
    → (t ≡ u) × (s ≡ r)
line-once t u s r h k e =
    let both = text-once t u (13 ∷ 10 ∷ s) (13 ∷ 10 ∷ r) h k (ends-return (10 ∷ s)) (ends-return (10 ∷ r))
    (sym (line-before t s) ∙ e ∙ line-before u r) in
    (both.0, tails 10 10 s r (tails 13 13 (10 ∷ s) (10 ∷ r) both.1))

-- the bytes after a text are none, or CR alone
abbrev pub IsOpenEnd : List ℕ → Type 0
IsOpenEnd e = (e ≡ []) ⊎ (e ≡ 13 ∷ [])

-- so they end a text
pub open-ends : (e : List ℕ) → IsOpenEnd e → EndsHere e
open-ends e (inl is) = subst EndsHere (sym is) ends-nothing
open-ends e (inr is) = subst EndsHere (sym is) (ends-return [])

-- no line stands before them
pub open-no_line : (text e u s : List ℕ) → AreInLine text → AreInLine u → IsOpenEnd e
    → ¬ (text ++ e ≡ line u ++ s)
open-no_line text e u s h k (inl is) same =
    let both = text-once text u e (13 ∷ 10 ∷ s) h k (open-ends e (inl is)) (ends-return (10 ∷ s)) (same ∙ line-before u s) in
    let f = sym is ∙ both.1 in cc f
open-no_line text e u s h k (inr is) same =
    let both = text-once text u e (13 ∷ 10 ∷ s) h k (open-ends e (inr is)) (ends-return (10 ∷ s)) (same ∙ line-before u s) in
    let f = tails 13 13 [] (10 ∷ s) (sym is ∙ both.1) in cc f

-- ---- Lines

-- the rest of bytes ends a text, if its source does
source-ends : (f : List ℕ) (longest : ℕ) (u : List ℕ) → EndsText longest u (units f)
    → (length u ≡ longest) ⊎ EndsHere f
source-ends [] longest u h = inr tt
source-ends (c ∷ f) longest u (inl full) = inl full
source-ends (c ∷ f) longest u (inr ends) = inr ends

-- where a line breaks off, its end does
pub line-ends : (longest : ℕ) (text e : List ℕ) (cause : Cause) (rest : Source ℕ)
    → IsText longest text → EndsHere e → LineBreaksOff cause longest (units (text ++ e)) rest
    → EndBreaksOff cause (units e) rest
line-ends longest text e cause rest fits ends (u, (end, (a, k, over, breaks))) =
    let there = units-ahead (text ++ e) u end a in
    let f = there.0 in
    let same : e ≡ f =
    elim (source-ends f longest u (subst (EndsText longest u) there.1.1 over)) [
      | inl full ↦ (text-full text u e f k.0 ends (omega (arith, fits.1, full)) there.1.0).1
      | inr here ↦ (text-once text u e f fits.0 k.0 ends here there.1.0).1
    ] in
    subst (λ s. EndBreaksOff cause s rest) (there.1.1 ∙ ap units (sym same)) breaks

-- the end of a line breaks off after nothing, or after CR, only since the bytes end
pub end-open : (e : List ℕ) (cause : Cause) (rest : Source ℕ) → IsOpenEnd e
    → EndBreaksOff cause (units e) rest → cause ≡ EndsInside
end-open e cause rest (inl none) (is, inl (same, miss)) =
    is ∙ ap (λ r. cause_at r NoLineEnd) (sym same ∙ ap units none)
end-open e cause rest (inl none) (is, inr (a, miss)) =
    let k = units-ahead e (13 ∷ []) rest a in absurd (let f = sym none ∙ k.1.0 in cc f)
end-open e cause rest (inr cr) (is, inl (same, miss)) =
    absurd (miss (subst (λ r. StartsWith 13 (bytes_of r)) (sym (ap units cr) ∙ same) refl))
end-open e cause rest (inr cr) (is, inr (a, miss)) =
    let k = units-ahead e (13 ∷ []) rest a in
    let none : [] ≡ k.0 = tails 13 13 [] k.0 (sym cr ∙ k.1.0) in
    is ∙ ap (λ r. cause_at r NoLineEnd) (k.1.1 ∙ ap units (sym none))

-- the end of a line that is there breaks off nowhere
pub end-whole : (s : List ℕ) (cause : Cause) (rest : Source ℕ)
    → ¬ (EndBreaksOff cause (units (13 ∷ 10 ∷ s)) rest)
end-whole s cause rest (is, inl (same, miss)) =
    miss (subst (λ r. StartsWith 13 (bytes_of r)) same refl)
end-whole s cause rest (is, inr (a, miss)) =
    let k = units-ahead (13 ∷ 10 ∷ s) (13 ∷ []) rest a in
    let f : 10 ∷ s ≡ k.0 = tails 13 13 (10 ∷ s) k.0 k.1.0 in
    miss (subst (λ r. StartsWith 10 (bytes_of r)) (ap units f ∙ sym k.1.1) refl)

-- a line breaks off after its text, or after CR, only since the bytes end
pub line-open : (longest : ℕ) (text e : List ℕ) (cause : Cause) (rest : Source ℕ)
    → IsText longest text → IsOpenEnd e → LineBreaksOff cause longest (units (text ++ e)) rest
    → cause ≡ EndsInside
line-open longest text e cause rest fits cut h =
    end-open e cause rest cut (line-ends longest text e cause rest fits (open-ends e cut) h)

-- a line that is there breaks off nowhere
pub line-whole : (longest : ℕ) (text s : List ℕ) (cause : Cause) (rest : Source ℕ)
    → IsText longest text → ¬ (LineBreaksOff cause longest (units (line text ++ s)) rest)
line-whole longest text s cause rest fits h =
    end-whole s cause rest (line-ends longest text (13 ∷ 10 ∷ s) cause rest fits (ends-return (10 ∷ s))
    (subst (λ t. LineBreaksOff cause longest (units t) rest) (line-before text s) h))

-- ---- Numbers

module _ {R : Type 0} (is_number : List ℕ → R → Type 0) (is_wrong : List ℕ → Type 0) (cause : Cause) where
  -- a line with a number breaks off after its text, or after CR, only since the bytes end
  pub number-open : (text e : List ℕ) (rest : Source ℕ) → IsText most_digits text → IsOpenEnd e
      → NumberBreaksOff is_number is_wrong cause (units (text ++ e)) rest → cause ≡ EndsInside
  number-open text e rest fits cut (inl h) = line-open most_digits text e cause rest fits cut h
  number-open text e rest fits cut (inr (same, (u, (after, (a, k, lacks, wrong))))) =
      let there = units-ahead (text ++ e) (line u) after a in
      absurd (open-no_line text e u there.0 fits.0 k.0 cut there.1.0)

  -- a line with a number that is there breaks off nowhere
  pub number-whole : (text s : List ℕ) (number : R) (rest : Source ℕ) → IsText most_digits text
      → is_number text number → ¬ (NumberBreaksOff is_number is_wrong cause (units (line text ++ s)) rest)
  number-whole text s number rest fits is (inl h) = line-whole most_digits text s cause rest fits h
  number-whole text s number rest fits is (inr (same, (u, (after, (a, k, lacks, wrong))))) =
      let there = units-ahead (line text ++ s) (line u) after a in
      let both = line-once text u s there.0 fits.0 k.0 there.1.0 in
      lacks number (subst (λ t. is_number t number) both.0 is)
