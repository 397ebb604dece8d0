-- Values with separators between them, as a list.
use Rattle.std.proofs.Common.{◌≡◌, ℕ, zero, suc, ◌-◌, ◌≤◌, Bool, true, false, List, [], ◌∷◌, ◌++◌, length, Option, Some, None, ap, sym, ◌∙◌, subst, refl, arith}
use Rattle.winnow_parser.specs.Outcome.{Meaning}
use Rattle.winnow_parser.specs.Meanings.{Maps, Pair, IsOpt, IsPreceded}
use Rattle.winnow_combinator.specs.Repeat.{Repeats}
use Rattle.winnow_combinator.specs.Separated.{Prepends, Chained, OrNone, IsSeparated}
use Rattle.winnow_grammar.specs.Spelling.{Spelling}
use Rattle.winnow_grammar.specs.Spellings.{Then, After, InRow, Such, Several, HasLength, Listed, Perhaps}
use Rattle.winnow_exact.specs.Exact.{StartsIn, IsExact}
use Rattle.winnow_exact.specs.Languages.{StartsWith}
use Rattle.winnow_exact.proofs.lemmas.ListLemmas.{heads, not-empty, starts-on}
use Rattle.winnow_exact.proofs.lemmas.ValueLemmas.{IsExact-Maps, IsExact-as}
use Rattle.winnow_exact.proofs.lemmas.PairLemmas.{IsExact-Pair}
use Rattle.winnow_exact.proofs.lemmas.OptLemmas.{IsExact-IsOpt, IsExact-IsPreceded}
use Rattle.winnow_exact.proofs.lemmas.RowLemmas.{IsExact-InRow}

-- the list has at least so many values, and one
abbrev AtLeastOne : {O : Type 0} → ℕ → List O → Type 0
AtLeastOne least xs = (least ≤ length xs) × (1 ≤ length xs)

module _ {Q O T : Type 0} {S : Spelling Q T} {L : Spelling O T} {g f : T → Bool} {separator : Meaning Q T} {inner : Meaning O T} (s : IsExact S g separator) (r : IsExact L f inner) (k sign h : T → Bool) (left : (y : O) → L y [] → (c : T) → g c ≡ true → k c ≡ true) (right : (c : T) → f c ≡ true → k c ≡ true) (beside : (c : T) (y : O) (cs : List T) → g c ≡ true → L y (c ∷ cs) → ⊥) (signed : (x : Q) (p : List T) → S x p → StartsWith sign p) (apart : (c : T) → k c ≡ true → sign c ≡ true → ⊥) (onk : (c : T) → k c ≡ true → h c ≡ true) (onsign : (c : T) → sign c ≡ true → h c ≡ true) where
  -- a separator and a value start with a separator
  link-starts : (y : O) (p : List T) → After S L y p → StartsWith sign p
  link-starts y p (x, (u, (v, (e, a, b)))) =
      let n = signed x u a in (n.0, (n.1.0 ++ v, (e ∙ ap (λ t. t ++ v) n.1.1.0, n.1.1.1)))

  link-apart : (c : T) (y : O) (cs : List T) → k c ≡ true → After S L y (c ∷ cs) → ⊥
  link-apart c y cs is l =
      let n = link-starts y (c ∷ cs) l in
      apart c is (subst (λ d. sign d ≡ true) (sym (heads c n.0 cs n.1.0 n.1.1.0)) n.1.1.1)

  links-start : (ys : List O) (p : List T) → InRow (After S L) ys p → StartsIn sign p
  links-start [] p e = subst (StartsIn sign) (sym e) tt
  links-start (y ∷ ys) p (u, (v, (e, l, rest))) =
      let n = link-starts y u l in
      subst (StartsIn sign) (sym (e ∙ ap (λ t. t ++ v) n.1.1.0)) n.1.1.1

  links : (least : ℕ) → IsExact (Several least None (After S L)) h
      (Repeats least None (IsPreceded separator inner))
  links least = IsExact-InRow h (IsExact-IsPreceded separator inner (IsExact-Pair k s r left right beside)) onk
      (λ y p l. let n = link-starts y p l in subst (StartsIn h) (sym n.1.1.0) (onsign n.0 n.1.1.1))
      link-apart
      (λ y l. let n = link-starts y [] l in not-empty n.0 n.1.0 n.1.1.0) least

  links-apart : (least : ℕ) (c : T) (ys : List O) (cs : List T) → f c ≡ true
      → Several least None (After S L) ys (c ∷ cs) → ⊥
  links-apart least c ys cs is l = apart c (right c is) (links-start ys (c ∷ cs) l.1)

  chained-sound : (least : ℕ) (x : O × List O) (y : List O) (p : List T) → Prepends x y
      → Then L (Several (least - 1) None (After S L)) x p
      → Such (AtLeastOne least) (Listed S L) y p
  chained-sound least x y p e (u, (v, (split, l, m))) =
      let few = m.0.0 in
      subst (λ ys. Such (AtLeastOne least) (Listed S L) ys p) e
      ((omega (arith, few), omega (arith)), (u, (v, (split, l, m.1))))

  chained-back : (least : ℕ) (y : List O) (p : List T) → Such (AtLeastOne least) (Listed S L) y p
      → (x : O × List O) × Then L (Several (least - 1) None (After S L)) x p
  chained-back least [] p ((n, one), l) = absurd (omega (arith, one))
  chained-back least (x ∷ xs) p ((n, one), (u, (v, (split, l, m)))) =
      ((x, xs), (u, (v, (split, l, ((omega (arith, n), tt), m)))))

  chained : (least : ℕ) → IsExact (Such (AtLeastOne least) (Listed S L)) h
      (Chained least None separator inner)
  chained least = IsExact-Maps
      (IsExact-Pair h r (links (least - 1)) (λ ys l c e. onk c (right c e)) (λ c e. e) (links-apart (least - 1)))
      (Such (AtLeastOne least) (Listed S L)) Prepends (chained-sound least) (chained-back least)

  listed-sound : (x : Option (List O)) (y : List O) (p : List T) → OrNone x y
      → Perhaps (Such (AtLeastOne 0) (Listed S L)) x p → Such (HasLength 0 None) (Listed S L) y p
  listed-sound None y p e l =
      subst (λ ys. Such (HasLength 0 None) (Listed S L) ys p) e ((omega (arith), tt), l)
  listed-sound (Some xs) y p e (n, l) =
      subst (λ ys. Such (HasLength 0 None) (Listed S L) ys p) e ((omega (arith), tt), l)

  listed-back : (y : List O) (p : List T) → Such (HasLength 0 None) (Listed S L) y p
      → (x : Option (List O)) × Perhaps (Such (AtLeastOne 0) (Listed S L)) x p
  listed-back [] p (n, l) = (None, l)
  listed-back (x ∷ xs) p (n, l) = (Some (x ∷ xs), ((omega (arith), omega (arith)), l))

  module _ (begins : (y : O) (p : List T) → L y p → StartsIn h p) where
    chained-starts : (ys : List O) (p : List T) → Such (AtLeastOne 0) (Listed S L) ys p
        → StartsIn h p
    chained-starts [] p ((n, one), l) = absurd (omega (arith, one))
    chained-starts (x ∷ xs) p (n, ([], (v, (split, l, m)))) =
        subst (StartsIn h) (sym split) (starts-on sign h onsign v (links-start xs v m))
    chained-starts (x ∷ xs) p (n, (c ∷ cs, (v, (split, l, m)))) =
        subst (StartsIn h) (sym split) (begins x (c ∷ cs) l)

    -- values with separators between them, where no token that goes on after a value starts a
    -- separator, and none that goes on after a separator starts a value
    pub IsExact-IsSeparated : (least : ℕ)
        → IsExact (Such (HasLength least None) (Listed S L)) h
        (IsSeparated least None separator inner)
    IsExact-IsSeparated zero =
        IsExact-Maps (IsExact-IsOpt h (chained zero) (λ c e. e) chained-starts)
        (Such (HasLength zero None) (Listed S L)) OrNone listed-sound listed-back
    IsExact-IsSeparated (suc n) =
        IsExact-as (Such (HasLength (suc n) None) (Listed S L)) h (chained (suc n))
        (λ x p l. ((l.0.0, tt), l.1)) (λ x p l. let few = l.0.0 in ((few, omega (arith, few)), l.1)) (λ c e. e)
