-- Lists of values, which are spelled one after the other.
use Rattle.std.specs.declared.alloc.Global.{Global}
use Rattle.std.specs.Prelude.{Vec, ◌≡◌, ℕ, List, [], ◌∷◌, ◌++◌, length, ⊤}
use Rattle.std.proofs.Common.{ap, sym, ◌∙◌, subst, append_assoc, arith}
use Rattle.std.proofs.lemmas.List.{append_cancel_left}
use Rattle.winnow_codec.specs.Formats.{Spelling, IsFormat, IsEqual, IsFormat-Exact}
use Rattle.winnow_codec.specs.FormatParts.{SpellsParts, HaveSameParts, IsFormat-Parts}
use Rattle.winnow_codec.specs.FormatRows.{SpellsBoth, AreBothSame, IsFormat-Both}

-- the spellings of the values, one after the other
abbrev pub SpellsEach : {V : Type 0} → Spelling V → List V → List ℕ → Type 0
SpellsEach inner [] bytes = bytes ≡ []
SpellsEach inner (v ∷ vs) bytes = (front back : List ℕ) × (inner v front × SpellsEach inner vs back × (bytes ≡ front ++ back))

-- the lists have as many values, each the same
abbrev pub AreSameEach : {V : Type 0} → (V → V → Type 0) → List V → List V → Type 0
AreSameEach same [] [] = ⊤
AreSameEach same [] (w ∷ ws) = ⊥
AreSameEach same (v ∷ vs) [] = ⊥
AreSameEach same (v ∷ vs) (w ∷ ws) = same v w × AreSameEach same vs ws

-- that many values
abbrev pub SpellsTimes : {V : Type 0} → Spelling V → ℕ → Spelling (List V)
SpellsTimes inner n vs bytes = (length vs ≡ n) × SpellsEach inner vs bytes

-- how many values there are, and then the values
abbrev pub SpellsList : {V : Type 0} → Spelling ℕ → Spelling V → Spelling (List V)
SpellsList count inner = SpellsParts (λ vs. (length vs, vs)) (SpellsBoth count (SpellsTimes inner))

module _ {V : Type 0} (same : V → V → Type 0) (inner : Spelling V) (f : IsFormat same inner) where
  pub each-canonical : (vs : List V) (b c : List ℕ) → SpellsEach inner vs b → SpellsEach inner vs c
      → b ≡ c
  each-canonical [] b c h k = h ∙ sym k
  each-canonical (v ∷ vs) b c (x, y, (h, k, e)) (z, w, (i, j, d)) =
      e ∙ ap (λ l. l ++ y) (f.canonical v x z h i) ∙ ap (λ l. z ++ l) (each-canonical vs y w k j) ∙ sym d

  each-prefix_free : (vs ws : List V) (b c r s : List ℕ) → length vs ≡ length ws
      → SpellsEach inner vs b
      → SpellsEach inner ws c → b ++ r ≡ c ++ s → AreSameEach same vs ws × (b ≡ c)
  each-prefix_free [] [] b c r s l h k e = (tt, h ∙ sym k)
  each-prefix_free [] (w ∷ ws) b c r s l h k e = absurd (omega (arith, l))
  each-prefix_free (v ∷ vs) [] b c r s l h k e = absurd (omega (arith, l))
  each-prefix_free (v ∷ vs) (u ∷ us) b c r s l (x, y, (h, k, e)) (z, w, (i, j, d)) t =
      let whole : x ++ (y ++ r) ≡ z ++ (w ++ s) = sym (append_assoc x y r) ∙ ap (λ l. l ++ r) (sym e) ∙ t ∙ ap (λ l. l ++ s) d ∙ append_assoc z w s in
      let one = f.prefix_free v u x z (y ++ r) (w ++ s) h i whole in
      let left : y ++ r ≡ w ++ s = append_cancel_left x (y ++ r) (w ++ s) (whole ∙ ap (λ l. l ++ (w ++ s)) (sym one.1)) in
      let fewer : length vs ≡ length us = omega (arith, l) in
      let two = each-prefix_free vs us y w r s fewer k j left in
      ((one.0, two.0), e ∙ ap (λ l. l ++ y) one.1 ∙ ap (λ l. z ++ l) two.1 ∙ sym d)

  pub IsFormat-Times : (n : ℕ) → IsFormat (AreSameEach same) (SpellsTimes inner n)
  IsFormat-Times n = record {
    canonical = λ vs b c h k. each-canonical vs b c h.1 k.1;
    prefix_free = λ vs ws b c r s h k. each-prefix_free vs ws b c r s (h.0 ∙ sym k.0) h.1 k.1;
  }

  pub IsFormat-List : (count : Spelling ℕ) → IsFormat IsEqual count
      → IsFormat (AreSameEach same) (SpellsList count inner)
  IsFormat-List count g =
      let h = IsFormat-Parts (λ vs. (length vs, vs)) (AreBothSame IsEqual (AreSameEach same)) (SpellsBoth count (SpellsTimes inner)) (IsFormat-Both IsEqual (AreSameEach same) count (SpellsTimes inner) g IsFormat-Times (λ m n vs bytes e k. subst (λ x. SpellsTimes inner x vs bytes) (sym e) k)) in
      record {
        canonical = h.canonical;
        prefix_free = λ v w b c r s i j e. let p = h.prefix_free v w b c r s i j e in (p.0.1, p.1);
      }

-- ---- Vectors

-- that many values of a vector
abbrev pub SpellsItems : {V : Type 0} → Spelling V → ℕ → Spelling (Vec V Global)
SpellsItems inner n = SpellsParts (λ v. v.items) (SpellsTimes inner n)

-- how many values a vector has, and then the values
abbrev pub SpellsItemsAfter : {V : Type 0} → Spelling ℕ → Spelling V → Spelling (Vec V Global)
SpellsItemsAfter count inner = SpellsParts (λ v. v.items) (SpellsList count inner)

-- the vectors have as many values, each the same
abbrev pub HaveSameItems : {V : Type 0} → (V → V → Type 0) → Vec V Global → Vec V Global → Type 0
HaveSameItems same = HaveSameParts (λ v. v.items) (AreSameEach same)

pub IsFormat-ItemsAfter : {V : Type 0} (same : V → V → Type 0) (inner : Spelling V)
    → IsFormat same inner
    → (alike : ℕ → ℕ → Type 0) (count : Spelling ℕ) → ((m n : ℕ) → alike m n → m ≡ n) → IsFormat alike count
    → IsFormat (HaveSameItems same) (SpellsItemsAfter count inner)
IsFormat-ItemsAfter same inner f alike count exact g =
    IsFormat-Parts (λ v. v.items) (AreSameEach same) (SpellsList count inner) (IsFormat-List same inner f count (IsFormat-Exact alike count exact g))

pub IsFormat-Items : {V : Type 0} (same : V → V → Type 0) (inner : Spelling V)
    → IsFormat same inner → (n : ℕ) → IsFormat (HaveSameItems same) (SpellsItems inner n)
IsFormat-Items same inner f n = IsFormat-Parts (λ v. v.items) (AreSameEach same) (SpellsTimes inner n) (IsFormat-Times same inner f n)
