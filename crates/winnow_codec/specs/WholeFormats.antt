-- Formats of a whole part, whose values end where the part does, and parts within a length.
use Rattle.std.specs.declared.alloc.Global.{Global}
use Rattle.std.specs.Prelude.{Vec, ◌≡◌, ◌≢◌, ℕ, List, [], ◌∷◌, ◌++◌, length, Result, Ok, Err, ⊤}
use Rattle.std.proofs.Common.{ap, sym, ◌∙◌, subst, refl}
use Rattle.std.proofs.lemmas.List.{append_cancel_left}
use Rattle.winnow_codec.specs.Formats.{Spelling, IsFormat, IsEqual, IsFormat-Exact}
use Rattle.winnow_codec.specs.FormatRows.{SpellsBoth, IsFormat-Both}
use Rattle.winnow_codec.specs.FormatParts.{SpellsParts}
use Rattle.winnow_codec.specs.Lists.{SpellsEach, AreSameEach, HaveSameItems, each-canonical}
use Rattle.winnow_codec.specs.Bytes.{same-front}
use Rattle.winnow_codec.specs.declared.unread.Unread.{Unread}
use Rattle.winnow_codec.specs.declared.unread.Unread.TheVariants.{Malformed, Refused}

-- the laws of a format of a whole part: a value has one spelling, and a spelling is of one value
pub record IsWhole {V : Type 0} (same : V → V → Type 0) (spells : Spelling V) : Type 0 where
  pub canonical : (v : V) (bytes others : List ℕ) → spells v bytes → spells v others
      → bytes ≡ others
  pub one_value : (v w : V) (bytes : List ℕ) → spells v bytes → spells w bytes → same v w

-- what a reader of a whole part may answer: a value that all of its bytes spell, or that they spell
-- none
abbrev pub ReadsWhole : {V : Type 0} → Spelling V → List ℕ → Result V Unread → Type 0
ReadsWhole spells bytes (Ok v) = spells v bytes
ReadsWhole {V} spells bytes (Err Malformed) = (v : V) → spells v bytes → ⊥
ReadsWhole spells bytes (Err (Refused e)) = ⊤

-- what a reader of a value at the front of bytes may answer, and the bytes that it leaves: a value
-- whose spelling stands first, or that none does
abbrev pub ReadsFirst : {V : Type 0} → Spelling V → List ℕ → Result V Unread → List ℕ → Type 0
ReadsFirst spells bytes (Ok v) left = (front : List ℕ) × (spells v front × (bytes ≡ front ++ left))
ReadsFirst {V} spells bytes (Err Malformed) left = (v : V) (front rest : List ℕ) → spells v front → bytes ≡ front ++ rest → ⊥
ReadsFirst spells bytes (Err (Refused e)) left = ⊤

-- a format keeps the laws of one that fills its part
pub IsWhole-Format : {V : Type 0} (same : V → V → Type 0) (spells : Spelling V)
    → IsFormat same spells
    → IsWhole same spells
IsWhole-Format same spells f = record {
  canonical = f.canonical;
  one_value = λ v w b h k. (f.prefix_free v w b b [] [] h k refl).0;
}

-- ---- All bytes of a part

-- all bytes of a part are themselves
abbrev pub SpellsRest : Spelling (Vec ℕ Global)
SpellsRest v bytes = bytes ≡ v.items

-- the vectors have the same bytes
abbrev pub AreSameRest : Vec ℕ Global → Vec ℕ Global → Type 0
AreSameRest v w = v.items ≡ w.items

pub IsWhole-Rest : IsWhole AreSameRest SpellsRest
IsWhole-Rest = record { canonical = λ v b c h k. h ∙ sym k; one_value = λ v w b h k. sym h ∙ k }

-- ---- A list to the end of a part

-- a value that at least one byte spells
abbrev pub SpellsSome : {V : Type 0} → Spelling V → Spelling V
SpellsSome inner v bytes = inner v bytes × (bytes ≢ [])

pub IsFormat-Some : {V : Type 0} (same : V → V → Type 0) (inner : Spelling V) → IsFormat same inner
    → IsFormat same (SpellsSome inner)
IsFormat-Some same inner f = record {
  canonical = λ v b c h k. f.canonical v b c h.0 k.0;
  prefix_free = λ v w b c r s h k. f.prefix_free v w b c r s h.0 k.0;
}

-- the values of a vector, one after the other, each of at least one byte
abbrev pub SpellsToEnd : {V : Type 0} → Spelling V → Spelling (Vec V Global)
SpellsToEnd inner = SpellsParts (λ v. v.items) (SpellsEach (SpellsSome inner))

module _ {V : Type 0} (same : V → V → Type 0) (inner : Spelling V) (f : IsFormat same inner) where
  -- bytes of which one is first are some
  pub some-more : (x y b : List ℕ) → x ≢ [] → b ≡ x ++ y → b ≢ []
  some-more [] y b some e = absurd (some refl)
  some-more (z ∷ zs) y b some e = λ none. cc

  end-one_value : (vs ws : List V) (b : List ℕ) → SpellsEach (SpellsSome inner) vs b
      → SpellsEach (SpellsSome inner) ws b → AreSameEach same vs ws
  end-one_value [] [] b h k = tt
  end-one_value [] (w ∷ ws) b h (x, y, (i, j, e)) = absurd (some-more x y b i.1 e h)
  end-one_value (v ∷ vs) [] b (x, y, (i, j, e)) k = absurd (some-more x y b i.1 e k)
  end-one_value (v ∷ vs) (w ∷ ws) b (x, y, (h, k, e)) (z, u, (i, j, d)) =
      let one = f.prefix_free v w x z y u h.0 i.0 (sym e ∙ d) in
      let left : y ≡ u = append_cancel_left x y u (sym e ∙ d ∙ ap (λ l. l ++ u) (sym one.1)) in
      (one.0, end-one_value vs ws y k (subst (SpellsEach (SpellsSome inner) ws) (sym left) j))

  pub IsWhole-ToEnd : IsWhole (HaveSameItems same) (SpellsToEnd inner)
  IsWhole-ToEnd = record {
    canonical = λ v. each-canonical same (SpellsSome inner) (IsFormat-Some same inner f) v.items;
    one_value = λ v w. end-one_value v.items w.items;
  }

-- ---- A part within a length

-- the value fills this number of bytes
abbrev pub SpellsFilling : {V : Type 0} → Spelling V → ℕ → Spelling V
SpellsFilling inner n v bytes = (length bytes ≡ n) × inner v bytes

-- the number of bytes of the value, and then the value
abbrev pub SpellsWithin : {V : Type 0} → Spelling ℕ → Spelling V → Spelling V
SpellsWithin count inner v bytes = (n : ℕ) × SpellsBoth count (SpellsFilling inner) (n, v) bytes

module _ {V : Type 0} (same : V → V → Type 0) (inner : Spelling V) (f : IsWhole same inner) where
  pub IsFormat-Filling : (n : ℕ) → IsFormat same (SpellsFilling inner n)
  IsFormat-Filling n = record {
    canonical = λ v b c h k. f.canonical v b c h.1 k.1;
    prefix_free = λ v w b c r s h k t.
        let e = same-front b c r s (h.0 ∙ sym k.0) t in
        (f.one_value v w b h.1 (subst (inner w) (sym e) k.1), e);
  }

  pub IsFormat-Within : (alike : ℕ → ℕ → Type 0) (count : Spelling ℕ)
      → ((m n : ℕ) → alike m n → m ≡ n)
      → IsFormat alike count → IsFormat same (SpellsWithin count inner)
  IsFormat-Within alike count exact g =
      let laws = IsFormat-Both IsEqual same count (SpellsFilling inner) (IsFormat-Exact alike count exact g) IsFormat-Filling
      (λ m n v bytes e k. subst (λ i. SpellsFilling inner i v bytes) (sym e) k) in
      record {
        canonical = λ v b c (m, (x, y, (h, k, e))) (n, (z, w, (i, j, d))).
            let body = f.canonical v y w k.1 j.1 in
            let number : m ≡ n = sym k.0 ∙ ap length body ∙ j.0 in
            e ∙ ap (λ l. l ++ y) (g.canonical n x z (subst (λ o. count o x) number h) i) ∙ ap (λ l. z ++ l) body ∙ sym d;
        prefix_free = λ v w b c r s (m, h) (n, k) t. let p = laws.prefix_free (m, v) (n, w) b c r s h k t in (p.0.1, p.1);
      }
