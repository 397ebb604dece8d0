-- Values that are spelled one after the other.
use Rattle.std.specs.Prelude.{◌≡◌, ℕ, List, ◌++◌}
use Rattle.std.proofs.Common.{ap, sym, ◌∙◌, subst, append_assoc}
use Rattle.std.proofs.lemmas.List.{append_cancel_left}
use Rattle.winnow_codec.specs.Formats.{Spelling, IsFormat}
use Rattle.winnow_codec.specs.FormatParts.{SpellsParts, HaveSameParts, IsFormat-Parts}

-- the spelling of the first value, and then that of the second, whose format the first may choose
abbrev pub SpellsBoth : {V W : Type 0} → Spelling V → (V → Spelling W) → Spelling (V × W)
SpellsBoth first second p bytes = (front back : List ℕ) × (first p.0 front × second p.0 p.1 back × (bytes ≡ front ++ back))

-- both parts are the same
abbrev pub AreBothSame : {V W : Type 0} → (V → V → Type 0) → (W → W → Type 0) → V × W → V × W
    → Type 0
AreBothSame same alike p q = same p.0 q.0 × alike p.1 q.1

-- values that are the same choose the same format
abbrev pub ChoosesBySame : {V W : Type 0} → (V → V → Type 0) → (V → Spelling W) → Type 0
ChoosesBySame {V} {W} same second = (v x : V) (w : W) (bytes : List ℕ) → same v x → second x w bytes → second v w bytes

module _ {V W : Type 0} (same : V → V → Type 0) (alike : W → W → Type 0) (first : Spelling V) (second : V → Spelling W) (f : IsFormat same first) (g : (v : V) → IsFormat alike (second v)) where
  both-prefix_free : ChoosesBySame same second → (p q : V × W) (b c r s : List ℕ)
      → SpellsBoth first second p b
      → SpellsBoth first second q c → b ++ r ≡ c ++ s → AreBothSame same alike p q × (b ≡ c)
  both-prefix_free chooses p q b c r s (x, y, (h, k, e)) (z, w, (i, j, d)) t =
      let whole : x ++ (y ++ r) ≡ z ++ (w ++ s) = sym (append_assoc x y r) ∙ ap (λ l. l ++ r) (sym e) ∙ t ∙ ap (λ l. l ++ s) d ∙ append_assoc z w s in
      let one = f.prefix_free p.0 q.0 x z (y ++ r) (w ++ s) h i whole in
      let left : y ++ r ≡ w ++ s = append_cancel_left x (y ++ r) (w ++ s) (whole ∙ ap (λ l. l ++ (w ++ s)) (sym one.1)) in
      let two = (g p.0).prefix_free p.1 q.1 y w r s k (chooses p.0 q.0 q.1 w one.0 j) left in
      ((one.0, two.0), e ∙ ap (λ l. l ++ y) one.1 ∙ ap (λ l. z ++ l) two.1 ∙ sym d)

  both-canonical : (p : V × W) (b c : List ℕ) → SpellsBoth first second p b
      → SpellsBoth first second p c → b ≡ c
  both-canonical p b c (x, y, (h, k, e)) (z, w, (i, j, d)) =
      e ∙ ap (λ l. l ++ y) (f.canonical p.0 x z h i) ∙ ap (λ l. z ++ l) ((g p.0).canonical p.1 y w k j) ∙ sym d

  pub IsFormat-Both : ChoosesBySame same second → IsFormat (AreBothSame same alike)
      (SpellsBoth first second)
  IsFormat-Both chooses = record { canonical = both-canonical; prefix_free = both-prefix_free chooses }

-- the spelling of the first value, and then that of the second
abbrev pub SpellsPair : {V W : Type 0} → Spelling V → Spelling W → Spelling (V × W)
SpellsPair first second = SpellsBoth first (λ _. second)

pub IsFormat-Pair : {V W : Type 0} (same : V → V → Type 0) (alike : W → W → Type 0)
    (first : Spelling V) (second : Spelling W) → IsFormat same first → IsFormat alike second
    → IsFormat (AreBothSame same alike) (SpellsPair first second)
IsFormat-Pair same alike first second f g = IsFormat-Both same alike first (λ _. second) f (λ _. g) (λ _ _ _ _ _ h. h)

-- ---- A format that the first value chooses

pub IsFormat-Then : {V W F : Type 0} (same : V → V → Type 0) (exact : (v w : V) → same v w → v ≡ w)
    (first : Spelling V)
    → IsFormat same first → (alike : W → W → Type 0) (spells : F → Spelling W) → ((f : F) → IsFormat alike (spells f))
    → (chosen : V → F) → IsFormat (AreBothSame same alike) (SpellsBoth first (λ v. spells (chosen v)))
IsFormat-Then same exact first f alike spells g chosen =
    IsFormat-Both same alike first (λ v. spells (chosen v)) f (λ v. g (chosen v)) (λ v x w bytes e k. subst (λ u. spells (chosen u) w bytes) (sym (exact v x e)) k)

-- ---- Three to ten in a row: the first value, and then the others

-- the first of three values, and the others
abbrev pub nested3 : {T1 T2 T3 : Type 0} → T1 × T2 × T3 → T1 × (T2 × T3)
nested3 t = (t.0, (t.1, t.2))

-- the spellings of three values, one after the other
abbrev pub SpellsRow3 : {T1 T2 T3 : Type 0} → Spelling T1 → Spelling T2 → Spelling T3
    → Spelling (T1 × T2 × T3)
SpellsRow3 a b c = SpellsParts nested3 (SpellsPair a (SpellsPair b c))

-- each of the three values is the same
abbrev pub AreSame3 : {T1 T2 T3 : Type 0} → (T1 → T1 → Type 0) → (T2 → T2 → Type 0)
    → (T3 → T3 → Type 0)
    → T1 × T2 × T3 → T1 × T2 × T3 → Type 0
AreSame3 a b c = HaveSameParts nested3 (AreBothSame a (AreBothSame b c))

pub IsFormat-Row3 : {T1 T2 T3 : Type 0} (sa : T1 → T1 → Type 0) (sb : T2 → T2 → Type 0)
    (sc : T3 → T3 → Type 0)
    (a : Spelling T1) (b : Spelling T2) (c : Spelling T3)
    → IsFormat sa a → IsFormat sb b → IsFormat sc c
    → IsFormat (AreSame3 sa sb sc) (SpellsRow3 a b c)
IsFormat-Row3 sa sb sc a b c la lb lc =
    IsFormat-Parts nested3 (AreBothSame sa (AreBothSame sb sc)) (SpellsPair a (SpellsPair b c))
    (IsFormat-Pair sa (AreBothSame sb sc) a (SpellsPair b c) la (IsFormat-Pair sb sc b c lb lc))

-- the first of four values, and the others
abbrev pub nested4 : {T1 T2 T3 T4 : Type 0} → T1 × T2 × T3 × T4 → T1 × (T2 × T3 × T4)
nested4 t = (t.0, (t.1, t.2, t.3))

-- the spellings of four values, one after the other
abbrev pub SpellsRow4 : {T1 T2 T3 T4 : Type 0} → Spelling T1 → Spelling T2 → Spelling T3
    → Spelling T4
    → Spelling (T1 × T2 × T3 × T4)
SpellsRow4 a b c d = SpellsParts nested4 (SpellsPair a (SpellsRow3 b c d))

-- each of the four values is the same
abbrev pub AreSame4 : {T1 T2 T3 T4 : Type 0} → (T1 → T1 → Type 0) → (T2 → T2 → Type 0)
    → (T3 → T3 → Type 0) → (T4 → T4 → Type 0)
    → T1 × T2 × T3 × T4 → T1 × T2 × T3 × T4 → Type 0
AreSame4 a b c d = HaveSameParts nested4 (AreBothSame a (AreSame3 b c d))

pub IsFormat-Row4 : {T1 T2 T3 T4 : Type 0} (sa : T1 → T1 → Type 0) (sb : T2 → T2 → Type 0)
    (sc : T3 → T3 → Type 0) (sd : T4 → T4 → Type 0)
    (a : Spelling T1) (b : Spelling T2) (c : Spelling T3) (d : Spelling T4)
    → IsFormat sa a → IsFormat sb b → IsFormat sc c → IsFormat sd d
    → IsFormat (AreSame4 sa sb sc sd) (SpellsRow4 a b c d)
IsFormat-Row4 sa sb sc sd a b c d la lb lc ld =
    IsFormat-Parts nested4 (AreBothSame sa (AreSame3 sb sc sd)) (SpellsPair a (SpellsRow3 b c d))
    (IsFormat-Pair sa (AreSame3 sb sc sd) a (SpellsRow3 b c d) la (IsFormat-Row3 sb sc sd b c d lb lc ld))

-- the first of five values, and the others
abbrev pub nested5 : {T1 T2 T3 T4 T5 : Type 0} → T1 × T2 × T3 × T4 × T5 → T1 × (T2 × T3 × T4 × T5)
nested5 t = (t.0, (t.1, t.2, t.3, t.4))

-- the spellings of five values, one after the other
abbrev pub SpellsRow5 : {T1 T2 T3 T4 T5 : Type 0} → Spelling T1 → Spelling T2 → Spelling T3
    → Spelling T4 → Spelling T5
    → Spelling (T1 × T2 × T3 × T4 × T5)
SpellsRow5 a b c d f = SpellsParts nested5 (SpellsPair a (SpellsRow4 b c d f))

-- each of the five values is the same
abbrev pub AreSame5 : {T1 T2 T3 T4 T5 : Type 0} → (T1 → T1 → Type 0) → (T2 → T2 → Type 0)
    → (T3 → T3 → Type 0) → (T4 → T4 → Type 0) → (T5 → T5 → Type 0)
    → T1 × T2 × T3 × T4 × T5 → T1 × T2 × T3 × T4 × T5 → Type 0
AreSame5 a b c d f = HaveSameParts nested5 (AreBothSame a (AreSame4 b c d f))

pub IsFormat-Row5 : {T1 T2 T3 T4 T5 : Type 0} (sa : T1 → T1 → Type 0) (sb : T2 → T2 → Type 0)
    (sc : T3 → T3 → Type 0) (sd : T4 → T4 → Type 0) (sf : T5 → T5 → Type 0)
    (a : Spelling T1) (b : Spelling T2) (c : Spelling T3) (d : Spelling T4) (f : Spelling T5)
    → IsFormat sa a → IsFormat sb b → IsFormat sc c → IsFormat sd d → IsFormat sf f
    → IsFormat (AreSame5 sa sb sc sd sf) (SpellsRow5 a b c d f)
IsFormat-Row5 sa sb sc sd sf a b c d f la lb lc ld lf =
    IsFormat-Parts nested5 (AreBothSame sa (AreSame4 sb sc sd sf)) (SpellsPair a (SpellsRow4 b c d f))
    (IsFormat-Pair sa (AreSame4 sb sc sd sf) a (SpellsRow4 b c d f) la (IsFormat-Row4 sb sc sd sf b c d f lb lc ld lf))

-- the first of six values, and the others
abbrev pub nested6 : {T1 T2 T3 T4 T5 T6 : Type 0} → T1 × T2 × T3 × T4 × T5 × T6
    → T1 × (T2 × T3 × T4 × T5 × T6)
nested6 t = (t.0, (t.1, t.2, t.3, t.4, t.5))

-- the spellings of six values, one after the other
abbrev pub SpellsRow6 : {T1 T2 T3 T4 T5 T6 : Type 0} → Spelling T1 → Spelling T2 → Spelling T3
    → Spelling T4 → Spelling T5 → Spelling T6
    → Spelling (T1 × T2 × T3 × T4 × T5 × T6)
SpellsRow6 a b c d f g = SpellsParts nested6 (SpellsPair a (SpellsRow5 b c d f g))

-- each of the six values is the same
abbrev pub AreSame6 : {T1 T2 T3 T4 T5 T6 : Type 0} → (T1 → T1 → Type 0) → (T2 → T2 → Type 0)
    → (T3 → T3 → Type 0) → (T4 → T4 → Type 0) → (T5 → T5 → Type 0) → (T6 → T6 → Type 0)
    → T1 × T2 × T3 × T4 × T5 × T6 → T1 × T2 × T3 × T4 × T5 × T6 → Type 0
AreSame6 a b c d f g = HaveSameParts nested6 (AreBothSame a (AreSame5 b c d f g))

pub IsFormat-Row6 : {T1 T2 T3 T4 T5 T6 : Type 0} (sa : T1 → T1 → Type 0) (sb : T2 → T2 → Type 0)
    (sc : T3 → T3 → Type 0) (sd : T4 → T4 → Type 0) (sf : T5 → T5 → Type 0) (sg : T6 → T6 → Type 0)
    (a : Spelling T1) (b : Spelling T2) (c : Spelling T3) (d : Spelling T4) (f : Spelling T5)
    (g : Spelling T6)
    → IsFormat sa a → IsFormat sb b → IsFormat sc c → IsFormat sd d → IsFormat sf f → IsFormat sg g
    → IsFormat (AreSame6 sa sb sc sd sf sg) (SpellsRow6 a b c d f g)
IsFormat-Row6 sa sb sc sd sf sg a b c d f g la lb lc ld lf lg =
    IsFormat-Parts nested6 (AreBothSame sa (AreSame5 sb sc sd sf sg)) (SpellsPair a (SpellsRow5 b c d f g))
    (IsFormat-Pair sa (AreSame5 sb sc sd sf sg) a (SpellsRow5 b c d f g) la (IsFormat-Row5 sb sc sd sf sg b c d f g lb lc ld lf lg))

-- the first of seven values, and the others
abbrev pub nested7 : {T1 T2 T3 T4 T5 T6 T7 : Type 0} → T1 × T2 × T3 × T4 × T5 × T6 × T7
    → T1 × (T2 × T3 × T4 × T5 × T6 × T7)
nested7 t = (t.0, (t.1, t.2, t.3, t.4, t.5, t.6))

-- the spellings of seven values, one after the other
abbrev pub SpellsRow7 : {T1 T2 T3 T4 T5 T6 T7 : Type 0} → Spelling T1 → Spelling T2 → Spelling T3
    → Spelling T4 → Spelling T5 → Spelling T6 → Spelling T7
    → Spelling (T1 × T2 × T3 × T4 × T5 × T6 × T7)
SpellsRow7 a b c d f g h = SpellsParts nested7 (SpellsPair a (SpellsRow6 b c d f g h))

-- each of the seven values is the same
abbrev pub AreSame7 : {T1 T2 T3 T4 T5 T6 T7 : Type 0} → (T1 → T1 → Type 0) → (T2 → T2 → Type 0)
    → (T3 → T3 → Type 0) → (T4 → T4 → Type 0) → (T5 → T5 → Type 0) → (T6 → T6 → Type 0)
    → (T7 → T7 → Type 0)
    → T1 × T2 × T3 × T4 × T5 × T6 × T7 → T1 × T2 × T3 × T4 × T5 × T6 × T7 → Type 0
AreSame7 a b c d f g h = HaveSameParts nested7 (AreBothSame a (AreSame6 b c d f g h))

pub IsFormat-Row7 : {T1 T2 T3 T4 T5 T6 T7 : Type 0} (sa : T1 → T1 → Type 0) (sb : T2 → T2 → Type 0)
    (sc : T3 → T3 → Type 0) (sd : T4 → T4 → Type 0) (sf : T5 → T5 → Type 0) (sg : T6 → T6 → Type 0)
    (sh : T7 → T7 → Type 0)
    (a : Spelling T1) (b : Spelling T2) (c : Spelling T3) (d : Spelling T4) (f : Spelling T5)
    (g : Spelling T6) (h : Spelling T7)
    → IsFormat sa a → IsFormat sb b → IsFormat sc c → IsFormat sd d → IsFormat sf f → IsFormat sg g → IsFormat sh h
    → IsFormat (AreSame7 sa sb sc sd sf sg sh) (SpellsRow7 a b c d f g h)
IsFormat-Row7 sa sb sc sd sf sg sh a b c d f g h la lb lc ld lf lg lh =
    IsFormat-Parts nested7 (AreBothSame sa (AreSame6 sb sc sd sf sg sh)) (SpellsPair a (SpellsRow6 b c d f g h))
    (IsFormat-Pair sa (AreSame6 sb sc sd sf sg sh) a (SpellsRow6 b c d f g h) la (IsFormat-Row6 sb sc sd sf sg sh b c d f g h lb lc ld lf lg lh))

-- the first of eight values, and the others
abbrev pub nested8 : {T1 T2 T3 T4 T5 T6 T7 T8 : Type 0} → T1 × T2 × T3 × T4 × T5 × T6 × T7 × T8
    → T1 × (T2 × T3 × T4 × T5 × T6 × T7 × T8)
nested8 t = (t.0, (t.1, t.2, t.3, t.4, t.5, t.6, t.7))

-- the spellings of eight values, one after the other
abbrev pub SpellsRow8 : {T1 T2 T3 T4 T5 T6 T7 T8 : Type 0} → Spelling T1 → Spelling T2 → Spelling T3
    → Spelling T4 → Spelling T5 → Spelling T6 → Spelling T7 → Spelling T8
    → Spelling (T1 × T2 × T3 × T4 × T5 × T6 × T7 × T8)
SpellsRow8 a b c d f g h j = SpellsParts nested8 (SpellsPair a (SpellsRow7 b c d f g h j))

-- each of the eight values is the same
abbrev pub AreSame8 : {T1 T2 T3 T4 T5 T6 T7 T8 : Type 0} → (T1 → T1 → Type 0) → (T2 → T2 → Type 0)
    → (T3 → T3 → Type 0) → (T4 → T4 → Type 0) → (T5 → T5 → Type 0) → (T6 → T6 → Type 0)
    → (T7 → T7 → Type 0) → (T8 → T8 → Type 0)
    → T1 × T2 × T3 × T4 × T5 × T6 × T7 × T8 → T1 × T2 × T3 × T4 × T5 × T6 × T7 × T8 → Type 0
AreSame8 a b c d f g h j = HaveSameParts nested8 (AreBothSame a (AreSame7 b c d f g h j))

pub IsFormat-Row8 : {T1 T2 T3 T4 T5 T6 T7 T8 : Type 0} (sa : T1 → T1 → Type 0)
    (sb : T2 → T2 → Type 0) (sc : T3 → T3 → Type 0) (sd : T4 → T4 → Type 0) (sf : T5 → T5 → Type 0)
    (sg : T6 → T6 → Type 0) (sh : T7 → T7 → Type 0) (sj : T8 → T8 → Type 0)
    (a : Spelling T1) (b : Spelling T2) (c : Spelling T3) (d : Spelling T4) (f : Spelling T5)
    (g : Spelling T6) (h : Spelling T7) (j : Spelling T8)
    → IsFormat sa a → IsFormat sb b → IsFormat sc c → IsFormat sd d → IsFormat sf f → IsFormat sg g → IsFormat sh h → IsFormat sj j
    → IsFormat (AreSame8 sa sb sc sd sf sg sh sj) (SpellsRow8 a b c d f g h j)
IsFormat-Row8 sa sb sc sd sf sg sh sj a b c d f g h j la lb lc ld lf lg lh lj =
    IsFormat-Parts nested8 (AreBothSame sa (AreSame7 sb sc sd sf sg sh sj)) (SpellsPair a (SpellsRow7 b c d f g h j))
    (IsFormat-Pair sa (AreSame7 sb sc sd sf sg sh sj) a (SpellsRow7 b c d f g h j) la (IsFormat-Row7 sb sc sd sf sg sh sj b c d f g h j lb lc ld lf lg lh lj))

-- the first of nine values, and the others
abbrev pub nested9 : {T1 T2 T3 T4 T5 T6 T7 T8 T9 : Type 0}
    → T1 × T2 × T3 × T4 × T5 × T6 × T7 × T8 × T9 → T1 × (T2 × T3 × T4 × T5 × T6 × T7 × T8 × T9)
nested9 t = (t.0, (t.1, t.2, t.3, t.4, t.5, t.6, t.7, t.8))

-- the spellings of nine values, one after the other
abbrev pub SpellsRow9 : {T1 T2 T3 T4 T5 T6 T7 T8 T9 : Type 0} → Spelling T1 → Spelling T2
    → Spelling T3 → Spelling T4 → Spelling T5 → Spelling T6 → Spelling T7 → Spelling T8
    → Spelling T9
    → Spelling (T1 × T2 × T3 × T4 × T5 × T6 × T7 × T8 × T9)
SpellsRow9 a b c d f g h j k = SpellsParts nested9 (SpellsPair a (SpellsRow8 b c d f g h j k))

-- each of the nine values is the same
abbrev pub AreSame9 : {T1 T2 T3 T4 T5 T6 T7 T8 T9 : Type 0} → (T1 → T1 → Type 0)
    → (T2 → T2 → Type 0) → (T3 → T3 → Type 0) → (T4 → T4 → Type 0) → (T5 → T5 → Type 0)
    → (T6 → T6 → Type 0) → (T7 → T7 → Type 0) → (T8 → T8 → Type 0) → (T9 → T9 → Type 0)
    → T1 × T2 × T3 × T4 × T5 × T6 × T7 × T8 × T9 → T1 × T2 × T3 × T4 × T5 × T6 × T7 × T8 × T9 → Type 0
AreSame9 a b c d f g h j k = HaveSameParts nested9 (AreBothSame a (AreSame8 b c d f g h j k))

pub IsFormat-Row9 : {T1 T2 T3 T4 T5 T6 T7 T8 T9 : Type 0} (sa : T1 → T1 → Type 0)
    (sb : T2 → T2 → Type 0) (sc : T3 → T3 → Type 0) (sd : T4 → T4 → Type 0) (sf : T5 → T5 → Type 0)
    (sg : T6 → T6 → Type 0) (sh : T7 → T7 → Type 0) (sj : T8 → T8 → Type 0) (sk : T9 → T9 → Type 0)
    (a : Spelling T1) (b : Spelling T2) (c : Spelling T3) (d : Spelling T4) (f : Spelling T5)
    (g : Spelling T6) (h : Spelling T7) (j : Spelling T8) (k : Spelling T9)
    → IsFormat sa a → IsFormat sb b → IsFormat sc c → IsFormat sd d → IsFormat sf f → IsFormat sg g → IsFormat sh h → IsFormat sj j → IsFormat sk k
    → IsFormat (AreSame9 sa sb sc sd sf sg sh sj sk) (SpellsRow9 a b c d f g h j k)
IsFormat-Row9 sa sb sc sd sf sg sh sj sk a b c d f g h j k la lb lc ld lf lg lh lj lk =
    IsFormat-Parts nested9 (AreBothSame sa (AreSame8 sb sc sd sf sg sh sj sk)) (SpellsPair a (SpellsRow8 b c d f g h j k))
    (IsFormat-Pair sa (AreSame8 sb sc sd sf sg sh sj sk) a (SpellsRow8 b c d f g h j k) la (IsFormat-Row8 sb sc sd sf sg sh sj sk b c d f g h j k lb lc ld lf lg lh lj lk))

-- the first of ten values, and the others
abbrev pub nested10 : {T1 T2 T3 T4 T5 T6 T7 T8 T9 T10 : Type 0}
    → T1 × T2 × T3 × T4 × T5 × T6 × T7 × T8 × T9 × T10
    → T1 × (T2 × T3 × T4 × T5 × T6 × T7 × T8 × T9 × T10)
nested10 t = (t.0, (t.1, t.2, t.3, t.4, t.5, t.6, t.7, t.8, t.9))

-- the spellings of ten values, one after the other
abbrev pub SpellsRow10 : {T1 T2 T3 T4 T5 T6 T7 T8 T9 T10 : Type 0} → Spelling T1 → Spelling T2
    → Spelling T3 → Spelling T4 → Spelling T5 → Spelling T6 → Spelling T7 → Spelling T8
    → Spelling T9 → Spelling T10
    → Spelling (T1 × T2 × T3 × T4 × T5 × T6 × T7 × T8 × T9 × T10)
SpellsRow10 a b c d f g h j k l = SpellsParts nested10 (SpellsPair a (SpellsRow9 b c d f g h j k l))

-- each of the ten values is the same
abbrev pub AreSame10 : {T1 T2 T3 T4 T5 T6 T7 T8 T9 T10 : Type 0} → (T1 → T1 → Type 0)
    → (T2 → T2 → Type 0) → (T3 → T3 → Type 0) → (T4 → T4 → Type 0) → (T5 → T5 → Type 0)
    → (T6 → T6 → Type 0) → (T7 → T7 → Type 0) → (T8 → T8 → Type 0) → (T9 → T9 → Type 0)
    → (T10 → T10 → Type 0)
    → T1 × T2 × T3 × T4 × T5 × T6 × T7 × T8 × T9 × T10 → T1 × T2 × T3 × T4 × T5 × T6 × T7 × T8 × T9 × T10 → Type 0
AreSame10 a b c d f g h j k l = HaveSameParts nested10 (AreBothSame a (AreSame9 b c d f g h j k l))

pub IsFormat-Row10 : {T1 T2 T3 T4 T5 T6 T7 T8 T9 T10 : Type 0} (sa : T1 → T1 → Type 0)
    (sb : T2 → T2 → Type 0) (sc : T3 → T3 → Type 0) (sd : T4 → T4 → Type 0) (sf : T5 → T5 → Type 0)
    (sg : T6 → T6 → Type 0) (sh : T7 → T7 → Type 0) (sj : T8 → T8 → Type 0) (sk : T9 → T9 → Type 0)
    (sl : T10 → T10 → Type 0)
    (a : Spelling T1) (b : Spelling T2) (c : Spelling T3) (d : Spelling T4) (f : Spelling T5)
    (g : Spelling T6) (h : Spelling T7) (j : Spelling T8) (k : Spelling T9) (l : Spelling T10)
    → IsFormat sa a → IsFormat sb b → IsFormat sc c → IsFormat sd d → IsFormat sf f → IsFormat sg g → IsFormat sh h → IsFormat sj j → IsFormat sk k → IsFormat sl l
    → IsFormat (AreSame10 sa sb sc sd sf sg sh sj sk sl) (SpellsRow10 a b c d f g h j k l)
IsFormat-Row10 sa sb sc sd sf sg sh sj sk sl a b c d f g h j k l la lb lc ld lf lg lh lj lk ll =
    IsFormat-Parts nested10 (AreBothSame sa (AreSame9 sb sc sd sf sg sh sj sk sl)) (SpellsPair a (SpellsRow9 b c d f g h j k l))
    (IsFormat-Pair sa (AreSame9 sb sc sd sf sg sh sj sk sl) a (SpellsRow9 b c d f g h j k l) la (IsFormat-Row9 sb sc sd sf sg sh sj sk sl b c d f g h j k l lb lc ld lf lg lh lj lk ll))
