-- Parsers in any order have one answer together if each has one.
use Rattle.std.specs.Prelude.{◌≡◌, Bool}
use Rattle.std.proofs.Common.{ap, sym, ◌∙◌, subst, inl, inr}
use Rattle.winnow_parser.specs.Outcome.{Ahead, Backtracks, Cuts, Needs, Refuses, Outcome, Gives, Fails, Meaning}
use Rattle.winnow_parser.specs.Meanings.{Maps}
use Rattle.winnow_parser.specs.FlatMap.{FlatMaps}
use Rattle.winnow_parser.specs.Determined.{IsGranted, Agree, IsDetermined, AreBothSame, Respects}
use Rattle.winnow_parser.specs.DeterminedRows.{AreSame3, AreSame4, AreSame5}
use Rattle.winnow_parser.proofs.lemmas.DeterminedLemmas.{determined-maps, determined-alt2}
use Rattle.winnow_combinator.proofs.lemmas.CombinedLemmas.{determined-appending}
use Rattle.winnow_permutation.specs.declared.turns.Turn.{Turn}
use Rattle.winnow_permutation.specs.declared.turns.Turn.TheVariants.{This, Other}
use Rattle.winnow_permutation.specs.Tried.{Tries}
use Rattle.winnow_permutation.specs.AnyOrder.{IsThis, IsOther, TakesTurn}
use Rattle.winnow_permutation.specs.Permutation.{TriesOnce, AfterTurn2, IsPermutation2, AfterTurn3, IsPermutation3, AfterTurn4, IsPermutation4, AfterTurn5, IsPermutation5}

-- ---- A parser that goes back

module _ {O T : Type 0} (same : O → O → Type 0) (inner : Meaning O T) (d : IsDetermined same inner) where
  -- `Tries` has one answer where the inner parser has one
  determined-tried : IsDetermined same (Tries inner)
  determined-tried partial a (Gives x b) (Gives y c) s t h k = d partial a (Gives x b) (Gives y c) tt tt h k
  determined-tried partial a (Gives x b) (Fails (Backtracks c)) s t h (e, (i, k)) = d partial a (Gives x b) (Fails (Backtracks i)) tt tt h k
  determined-tried partial a (Gives x b) (Fails (Cuts c)) s t h k = d partial a (Gives x b) (Fails (Cuts c)) tt tt h k
  determined-tried partial a (Gives x b) (Fails (Needs n)) s t h k = d partial a (Gives x b) (Fails (Needs n)) tt tt h k
  determined-tried partial a (Gives x b) (Fails Refuses) s t h k = absurd t
  determined-tried partial a (Fails (Backtracks b)) (Gives y c) s t (e, (i, h)) k = d partial a (Fails (Backtracks i)) (Gives y c) tt tt h k
  determined-tried partial a (Fails (Cuts b)) (Gives y c) s t h k = d partial a (Fails (Cuts b)) (Gives y c) tt tt h k
  determined-tried partial a (Fails (Needs n)) (Gives y c) s t h k = d partial a (Fails (Needs n)) (Gives y c) tt tt h k
  determined-tried partial a (Fails (Backtracks b)) (Fails (Backtracks c)) s t (e, h) (f, k) = ap Backtracks (sym e ∙ f)
  determined-tried partial a (Fails (Backtracks b)) (Fails (Cuts c)) s t (e, (i, h)) k =
      let same = d partial a (Fails (Backtracks i)) (Fails (Cuts c)) tt tt h k in cc
  determined-tried partial a (Fails (Backtracks b)) (Fails (Needs n)) s t (e, (i, h)) k =
      let same = d partial a (Fails (Backtracks i)) (Fails (Needs n)) tt tt h k in cc
  determined-tried partial a (Fails (Cuts b)) (Fails (Backtracks c)) s t h (f, (i, k)) =
      let same = d partial a (Fails (Cuts b)) (Fails (Backtracks i)) tt tt h k in cc
  determined-tried partial a (Fails (Needs n)) (Fails (Backtracks c)) s t h (f, (i, k)) =
      let same = d partial a (Fails (Needs n)) (Fails (Backtracks i)) tt tt h k in cc
  determined-tried partial a (Fails (Cuts b)) (Fails (Cuts c)) s t h k = d partial a (Fails (Cuts b)) (Fails (Cuts c)) tt tt h k
  determined-tried partial a (Fails (Cuts b)) (Fails (Needs n)) s t h k = d partial a (Fails (Cuts b)) (Fails (Needs n)) tt tt h k
  determined-tried partial a (Fails (Needs n)) (Fails (Cuts c)) s t h k = d partial a (Fails (Needs n)) (Fails (Cuts c)) tt tt h k
  determined-tried partial a (Fails (Needs n)) (Fails (Needs m)) s t h k = d partial a (Fails (Needs n)) (Fails (Needs m)) tt tt h k
  determined-tried partial a (Fails Refuses) w s t h k = absurd s
  determined-tried partial a (Fails (Backtracks b)) (Fails Refuses) s t h k = absurd t
  determined-tried partial a (Fails (Cuts b)) (Fails Refuses) s t h k = absurd t
  determined-tried partial a (Fails (Needs n)) (Fails Refuses) s t h k = absurd t

  -- `TriesOnce` has one answer where the inner parser has one
  determined-once : (q : Type 0) → IsDetermined same (TriesOnce q inner)
  determined-once q = determined-appending q same (Tries inner) determined-tried

-- ---- Turns

module _ {X Y : Type 0} (u : X → X → Type 0) (w : Y → Y → Type 0) where
  -- two turns are the same where they are of one parser, with values that are the same
  abbrev IsSameTurn : Turn X Y → Turn X Y → Type 0
  IsSameTurn (This x) (This y) = u x y
  IsSameTurn (This x) (Other y) = ⊥
  IsSameTurn (Other x) (This y) = ⊥
  IsSameTurn (Other x) (Other y) = w x y

  this-respects : Respects u IsSameTurn IsThis
  this-respects x y p q e h k = subst (λ m. IsSameTurn m q) h (subst (IsSameTurn (This x)) k e)

  other-respects : Respects w IsSameTurn IsOther
  other-respects x y p q e h k = subst (λ m. IsSameTurn m q) h (subst (IsSameTurn (Other x)) k e)

  -- a turn has one answer where both parsers have one
  determined-turn : {T : Type 0} (r : Type 0) (a : Meaning X T) (b : Meaning Y T)
      → IsDetermined u a → IsDetermined w b → IsDetermined IsSameTurn (TakesTurn r a b)
  determined-turn r a b d e =
      determined-alt2 r IsSameTurn (Maps IsThis a) (Maps IsOther b) (determined-maps u IsSameTurn IsThis this-respects a d)
      (determined-maps w IsSameTurn IsOther other-respects b e)

-- ---- A parser, and then one that its value chooses

-- the answers of two parsers agree
abbrev Meet : {O T : Type 0} → (O → O → Type 0) → Meaning O T → Meaning O T → Type 0
Meet {O} {T} alike m n = (partial : Bool) (a : Ahead T) (v w : Outcome O T) → IsGranted v
    → IsGranted w → m partial a v → n partial a w → Agree alike v w

module _ {O P T : Type 0} (same : O → O → Type 0) (alike : P → P → Type 0) (rest : O → Meaning P T) (first : Meaning O T) (d : IsDetermined same first) (one : (x y : O) → same x y → Meet alike (rest x) (rest y)) where
  -- what follows two values of the first parser agrees
  follow : (partial : Bool) (a : Ahead T) (v w : Outcome P T) → IsGranted v → IsGranted w
      → (x : O) (b : Ahead T) → first partial a (Gives x b) → rest x partial b v
      → (y : O) (c : Ahead T) → first partial a (Gives y c) → rest y partial c w → Agree alike v w
  follow partial a v w s t x b h i y c k j =
      let e = d partial a (Gives x b) (Gives y c) tt tt h k in
      one x y e.0 partial b v w s t i (subst (λ m. rest y partial m w) (sym e.1) j)

  -- what follows a value is that of the value
  of_value : (x q : O) → x ≡ q → (partial : Bool) (b : Ahead T) (v : Outcome P T)
      → rest q partial b v → rest x partial b v
  of_value x q e partial b v h = subst (λ m. rest m partial b v) (sym e) h

  -- the two have one answer together
  determined-continued : IsDetermined alike (FlatMaps ◌≡◌ rest first)
  determined-continued partial a (Gives y c) (Gives z e) s t h k =
      follow partial a (Gives y c) (Gives z e) tt tt
      h.0 h.1.0 h.1.1.1.0 (of_value h.0 h.1.1.0 h.1.1.1.1 partial h.1.0 (Gives y c) h.1.1.1.2)
      k.0 k.1.0 k.1.1.1.0 (of_value k.0 k.1.1.0 k.1.1.1.1 partial k.1.0 (Gives z e) k.1.1.1.2)
  determined-continued partial a (Gives y c) (Fails g) s t h (inl k) = d partial a (Gives h.0 h.1.0) (Fails g) tt t h.1.1.1.0 k
  determined-continued partial a (Gives y c) (Fails g) s t h (inr k) =
      follow partial a (Gives y c) (Fails g) tt t
      h.0 h.1.0 h.1.1.1.0 (of_value h.0 h.1.1.0 h.1.1.1.1 partial h.1.0 (Gives y c) h.1.1.1.2)
      k.0 k.1.0 k.1.1.1.0 (of_value k.0 k.1.1.0 k.1.1.1.1 partial k.1.0 (Fails g) k.1.1.1.2)
  determined-continued partial a (Fails f) (Gives z e) s t (inl h) k = d partial a (Fails f) (Gives k.0 k.1.0) s tt h k.1.1.1.0
  determined-continued partial a (Fails f) (Gives z e) s t (inr h) k =
      follow partial a (Fails f) (Gives z e) s tt
      h.0 h.1.0 h.1.1.1.0 (of_value h.0 h.1.1.0 h.1.1.1.1 partial h.1.0 (Fails f) h.1.1.1.2)
      k.0 k.1.0 k.1.1.1.0 (of_value k.0 k.1.1.0 k.1.1.1.1 partial k.1.0 (Gives z e) k.1.1.1.2)
  determined-continued partial a (Fails f) (Fails g) s t (inl h) (inl k) = d partial a (Fails f) (Fails g) s t h k
  determined-continued partial a (Fails f) (Fails g) s t (inl h) (inr k) = absurd (d partial a (Fails f) (Gives k.0 k.1.0) s tt h k.1.1.1.0)
  determined-continued partial a (Fails f) (Fails g) s t (inr h) (inl k) = absurd (d partial a (Gives h.0 h.1.0) (Fails g) tt t h.1.1.1.0 k)
  determined-continued partial a (Fails f) (Fails g) s t (inr h) (inr k) =
      follow partial a (Fails f) (Fails g) s t
      h.0 h.1.0 h.1.1.1.0 (of_value h.0 h.1.1.0 h.1.1.1.1 partial h.1.0 (Fails f) h.1.1.1.2)
      k.0 k.1.0 k.1.1.1.0 (of_value k.0 k.1.1.0 k.1.1.1.1 partial k.1.0 (Fails g) k.1.1.1.2)

-- what two relations give for values that are the same is the same
abbrev RespectBoth : {O P : Type 0} → (O → O → Type 0) → (P → P → Type 0) → (O → P → Type 0)
    → (O → P → Type 0) → Type 0
RespectBoth {O} {P} same alike gives also = (x y : O) (p q : P) → same x y → gives x p → also y q
    → alike p q

module _ {O P T : Type 0} (same : O → O → Type 0) (alike : P → P → Type 0) (gives also : O → P → Type 0) (respects : RespectBoth same alike gives also) (inner : Meaning O T) (d : IsDetermined same inner) where
  -- the answers agree that two such relations make of one parser's
  meet-maps : Meet alike (Maps gives inner) (Maps also inner)
  meet-maps partial a (Gives y b) (Gives z c) s t h k =
      let e = d partial a (Gives h.0 b) (Gives k.0 c) tt tt h.1.1 k.1.1 in (respects h.0 k.0 y z e.0 h.1.0 k.1.0, e.1)
  meet-maps partial a (Gives y b) (Fails g) s t h k = d partial a (Gives h.0 b) (Fails g) tt t h.1.1 k
  meet-maps partial a (Fails f) (Gives z c) s t h k = d partial a (Fails f) (Gives k.0 c) s tt h k.1.1
  meet-maps partial a (Fails f) (Fails g) s t h k = d partial a (Fails f) (Fails g) s t h k

module _ {O P T : Type 0} (same : O → O → Type 0) (alike : P → P → Type 0) (puts also : O → P) (agrees : (x y : O) → same x y → alike (puts x) (also y)) (inner : Meaning O T) (d : IsDetermined same inner) where
  -- two functions that make the same of values that are the same
  puts-respect : RespectBoth same alike (λ x all. puts x ≡ all) (λ x all. also x ≡ all)
  puts-respect x y p q e h k = subst (λ o. alike o q) h (subst (alike (puts x)) k (agrees x y e))

  -- the answers agree that two such functions make of one parser's
  meet-puts : Meet alike (Maps (λ x all. puts x ≡ all) inner) (Maps (λ x all. also x ≡ all) inner)
  meet-puts = meet-maps same alike (λ x all. puts x ≡ all) (λ x all. also x ≡ all) puts-respect inner d

-- ---- Two parsers

module _ {X Y T : Type 0} (r q : Type 0) (u1 : X → X → Type 0) (u2 : Y → Y → Type 0) (a : Meaning X T) (b : Meaning Y T) (d1 : IsDetermined u1 a) (d2 : IsDetermined u2 b) where
  -- two turns of two are the same
  abbrev IsSameOf2 : Turn X Y → Turn X Y → Type 0
  IsSameOf2 = IsSameTurn u1 u2

  -- what comes after the same turns of two agrees
  meet-after2 : (s t : Turn X Y) → IsSameOf2 s t
      → Meet (AreBothSame u1 u2) (AfterTurn2 q a b s) (AfterTurn2 q a b t)
  meet-after2 (This x) (This y) i =
      meet-puts u2 (AreBothSame u1 u2) (λ p. (x, p)) (λ p. (y, p)) (λ p o h. (i, h)) (TriesOnce q b)
      (determined-once u2 b d2 q)
  meet-after2 (This x) (Other y) i = absurd i
  meet-after2 (Other x) (This y) i = absurd i
  meet-after2 (Other x) (Other y) i =
      meet-puts u1 (AreBothSame u1 u2) (λ p. (p, x)) (λ p. (p, y)) (λ p o h. (h, i)) (TriesOnce q a)
      (determined-once u1 a d1 q)

  -- `IsPermutation2` has one answer where both parsers have one
  pub determined-permutation2 : IsDetermined (AreBothSame u1 u2) (IsPermutation2 r q a b)
  determined-permutation2 =
      let turn = TakesTurn r a b in
      let of2 = determined-turn u1 u2 r a b d1 d2 in
      determined-continued IsSameOf2 (AreBothSame u1 u2) (AfterTurn2 q a b) (TriesOnce q turn) (determined-once IsSameOf2 turn of2 q) meet-after2

-- ---- Three parsers

module _ {X Y Z T : Type 0} (r q : Type 0) (u1 : X → X → Type 0) (u2 : Y → Y → Type 0) (u3 : Z → Z → Type 0) (a : Meaning X T) (b : Meaning Y T) (c : Meaning Z T) (d1 : IsDetermined u1 a) (d2 : IsDetermined u2 b) (d3 : IsDetermined u3 c) where
  -- two turns of three are the same
  abbrev IsSameOf3 : Turn (Turn X Y) Z → Turn (Turn X Y) Z → Type 0
  IsSameOf3 = IsSameTurn (IsSameTurn u1 u2) u3

  -- what comes after the same turns of three agrees
  meet-after3 : (s t : Turn (Turn X Y) Z) → IsSameOf3 s t
      → Meet (AreSame3 u1 u2 u3) (AfterTurn3 r q a b c s) (AfterTurn3 r q a b c t)
  meet-after3 (This (This x)) (This (This y)) i =
      meet-puts (AreBothSame u2 u3) (AreSame3 u1 u2 u3) (λ p. (x, p.0, p.1)) (λ p. (y, p.0, p.1)) (λ p o h. (i, h.0, h.1)) (IsPermutation2 r q b c)
      (determined-permutation2 r q u2 u3 b c d2 d3)
  meet-after3 (This (This x)) (This (Other y)) i = absurd i
  meet-after3 (This (Other x)) (This (This y)) i = absurd i
  meet-after3 (This (Other x)) (This (Other y)) i =
      meet-puts (AreBothSame u1 u3) (AreSame3 u1 u2 u3) (λ p. (p.0, x, p.1)) (λ p. (p.0, y, p.1)) (λ p o h. (h.0, i, h.1)) (IsPermutation2 r q a c)
      (determined-permutation2 r q u1 u3 a c d1 d3)
  meet-after3 (This x) (Other y) i = absurd i
  meet-after3 (Other x) (This y) i = absurd i
  meet-after3 (Other x) (Other y) i =
      meet-puts (AreBothSame u1 u2) (AreSame3 u1 u2 u3) (λ p. (p.0, p.1, x)) (λ p. (p.0, p.1, y)) (λ p o h. (h.0, h.1, i)) (IsPermutation2 r q a b)
      (determined-permutation2 r q u1 u2 a b d1 d2)

  -- `IsPermutation3` has one answer where all three parsers have one
  pub determined-permutation3 : IsDetermined (AreSame3 u1 u2 u3) (IsPermutation3 r q a b c)
  determined-permutation3 =
      let turn = TakesTurn r (TakesTurn r a b) c in
      let of2 = determined-turn u1 u2 r a b d1 d2 in
      let of3 = determined-turn (IsSameTurn u1 u2) u3 r (TakesTurn r a b) c of2 d3 in
      determined-continued IsSameOf3 (AreSame3 u1 u2 u3) (AfterTurn3 r q a b c) (TriesOnce q turn) (determined-once IsSameOf3 turn of3 q) meet-after3

-- ---- Four parsers

module _ {X Y Z V T : Type 0} (r q : Type 0) (u1 : X → X → Type 0) (u2 : Y → Y → Type 0) (u3 : Z → Z → Type 0) (u4 : V → V → Type 0) (a : Meaning X T) (b : Meaning Y T) (c : Meaning Z T) (d : Meaning V T) (d1 : IsDetermined u1 a) (d2 : IsDetermined u2 b) (d3 : IsDetermined u3 c) (d4 : IsDetermined u4 d) where
  -- two turns of four are the same
  abbrev IsSameOf4 : Turn (Turn (Turn X Y) Z) V → Turn (Turn (Turn X Y) Z) V → Type 0
  IsSameOf4 = IsSameTurn (IsSameTurn (IsSameTurn u1 u2) u3) u4

  -- what comes after the same turns of four agrees
  meet-after4 : (s t : Turn (Turn (Turn X Y) Z) V) → IsSameOf4 s t
      → Meet (AreSame4 u1 u2 u3 u4) (AfterTurn4 r q a b c d s) (AfterTurn4 r q a b c d t)
  meet-after4 (This (This (This x))) (This (This (This y))) i =
      meet-puts (AreSame3 u2 u3 u4) (AreSame4 u1 u2 u3 u4) (λ p. (x, p.0, p.1, p.2)) (λ p. (y, p.0, p.1, p.2)) (λ p o h. (i, h.0, h.1, h.2)) (IsPermutation3 r q b c d)
      (determined-permutation3 r q u2 u3 u4 b c d d2 d3 d4)
  meet-after4 (This (This (This x))) (This (This (Other y))) i = absurd i
  meet-after4 (This (This (Other x))) (This (This (This y))) i = absurd i
  meet-after4 (This (This (Other x))) (This (This (Other y))) i =
      meet-puts (AreSame3 u1 u3 u4) (AreSame4 u1 u2 u3 u4) (λ p. (p.0, x, p.1, p.2)) (λ p. (p.0, y, p.1, p.2)) (λ p o h. (h.0, i, h.1, h.2)) (IsPermutation3 r q a c d)
      (determined-permutation3 r q u1 u3 u4 a c d d1 d3 d4)
  meet-after4 (This (This x)) (This (Other y)) i = absurd i
  meet-after4 (This (Other x)) (This (This y)) i = absurd i
  meet-after4 (This (Other x)) (This (Other y)) i =
      meet-puts (AreSame3 u1 u2 u4) (AreSame4 u1 u2 u3 u4) (λ p. (p.0, p.1, x, p.2)) (λ p. (p.0, p.1, y, p.2)) (λ p o h. (h.0, h.1, i, h.2)) (IsPermutation3 r q a b d)
      (determined-permutation3 r q u1 u2 u4 a b d d1 d2 d4)
  meet-after4 (This x) (Other y) i = absurd i
  meet-after4 (Other x) (This y) i = absurd i
  meet-after4 (Other x) (Other y) i =
      meet-puts (AreSame3 u1 u2 u3) (AreSame4 u1 u2 u3 u4) (λ p. (p.0, p.1, p.2, x)) (λ p. (p.0, p.1, p.2, y)) (λ p o h. (h.0, h.1, h.2, i)) (IsPermutation3 r q a b c)
      (determined-permutation3 r q u1 u2 u3 a b c d1 d2 d3)

  -- `IsPermutation4` has one answer where all four parsers have one
  pub determined-permutation4 : IsDetermined (AreSame4 u1 u2 u3 u4) (IsPermutation4 r q a b c d)
  determined-permutation4 =
      let turn = TakesTurn r (TakesTurn r (TakesTurn r a b) c) d in
      let of2 = determined-turn u1 u2 r a b d1 d2 in
      let of3 = determined-turn (IsSameTurn u1 u2) u3 r (TakesTurn r a b) c of2 d3 in
      let of4 = determined-turn (IsSameTurn (IsSameTurn u1 u2) u3) u4 r (TakesTurn r (TakesTurn r a b) c) d of3 d4 in
      determined-continued IsSameOf4 (AreSame4 u1 u2 u3 u4) (AfterTurn4 r q a b c d) (TriesOnce q turn) (determined-once IsSameOf4 turn of4 q) meet-after4

-- ---- Five parsers

module _ {X Y Z V W T : Type 0} (r q : Type 0) (u1 : X → X → Type 0) (u2 : Y → Y → Type 0) (u3 : Z → Z → Type 0) (u4 : V → V → Type 0) (u5 : W → W → Type 0) (a : Meaning X T) (b : Meaning Y T) (c : Meaning Z T) (d : Meaning V T) (e : Meaning W T) (d1 : IsDetermined u1 a) (d2 : IsDetermined u2 b) (d3 : IsDetermined u3 c) (d4 : IsDetermined u4 d) (d5 : IsDetermined u5 e) where
  -- two turns of five are the same
  abbrev IsSameOf5 : Turn (Turn (Turn (Turn X Y) Z) V) W
      → Turn (Turn (Turn (Turn X Y) Z) V) W → Type 0
  IsSameOf5 = IsSameTurn (IsSameTurn (IsSameTurn (IsSameTurn u1 u2) u3) u4) u5

  -- what comes after the same turns of five agrees
  meet-after5 : (s t : Turn (Turn (Turn (Turn X Y) Z) V) W) → IsSameOf5 s t
      → Meet (AreSame5 u1 u2 u3 u4 u5) (AfterTurn5 r q a b c d e s) (AfterTurn5 r q a b c d e t)
  meet-after5 (This (This (This (This x)))) (This (This (This (This y)))) i =
      meet-puts (AreSame4 u2 u3 u4 u5) (AreSame5 u1 u2 u3 u4 u5) (λ p. (x, p.0, p.1, p.2, p.3)) (λ p. (y, p.0, p.1, p.2, p.3)) (λ p o h. (i, h.0, h.1, h.2, h.3)) (IsPermutation4 r q b c d e)
      (determined-permutation4 r q u2 u3 u4 u5 b c d e d2 d3 d4 d5)
  meet-after5 (This (This (This (This x)))) (This (This (This (Other y)))) i = absurd i
  meet-after5 (This (This (This (Other x)))) (This (This (This (This y)))) i = absurd i
  meet-after5 (This (This (This (Other x)))) (This (This (This (Other y)))) i =
      meet-puts (AreSame4 u1 u3 u4 u5) (AreSame5 u1 u2 u3 u4 u5) (λ p. (p.0, x, p.1, p.2, p.3)) (λ p. (p.0, y, p.1, p.2, p.3)) (λ p o h. (h.0, i, h.1, h.2, h.3)) (IsPermutation4 r q a c d e)
      (determined-permutation4 r q u1 u3 u4 u5 a c d e d1 d3 d4 d5)
  meet-after5 (This (This (This x))) (This (This (Other y))) i = absurd i
  meet-after5 (This (This (Other x))) (This (This (This y))) i = absurd i
  meet-after5 (This (This (Other x))) (This (This (Other y))) i =
      meet-puts (AreSame4 u1 u2 u4 u5) (AreSame5 u1 u2 u3 u4 u5) (λ p. (p.0, p.1, x, p.2, p.3)) (λ p. (p.0, p.1, y, p.2, p.3)) (λ p o h. (h.0, h.1, i, h.2, h.3)) (IsPermutation4 r q a b d e)
      (determined-permutation4 r q u1 u2 u4 u5 a b d e d1 d2 d4 d5)
  meet-after5 (This (This x)) (This (Other y)) i = absurd i
  meet-after5 (This (Other x)) (This (This y)) i = absurd i
  meet-after5 (This (Other x)) (This (Other y)) i =
      meet-puts (AreSame4 u1 u2 u3 u5) (AreSame5 u1 u2 u3 u4 u5) (λ p. (p.0, p.1, p.2, x, p.3)) (λ p. (p.0, p.1, p.2, y, p.3)) (λ p o h. (h.0, h.1, h.2, i, h.3)) (IsPermutation4 r q a b c e)
      (determined-permutation4 r q u1 u2 u3 u5 a b c e d1 d2 d3 d5)
  meet-after5 (This x) (Other y) i = absurd i
  meet-after5 (Other x) (This y) i = absurd i
  meet-after5 (Other x) (Other y) i =
      meet-puts (AreSame4 u1 u2 u3 u4) (AreSame5 u1 u2 u3 u4 u5) (λ p. (p.0, p.1, p.2, p.3, x)) (λ p. (p.0, p.1, p.2, p.3, y)) (λ p o h. (h.0, h.1, h.2, h.3, i)) (IsPermutation4 r q a b c d)
      (determined-permutation4 r q u1 u2 u3 u4 a b c d d1 d2 d3 d4)

  -- `IsPermutation5` has one answer where all five parsers have one
  pub determined-permutation5 : IsDetermined (AreSame5 u1 u2 u3 u4 u5)
      (IsPermutation5 r q a b c d e)
  determined-permutation5 =
      let turn = TakesTurn r (TakesTurn r (TakesTurn r (TakesTurn r a b) c) d) e in
      let of2 = determined-turn u1 u2 r a b d1 d2 in
      let of3 = determined-turn (IsSameTurn u1 u2) u3 r (TakesTurn r a b) c of2 d3 in
      let of4 = determined-turn (IsSameTurn (IsSameTurn u1 u2) u3) u4 r (TakesTurn r (TakesTurn r a b) c) d of3 d4 in
      let of5 = determined-turn (IsSameTurn (IsSameTurn (IsSameTurn u1 u2) u3) u4) u5 r (TakesTurn r (TakesTurn r (TakesTurn r a b) c) d) e of4 d5 in
      determined-continued IsSameOf5 (AreSame5 u1 u2 u3 u4 u5) (AfterTurn5 r q a b c d e) (TriesOnce q turn) (determined-once IsSameOf5 turn of5 q) meet-after5
