-- Parsers in a row have one answer where each has one.
use Rattle.std.proofs.Common.{subst}
use Rattle.winnow_parser.specs.Outcome.{Meaning}
use Rattle.winnow_parser.specs.Meanings.{Pair}
use Rattle.winnow_parser.specs.Rows.{Flat3, Row3, Flat4, Row4, Flat5, Row5, Flat6, Row6, Flat7, Row7, Flat8, Row8, Flat9, Row9, Flat10, Row10}
use Rattle.winnow_parser.specs.Determined.{IsDetermined, AreBothSame, Respects}
use Rattle.winnow_parser.specs.DeterminedRows.{AreSame3, AreSame4, AreSame5, AreSame6, AreSame7, AreSame8, AreSame9, AreSame10}
use Rattle.winnow_parser.proofs.lemmas.DeterminedLemmas.{determined-maps, determined-pair}

-- ---- Three

module _ {A B C : Type 0} (a : A → A → Type 0) (b : B → B → Type 0) (c : C → C → Type 0) where
  -- flattening keeps tuples the same
  flat3-respects : Respects (AreBothSame a (AreBothSame b c)) (AreSame3 a b c) Flat3
  flat3-respects x y p q u v w =
      subst (λ m. AreSame3 a b c m q) v (subst (AreSame3 a b c (x.0, x.1.0, x.1.1)) w (u.0, u.1.0, u.1.1))

  -- three parsers in a row have one answer where each has one
  pub determined-row3 : {T : Type 0} (ma : Meaning A T) (mb : Meaning B T) (mc : Meaning C T)
      → IsDetermined a ma → IsDetermined b mb → IsDetermined c mc
      → IsDetermined (AreSame3 a b c) (Row3 ma mb mc)
  determined-row3 ma mb mc da db dc =
      determined-maps (AreBothSame a (AreBothSame b c)) (AreSame3 a b c) Flat3 flat3-respects (Pair ma (Pair mb mc))
      (determined-pair a (AreBothSame b c) ma (Pair mb mc) da (determined-pair b c mb mc db dc))

-- ---- Four

module _ {A B C D : Type 0} (a : A → A → Type 0) (b : B → B → Type 0) (c : C → C → Type 0) (d : D → D → Type 0) where
  -- flattening keeps tuples the same
  flat4-respects : Respects (AreBothSame a (AreSame3 b c d)) (AreSame4 a b c d) Flat4
  flat4-respects x y p q u v w =
      subst (λ m. AreSame4 a b c d m q) v (subst (AreSame4 a b c d (x.0, x.1.0, x.1.1, x.1.2)) w (u.0, u.1.0, u.1.1, u.1.2))

  -- four parsers in a row have one answer where each has one
  pub determined-row4 : {T : Type 0} (ma : Meaning A T) (mb : Meaning B T) (mc : Meaning C T)
      (md : Meaning D T) → IsDetermined a ma → IsDetermined b mb → IsDetermined c mc
      → IsDetermined d md
      → IsDetermined (AreSame4 a b c d) (Row4 ma mb mc md)
  determined-row4 ma mb mc md da db dc dd =
      determined-maps (AreBothSame a (AreSame3 b c d)) (AreSame4 a b c d) Flat4 flat4-respects (Pair ma (Row3 mb mc md))
      (determined-pair a (AreSame3 b c d) ma (Row3 mb mc md) da (determined-row3 b c d mb mc md db dc dd))

-- ---- Five

module _ {A B C D E : Type 0} (a : A → A → Type 0) (b : B → B → Type 0) (c : C → C → Type 0) (d : D → D → Type 0) (e : E → E → Type 0) where
  -- flattening keeps tuples the same
  flat5-respects : Respects (AreBothSame a (AreSame4 b c d e)) (AreSame5 a b c d e) Flat5
  flat5-respects x y p q u v w =
      subst (λ m. AreSame5 a b c d e m q) v (subst (AreSame5 a b c d e (x.0, x.1.0, x.1.1, x.1.2, x.1.3)) w (u.0, u.1.0, u.1.1, u.1.2, u.1.3))

  -- five parsers in a row have one answer where each has one
  pub determined-row5 : {T : Type 0} (ma : Meaning A T) (mb : Meaning B T) (mc : Meaning C T)
      (md : Meaning D T) (me : Meaning E T) → IsDetermined a ma → IsDetermined b mb
      → IsDetermined c mc → IsDetermined d md → IsDetermined e me
      → IsDetermined (AreSame5 a b c d e) (Row5 ma mb mc md me)
  determined-row5 ma mb mc md me da db dc dd de =
      determined-maps (AreBothSame a (AreSame4 b c d e)) (AreSame5 a b c d e) Flat5 flat5-respects (Pair ma (Row4 mb mc md me))
      (determined-pair a (AreSame4 b c d e) ma (Row4 mb mc md me) da (determined-row4 b c d e mb mc md me db dc dd de))

-- ---- Six

module _ {A B C D E F : Type 0} (a : A → A → Type 0) (b : B → B → Type 0) (c : C → C → Type 0) (d : D → D → Type 0) (e : E → E → Type 0) (f : F → F → Type 0) where
  -- flattening keeps tuples the same
  flat6-respects : Respects (AreBothSame a (AreSame5 b c d e f)) (AreSame6 a b c d e f) Flat6
  flat6-respects x y p q u v w =
      subst (λ m. AreSame6 a b c d e f m q) v (subst (AreSame6 a b c d e f (x.0, x.1.0, x.1.1, x.1.2, x.1.3, x.1.4)) w (u.0, u.1.0, u.1.1, u.1.2, u.1.3, u.1.4))

  -- six parsers in a row have one answer where each has one
  pub determined-row6 : {T : Type 0} (ma : Meaning A T) (mb : Meaning B T) (mc : Meaning C T)
      (md : Meaning D T) (me : Meaning E T) (mf : Meaning F T) → IsDetermined a ma
      → IsDetermined b mb → IsDetermined c mc → IsDetermined d md → IsDetermined e me
      → IsDetermined f mf
      → IsDetermined (AreSame6 a b c d e f) (Row6 ma mb mc md me mf)
  determined-row6 ma mb mc md me mf da db dc dd de df =
      determined-maps (AreBothSame a (AreSame5 b c d e f)) (AreSame6 a b c d e f) Flat6 flat6-respects (Pair ma (Row5 mb mc md me mf))
      (determined-pair a (AreSame5 b c d e f) ma (Row5 mb mc md me mf) da (determined-row5 b c d e f mb mc md me mf db dc dd de df))

-- ---- Seven

module _ {A B C D E F G : Type 0} (a : A → A → Type 0) (b : B → B → Type 0) (c : C → C → Type 0) (d : D → D → Type 0) (e : E → E → Type 0) (f : F → F → Type 0) (g : G → G → Type 0) where
  -- flattening keeps tuples the same
  flat7-respects : Respects (AreBothSame a (AreSame6 b c d e f g)) (AreSame7 a b c d e f g) Flat7
  flat7-respects x y p q u v w =
      subst (λ m. AreSame7 a b c d e f g m q) v (subst (AreSame7 a b c d e f g (x.0, x.1.0, x.1.1, x.1.2, x.1.3, x.1.4, x.1.5)) w (u.0, u.1.0, u.1.1, u.1.2, u.1.3, u.1.4, u.1.5))

  -- seven parsers in a row have one answer where each has one
  pub determined-row7 : {T : Type 0} (ma : Meaning A T) (mb : Meaning B T) (mc : Meaning C T)
      (md : Meaning D T) (me : Meaning E T) (mf : Meaning F T) (mg : Meaning G T)
      → IsDetermined a ma → IsDetermined b mb → IsDetermined c mc → IsDetermined d md
      → IsDetermined e me → IsDetermined f mf → IsDetermined g mg
      → IsDetermined (AreSame7 a b c d e f g) (Row7 ma mb mc md me mf mg)
  determined-row7 ma mb mc md me mf mg da db dc dd de df dg =
      determined-maps (AreBothSame a (AreSame6 b c d e f g)) (AreSame7 a b c d e f g) Flat7 flat7-respects (Pair ma (Row6 mb mc md me mf mg))
      (determined-pair a (AreSame6 b c d e f g) ma (Row6 mb mc md me mf mg) da (determined-row6 b c d e f g mb mc md me mf mg db dc dd de df dg))

-- ---- Eight

module _ {A B C D E F G H : Type 0} (a : A → A → Type 0) (b : B → B → Type 0) (c : C → C → Type 0) (d : D → D → Type 0) (e : E → E → Type 0) (f : F → F → Type 0) (g : G → G → Type 0) (h : H → H → Type 0) where
  -- flattening keeps tuples the same
  flat8-respects : Respects (AreBothSame a (AreSame7 b c d e f g h)) (AreSame8 a b c d e f g h)
      Flat8
  flat8-respects x y p q u v w =
      subst (λ m. AreSame8 a b c d e f g h m q) v (subst (AreSame8 a b c d e f g h (x.0, x.1.0, x.1.1, x.1.2, x.1.3, x.1.4, x.1.5, x.1.6)) w (u.0, u.1.0, u.1.1, u.1.2, u.1.3, u.1.4, u.1.5, u.1.6))

  -- eight parsers in a row have one answer where each has one
  pub determined-row8 : {T : Type 0} (ma : Meaning A T) (mb : Meaning B T) (mc : Meaning C T)
      (md : Meaning D T) (me : Meaning E T) (mf : Meaning F T) (mg : Meaning G T)
      (mh : Meaning H T) → IsDetermined a ma → IsDetermined b mb → IsDetermined c mc
      → IsDetermined d md → IsDetermined e me → IsDetermined f mf → IsDetermined g mg
      → IsDetermined h mh
      → IsDetermined (AreSame8 a b c d e f g h) (Row8 ma mb mc md me mf mg mh)
  determined-row8 ma mb mc md me mf mg mh da db dc dd de df dg dh =
      determined-maps (AreBothSame a (AreSame7 b c d e f g h)) (AreSame8 a b c d e f g h) Flat8 flat8-respects (Pair ma (Row7 mb mc md me mf mg mh))
      (determined-pair a (AreSame7 b c d e f g h) ma (Row7 mb mc md me mf mg mh) da (determined-row7 b c d e f g h mb mc md me mf mg mh db dc dd de df dg dh))

-- ---- Nine

module _ {A B C D E F G H I : Type 0} (a : A → A → Type 0) (b : B → B → Type 0) (c : C → C → Type 0) (d : D → D → Type 0) (e : E → E → Type 0) (f : F → F → Type 0) (g : G → G → Type 0) (h : H → H → Type 0) (i : I → I → Type 0) where
  -- flattening keeps tuples the same
  flat9-respects : Respects (AreBothSame a (AreSame8 b c d e f g h i)) (AreSame9 a b c d e f g h i)
      Flat9
  flat9-respects x y p q u v w =
      subst (λ m. AreSame9 a b c d e f g h i m q) v (subst (AreSame9 a b c d e f g h i (x.0, x.1.0, x.1.1, x.1.2, x.1.3, x.1.4, x.1.5, x.1.6, x.1.7)) w (u.0, u.1.0, u.1.1, u.1.2, u.1.3, u.1.4, u.1.5, u.1.6, u.1.7))

  -- nine parsers in a row have one answer where each has one
  pub determined-row9 : {T : Type 0} (ma : Meaning A T) (mb : Meaning B T) (mc : Meaning C T)
      (md : Meaning D T) (me : Meaning E T) (mf : Meaning F T) (mg : Meaning G T)
      (mh : Meaning H T) (mi : Meaning I T) → IsDetermined a ma → IsDetermined b mb
      → IsDetermined c mc → IsDetermined d md → IsDetermined e me → IsDetermined f mf
      → IsDetermined g mg → IsDetermined h mh → IsDetermined i mi
      → IsDetermined (AreSame9 a b c d e f g h i) (Row9 ma mb mc md me mf mg mh mi)
  determined-row9 ma mb mc md me mf mg mh mi da db dc dd de df dg dh di =
      determined-maps (AreBothSame a (AreSame8 b c d e f g h i)) (AreSame9 a b c d e f g h i) Flat9 flat9-respects (Pair ma (Row8 mb mc md me mf mg mh mi))
      (determined-pair a (AreSame8 b c d e f g h i) ma (Row8 mb mc md me mf mg mh mi) da (determined-row8 b c d e f g h i mb mc md me mf mg mh mi db dc dd de df dg dh di))

-- ---- Ten

module _ {A B C D E F G H I J : Type 0} (a : A → A → Type 0) (b : B → B → Type 0) (c : C → C → Type 0) (d : D → D → Type 0) (e : E → E → Type 0) (f : F → F → Type 0) (g : G → G → Type 0) (h : H → H → Type 0) (i : I → I → Type 0) (j : J → J → Type 0) where
  -- flattening keeps tuples the same
  flat10-respects : Respects (AreBothSame a (AreSame9 b c d e f g h i j))
      (AreSame10 a b c d e f g h i j) Flat10
  flat10-respects x y p q u v w =
      subst (λ m. AreSame10 a b c d e f g h i j m q) v (subst (AreSame10 a b c d e f g h i j (x.0, x.1.0, x.1.1, x.1.2, x.1.3, x.1.4, x.1.5, x.1.6, x.1.7, x.1.8)) w (u.0, u.1.0, u.1.1, u.1.2, u.1.3, u.1.4, u.1.5, u.1.6, u.1.7, u.1.8))

  -- ten parsers in a row have one answer where each has one
  pub determined-row10 : {T : Type 0} (ma : Meaning A T) (mb : Meaning B T) (mc : Meaning C T)
      (md : Meaning D T) (me : Meaning E T) (mf : Meaning F T) (mg : Meaning G T)
      (mh : Meaning H T) (mi : Meaning I T) (mj : Meaning J T) → IsDetermined a ma
      → IsDetermined b mb → IsDetermined c mc → IsDetermined d md → IsDetermined e me
      → IsDetermined f mf → IsDetermined g mg → IsDetermined h mh → IsDetermined i mi
      → IsDetermined j mj
      → IsDetermined (AreSame10 a b c d e f g h i j) (Row10 ma mb mc md me mf mg mh mi mj)
  determined-row10 ma mb mc md me mf mg mh mi mj da db dc dd de df dg dh di dj =
      determined-maps (AreBothSame a (AreSame9 b c d e f g h i j)) (AreSame10 a b c d e f g h i j) Flat10 flat10-respects (Pair ma (Row9 mb mc md me mf mg mh mi mj))
      (determined-pair a (AreSame9 b c d e f g h i j) ma (Row9 mb mc md me mf mg mh mi mj) da (determined-row9 b c d e f g h i j mb mc md me mf mg mh mi mj db dc dd de df dg dh di dj))
