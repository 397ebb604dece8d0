-- Two to five parsers in any order, each once.
use Rattle.std.specs.Prelude.{◌≡◌}
use Rattle.winnow_parser.specs.Outcome.{Meaning}
use Rattle.winnow_parser.specs.Laws.{IsParser}
use Rattle.winnow_parser.specs.Meanings.{Maps}
use Rattle.winnow_parser.specs.Parts.{IsParser-Maps}
use Rattle.winnow_parser.specs.FlatMap.{FlatMaps, IsParser-FlatMaps}
use Rattle.winnow_combinator.specs.Appended.{Appending, IsParser-Appending}
use Rattle.winnow_permutation.specs.declared.turns.Turn.{Turn}
use Rattle.winnow_permutation.specs.declared.turns.Turn.TheVariants.{This, Other}
use Rattle.winnow_permutation.specs.Tried.{Tries, IsParser-Tries}
use Rattle.winnow_permutation.specs.AnyOrder.{TakesTurn, IsParser-TakesTurn}

-- the same as the parser; where that backtracks, this one does so from where it began, and memory
-- may be refused while its error is appended to
abbrev pub TriesOnce : {O T : Type 0} → Type 0 → Meaning O T → Meaning O T
TriesOnce q inner = Appending q (Tries inner)

-- ---- Values in their places

module _ {X Y : Type 0} where
  -- the second value beside the first one
  abbrev pub AfterFirst : X → Y → X × Y → Type 0
  AfterFirst x y both = (x, y) ≡ both

  -- the first value beside the second one
  abbrev pub BeforeSecond : Y → X → X × Y → Type 0
  BeforeSecond y x both = (x, y) ≡ both

module _ {X Y Z : Type 0} where
  -- the first value, and the two others
  abbrev pub OfFirst : X → Y × Z → X × Y × Z → Type 0
  OfFirst x p all = (x, p.0, p.1) ≡ all

  -- the second value, and the two others
  abbrev pub OfSecond : Y → X × Z → X × Y × Z → Type 0
  OfSecond y p all = (p.0, y, p.1) ≡ all

  -- the third value, and the two others
  abbrev pub OfThird : Z → X × Y → X × Y × Z → Type 0
  OfThird z p all = (p.0, p.1, z) ≡ all

module _ {X Y Z V : Type 0} where
  -- the first value, and the three others
  abbrev pub OfFirst4 : X → Y × Z × V → X × Y × Z × V → Type 0
  OfFirst4 x p all = (x, p.0, p.1, p.2) ≡ all

  -- the second value, and the three others
  abbrev pub OfSecond4 : Y → X × Z × V → X × Y × Z × V → Type 0
  OfSecond4 y p all = (p.0, y, p.1, p.2) ≡ all

  -- the third value, and the three others
  abbrev pub OfThird4 : Z → X × Y × V → X × Y × Z × V → Type 0
  OfThird4 z p all = (p.0, p.1, z, p.2) ≡ all

  -- the fourth value, and the three others
  abbrev pub OfFourth4 : V → X × Y × Z → X × Y × Z × V → Type 0
  OfFourth4 v p all = (p.0, p.1, p.2, v) ≡ all

module _ {X Y Z V W : Type 0} where
  -- the first value, and the four others
  abbrev pub OfFirst5 : X → Y × Z × V × W → X × Y × Z × V × W → Type 0
  OfFirst5 x p all = (x, p.0, p.1, p.2, p.3) ≡ all

  -- the second value, and the four others
  abbrev pub OfSecond5 : Y → X × Z × V × W → X × Y × Z × V × W → Type 0
  OfSecond5 y p all = (p.0, y, p.1, p.2, p.3) ≡ all

  -- the third value, and the four others
  abbrev pub OfThird5 : Z → X × Y × V × W → X × Y × Z × V × W → Type 0
  OfThird5 z p all = (p.0, p.1, z, p.2, p.3) ≡ all

  -- the fourth value, and the four others
  abbrev pub OfFourth5 : V → X × Y × Z × W → X × Y × Z × V × W → Type 0
  OfFourth5 v p all = (p.0, p.1, p.2, v, p.3) ≡ all

  -- the fifth value, and the four others
  abbrev pub OfFifth5 : W → X × Y × Z × V → X × Y × Z × V × W → Type 0
  OfFifth5 w p all = (p.0, p.1, p.2, p.3, w) ≡ all

-- ---- Two parsers

module _ {X Y T : Type 0} (q : Type 0) (a : Meaning X T) (b : Meaning Y T) where
  -- after the turn of one of two parsers, the other one
  abbrev pub AfterTurn2 : Turn X Y → Meaning (X × Y) T
  AfterTurn2 (This x) = Maps (AfterFirst x) (TriesOnce q b)
  AfterTurn2 (Other y) = Maps (BeforeSecond y) (TriesOnce q a)

-- the first of two parsers that does not backtrack, and then the other one
abbrev pub IsPermutation2 : {X Y T : Type 0} → Type 0 → Type 0 → Meaning X T → Meaning Y T
    → Meaning (X × Y) T
IsPermutation2 r q a b = FlatMaps ◌≡◌ (AfterTurn2 q a b) (TriesOnce q (TakesTurn r a b))

-- ---- Three parsers

module _ {X Y Z T : Type 0} (r q : Type 0) (a : Meaning X T) (b : Meaning Y T) (c : Meaning Z T) where
  -- after the turn of one of three parsers, a permutation of the two others
  abbrev pub AfterTurn3 : Turn (Turn X Y) Z → Meaning (X × Y × Z) T
  AfterTurn3 (This (This x)) = Maps (OfFirst x) (IsPermutation2 r q b c)
  AfterTurn3 (This (Other y)) = Maps (OfSecond y) (IsPermutation2 r q a c)
  AfterTurn3 (Other z) = Maps (OfThird z) (IsPermutation2 r q a b)

  -- the first of three parsers that does not backtrack, and then a permutation of the others
  abbrev pub IsPermutation3 : Meaning (X × Y × Z) T
  IsPermutation3 = FlatMaps ◌≡◌ AfterTurn3 (TriesOnce q (TakesTurn r (TakesTurn r a b) c))

-- ---- Four parsers

module _ {X Y Z V T : Type 0} (r q : Type 0) (a : Meaning X T) (b : Meaning Y T) (c : Meaning Z T) (d : Meaning V T) where
  -- after the turn of one of four parsers, a permutation of the three others
  abbrev pub AfterTurn4 : Turn (Turn (Turn X Y) Z) V → Meaning (X × Y × Z × V) T
  AfterTurn4 (This (This (This x))) = Maps (OfFirst4 x) (IsPermutation3 r q b c d)
  AfterTurn4 (This (This (Other y))) = Maps (OfSecond4 y) (IsPermutation3 r q a c d)
  AfterTurn4 (This (Other z)) = Maps (OfThird4 z) (IsPermutation3 r q a b d)
  AfterTurn4 (Other v) = Maps (OfFourth4 v) (IsPermutation3 r q a b c)

  -- the first of four parsers that does not backtrack, and then a permutation of the others
  abbrev pub IsPermutation4 : Meaning (X × Y × Z × V) T
  IsPermutation4 = FlatMaps ◌≡◌ AfterTurn4 (TriesOnce q (TakesTurn r (TakesTurn r (TakesTurn r a b) c) d))

-- ---- Five parsers

module _ {X Y Z V W T : Type 0} (r q : Type 0) (a : Meaning X T) (b : Meaning Y T) (c : Meaning Z T) (d : Meaning V T) (e : Meaning W T) where
  -- after the turn of one of five parsers, a permutation of the four others
  abbrev pub AfterTurn5 : Turn (Turn (Turn (Turn X Y) Z) V) W → Meaning (X × Y × Z × V × W) T
  AfterTurn5 (This (This (This (This x)))) = Maps (OfFirst5 x) (IsPermutation4 r q b c d e)
  AfterTurn5 (This (This (This (Other y)))) = Maps (OfSecond5 y) (IsPermutation4 r q a c d e)
  AfterTurn5 (This (This (Other z))) = Maps (OfThird5 z) (IsPermutation4 r q a b d e)
  AfterTurn5 (This (Other v)) = Maps (OfFourth5 v) (IsPermutation4 r q a b c e)
  AfterTurn5 (Other w) = Maps (OfFifth5 w) (IsPermutation4 r q a b c d)

  -- the first of five parsers that does not backtrack, and then a permutation of the others
  abbrev pub IsPermutation5 : Meaning (X × Y × Z × V × W) T
  IsPermutation5 = FlatMaps ◌≡◌ AfterTurn5 (TriesOnce q (TakesTurn r (TakesTurn r (TakesTurn r (TakesTurn r a b) c) d) e))

-- ---- The laws

-- `TriesOnce` keeps the laws of a parser
pub IsParser-TriesOnce : {O T : Type 0} (q : Type 0) {inner : Meaning O T} → IsParser inner
    → IsParser (TriesOnce q inner)
IsParser-TriesOnce q p = IsParser-Appending q (IsParser-Tries p)

module _ {X Y T : Type 0} (r q : Type 0) {a : Meaning X T} {b : Meaning Y T} (pa : IsParser a) (pb : IsParser b) where
  -- what comes after a turn of two keeps the laws of a parser
  after_turn2-parser : (turn : Turn X Y) → IsParser (AfterTurn2 q a b turn)
  after_turn2-parser (This x) = IsParser-Maps (AfterFirst x) (TriesOnce q b) (IsParser-TriesOnce q pb)
  after_turn2-parser (Other y) = IsParser-Maps (BeforeSecond y) (TriesOnce q a) (IsParser-TriesOnce q pa)

  -- `IsPermutation2` keeps the laws of a parser
  pub IsParser-IsPermutation2 : IsParser (IsPermutation2 r q a b)
  IsParser-IsPermutation2 =
      IsParser-FlatMaps ◌≡◌ (AfterTurn2 q a b) (TriesOnce q (TakesTurn r a b)) after_turn2-parser (IsParser-TriesOnce q (IsParser-TakesTurn r pa pb))

module _ {X Y Z T : Type 0} (r q : Type 0) {a : Meaning X T} {b : Meaning Y T} {c : Meaning Z T} (pa : IsParser a) (pb : IsParser b) (pc : IsParser c) where
  -- what comes after a turn of three keeps the laws of a parser
  after_turn3-parser : (turn : Turn (Turn X Y) Z) → IsParser (AfterTurn3 r q a b c turn)
  after_turn3-parser (This (This x)) = IsParser-Maps (OfFirst x) (IsPermutation2 r q b c) (IsParser-IsPermutation2 r q pb pc)
  after_turn3-parser (This (Other y)) = IsParser-Maps (OfSecond y) (IsPermutation2 r q a c) (IsParser-IsPermutation2 r q pa pc)
  after_turn3-parser (Other z) = IsParser-Maps (OfThird z) (IsPermutation2 r q a b) (IsParser-IsPermutation2 r q pa pb)

  -- `IsPermutation3` keeps the laws of a parser
  pub IsParser-IsPermutation3 : IsParser (IsPermutation3 r q a b c)
  IsParser-IsPermutation3 =
      IsParser-FlatMaps ◌≡◌ (AfterTurn3 r q a b c) (TriesOnce q (TakesTurn r (TakesTurn r a b) c)) after_turn3-parser
      (IsParser-TriesOnce q (IsParser-TakesTurn r (IsParser-TakesTurn r pa pb) pc))

module _ {X Y Z V T : Type 0} (r q : Type 0) {a : Meaning X T} {b : Meaning Y T} {c : Meaning Z T} {d : Meaning V T} (pa : IsParser a) (pb : IsParser b) (pc : IsParser c) (pd : IsParser d) where
  -- what comes after a turn of four keeps the laws of a parser
  after_turn4-parser : (turn : Turn (Turn (Turn X Y) Z) V) → IsParser (AfterTurn4 r q a b c d turn)
  after_turn4-parser (This (This (This x))) = IsParser-Maps (OfFirst4 x) (IsPermutation3 r q b c d) (IsParser-IsPermutation3 r q pb pc pd)
  after_turn4-parser (This (This (Other y))) = IsParser-Maps (OfSecond4 y) (IsPermutation3 r q a c d) (IsParser-IsPermutation3 r q pa pc pd)
  after_turn4-parser (This (Other z)) = IsParser-Maps (OfThird4 z) (IsPermutation3 r q a b d) (IsParser-IsPermutation3 r q pa pb pd)
  after_turn4-parser (Other v) = IsParser-Maps (OfFourth4 v) (IsPermutation3 r q a b c) (IsParser-IsPermutation3 r q pa pb pc)

  -- `IsPermutation4` keeps the laws of a parser
  pub IsParser-IsPermutation4 : IsParser (IsPermutation4 r q a b c d)
  IsParser-IsPermutation4 =
      IsParser-FlatMaps ◌≡◌ (AfterTurn4 r q a b c d) (TriesOnce q (TakesTurn r (TakesTurn r (TakesTurn r a b) c) d)) after_turn4-parser
      (IsParser-TriesOnce q (IsParser-TakesTurn r (IsParser-TakesTurn r (IsParser-TakesTurn r pa pb) pc) pd))

module _ {X Y Z V W T : Type 0} (r q : Type 0) {a : Meaning X T} {b : Meaning Y T} {c : Meaning Z T} {d : Meaning V T} {e : Meaning W T} (pa : IsParser a) (pb : IsParser b) (pc : IsParser c) (pd : IsParser d) (pe : IsParser e) where
  -- what comes after a turn of five keeps the laws of a parser
  after_turn5-parser : (turn : Turn (Turn (Turn (Turn X Y) Z) V) W)
      → IsParser (AfterTurn5 r q a b c d e turn)
  after_turn5-parser (This (This (This (This x)))) = IsParser-Maps (OfFirst5 x) (IsPermutation4 r q b c d e) (IsParser-IsPermutation4 r q pb pc pd pe)
  after_turn5-parser (This (This (This (Other y)))) = IsParser-Maps (OfSecond5 y) (IsPermutation4 r q a c d e) (IsParser-IsPermutation4 r q pa pc pd pe)
  after_turn5-parser (This (This (Other z))) = IsParser-Maps (OfThird5 z) (IsPermutation4 r q a b d e) (IsParser-IsPermutation4 r q pa pb pd pe)
  after_turn5-parser (This (Other v)) = IsParser-Maps (OfFourth5 v) (IsPermutation4 r q a b c e) (IsParser-IsPermutation4 r q pa pb pc pe)
  after_turn5-parser (Other w) = IsParser-Maps (OfFifth5 w) (IsPermutation4 r q a b c d) (IsParser-IsPermutation4 r q pa pb pc pd)

  -- `IsPermutation5` keeps the laws of a parser
  pub IsParser-IsPermutation5 : IsParser (IsPermutation5 r q a b c d e)
  IsParser-IsPermutation5 =
      IsParser-FlatMaps ◌≡◌ (AfterTurn5 r q a b c d e) (TriesOnce q (TakesTurn r (TakesTurn r (TakesTurn r (TakesTurn r a b) c) d) e)) after_turn5-parser
      (IsParser-TriesOnce q (IsParser-TakesTurn r (IsParser-TakesTurn r (IsParser-TakesTurn r (IsParser-TakesTurn r pa pb) pc) pd) pe))
