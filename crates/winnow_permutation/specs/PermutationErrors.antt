-- The errors of parsers in any order: those of the turn at which all that were left backtracked, or
-- of a part that cut.
use Rattle.std.specs.Prelude.{◌≡◌}
use Rattle.winnow_parser.specs.Outcome.{Ahead, Meaning}
use Rattle.winnow_parser.specs.Errors.{Errors, AltErrors2, FlatMapErrors}
use Rattle.winnow_combinator.specs.Appended.{AppendedErrors}
use Rattle.winnow_permutation.specs.declared.turns.Turn.{Turn}
use Rattle.winnow_permutation.specs.declared.turns.Turn.TheVariants.{This, Other}
use Rattle.winnow_permutation.specs.Tried.{TriedErrors}
use Rattle.winnow_permutation.specs.AnyOrder.{TakesTurn}
use Rattle.winnow_permutation.specs.Permutation.{TriesOnce}

module _ {E S C T : Type 0} (stands : S → Ahead T) (stood : C → Ahead T) (joins : E → E → E → Type 0) (appends : E → S → C → E → Type 0) where
  -- the errors of the parser; that of a backtrack is appended to, by the stream at the place where
  -- the parser began
  abbrev pub OnceErrors : {O : Type 0} → Meaning O T → Errors E S T → Errors E S T
  OnceErrors means inner = AppendedErrors stood appends (TriedErrors stands means inner)

  module _ {X Y : Type 0} (ma : Meaning X T) (a : Errors E S T) (mb : Meaning Y T) (b : Errors E S T) where
    -- the errors of the other parser
    abbrev pub AfterTurnErrors2 : Turn X Y → Errors E S T
    AfterTurnErrors2 (This x) = OnceErrors mb b
    AfterTurnErrors2 (Other y) = OnceErrors ma a

    -- the errors of a permutation of two
    abbrev pub PermutationErrors2 : Type 0 → Type 0 → Errors E S T
    PermutationErrors2 r q =
        FlatMapErrors ◌≡◌ AfterTurnErrors2 (TriesOnce q (TakesTurn r ma mb)) (OnceErrors (TakesTurn r ma mb) (AltErrors2 stands joins ma a b))

  module _ {X Y Z : Type 0} (r q : Type 0) (ma : Meaning X T) (a : Errors E S T) (mb : Meaning Y T) (b : Errors E S T) (mc : Meaning Z T) (c : Errors E S T) where
    -- the errors of a permutation of the two others
    abbrev pub AfterTurnErrors3 : Turn (Turn X Y) Z → Errors E S T
    AfterTurnErrors3 (This (This x)) = PermutationErrors2 mb b mc c r q
    AfterTurnErrors3 (This (Other y)) = PermutationErrors2 ma a mc c r q
    AfterTurnErrors3 (Other z) = PermutationErrors2 ma a mb b r q

    -- the errors of a turn of three
    abbrev pub TurnErrors3 : Errors E S T
    TurnErrors3 = AltErrors2 stands joins (TakesTurn r ma mb) (AltErrors2 stands joins ma a b) c

    -- the errors of a permutation of three
    abbrev pub PermutationErrors3 : Errors E S T
    PermutationErrors3 =
        FlatMapErrors ◌≡◌ AfterTurnErrors3 (TriesOnce q (TakesTurn r (TakesTurn r ma mb) mc)) (OnceErrors (TakesTurn r (TakesTurn r ma mb) mc) TurnErrors3)

  module _ {X Y Z V : Type 0} (r q : Type 0) (ma : Meaning X T) (a : Errors E S T) (mb : Meaning Y T) (b : Errors E S T) (mc : Meaning Z T) (c : Errors E S T) (md : Meaning V T) (d : Errors E S T) where
    -- the errors of a permutation of the three others
    abbrev pub AfterTurnErrors4 : Turn (Turn (Turn X Y) Z) V → Errors E S T
    AfterTurnErrors4 (This (This (This x))) = PermutationErrors3 r q mb b mc c md d
    AfterTurnErrors4 (This (This (Other y))) = PermutationErrors3 r q ma a mc c md d
    AfterTurnErrors4 (This (Other z)) = PermutationErrors3 r q ma a mb b md d
    AfterTurnErrors4 (Other v) = PermutationErrors3 r q ma a mb b mc c

    -- the errors of a turn of four
    abbrev pub TurnErrors4 : Errors E S T
    TurnErrors4 = AltErrors2 stands joins (TakesTurn r (TakesTurn r ma mb) mc) (TurnErrors3 r q ma a mb b mc c) d

    -- the errors of a permutation of four
    abbrev pub PermutationErrors4 : Errors E S T
    PermutationErrors4 =
        FlatMapErrors ◌≡◌ AfterTurnErrors4 (TriesOnce q (TakesTurn r (TakesTurn r (TakesTurn r ma mb) mc) md))
        (OnceErrors (TakesTurn r (TakesTurn r (TakesTurn r ma mb) mc) md) TurnErrors4)

  module _ {X Y Z V W : Type 0} (r q : Type 0) (ma : Meaning X T) (a : Errors E S T) (mb : Meaning Y T) (b : Errors E S T) (mc : Meaning Z T) (c : Errors E S T) (md : Meaning V T) (d : Errors E S T) (me : Meaning W T) (e : Errors E S T) where
    -- the errors of a permutation of the four others
    abbrev pub AfterTurnErrors5 : Turn (Turn (Turn (Turn X Y) Z) V) W → Errors E S T
    AfterTurnErrors5 (This (This (This (This x)))) = PermutationErrors4 r q mb b mc c md d me e
    AfterTurnErrors5 (This (This (This (Other y)))) = PermutationErrors4 r q ma a mc c md d me e
    AfterTurnErrors5 (This (This (Other z))) = PermutationErrors4 r q ma a mb b md d me e
    AfterTurnErrors5 (This (Other v)) = PermutationErrors4 r q ma a mb b mc c me e
    AfterTurnErrors5 (Other w) = PermutationErrors4 r q ma a mb b mc c md d

    -- the errors of a turn of five
    abbrev pub TurnErrors5 : Errors E S T
    TurnErrors5 = AltErrors2 stands joins (TakesTurn r (TakesTurn r (TakesTurn r ma mb) mc) md) (TurnErrors4 r q ma a mb b mc c md d) e

    -- the errors of a permutation of five
    abbrev pub PermutationErrors5 : Errors E S T
    PermutationErrors5 =
        FlatMapErrors ◌≡◌ AfterTurnErrors5 (TriesOnce q (TakesTurn r (TakesTurn r (TakesTurn r (TakesTurn r ma mb) mc) md) me))
        (OnceErrors (TakesTurn r (TakesTurn r (TakesTurn r (TakesTurn r ma mb) mc) md) me) TurnErrors5)
