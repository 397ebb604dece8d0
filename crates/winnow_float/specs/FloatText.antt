-- The text of a float.
use Rattle.std.specs.Prelude.{ℕ, Bool, None}
use Rattle.winnow_stream.specs.Source.{Source}
use Rattle.winnow_stream.specs.Longer.{SlicesStay}
use Rattle.winnow_parser.specs.Outcome.{Meaning}
use Rattle.winnow_parser.specs.Laws.{IsParser}
use Rattle.winnow_parser.specs.Meanings.{Returns, Pair, IsOpt}
use Rattle.winnow_parser.specs.Parts.{IsParser-Returns, IsParser-Pair, IsParser-IsOpt}
use Rattle.winnow_parser.specs.Rows.{Row3, Row5, IsParser-Row3, IsParser-Row5}
use Rattle.winnow_token.specs.OneOf.{IsOneOf, IsParser-IsOneOf}
use Rattle.winnow_token.specs.TakeWhile.{IsParser-TakesWhile}
use Rattle.winnow_float.specs.declared.mark.Mark.{Mark}
use Rattle.winnow_float.specs.declared.mark.Mark.TheVariants.{Sign, Point, Letter}
use Rattle.winnow_float.specs.IfNext.{IsIfNext, IsParser-IsIfNext}
use Rattle.winnow_float.specs.Marks.{is_mark, is_digit, IsDigits}
use Rattle.winnow_float.specs.Word.{IsWord, IsParser-IsWord}

module _ {S T : Type 0} (is_slice : S → Source T → ℕ → Type 0) (code : T → ℕ) where
  -- the tokens of a mark, and one of them
  abbrev pub marked : Mark → T → Bool
  marked mark token = is_mark mark (code token)

  abbrev pub IsMark : Mark → Meaning T T
  IsMark mark = IsOneOf (marked mark)

  -- the letters of `inf` (105, 110, 102), of `inity`, and of `nan` (110, 97, 110)
  abbrev pub IsInf : Meaning (Unit {0}) T
  IsInf = IsWord (Row3 (IsMark (Letter 105)) (IsMark (Letter 110)) (IsMark (Letter 102)))

  abbrev pub IsInity : Meaning (Unit {0}) T
  IsInity =
      IsWord (Row5 (IsMark (Letter 105)) (IsMark (Letter 110)) (IsMark (Letter 105)) (IsMark (Letter 116)) (IsMark (Letter 121)))

  abbrev pub IsNan : Meaning (Unit {0}) T
  IsNan = IsWord (Row3 (IsMark (Letter 110)) (IsMark (Letter 97)) (IsMark (Letter 110)))

  -- an e (101), a sign or none, and digits; or nothing, if no e comes next
  abbrev pub IsExponent : Meaning (Unit {0}) T
  IsExponent = IsIfNext (marked (Letter 101))
      (Row3 (IsMark (Letter 101)) (IsOpt (IsMark Sign)) (IsDigits is_slice code 1)) (Returns (tt {0}))

  -- a point and digits, or digits and perhaps a point with digits or none; and an exponent, if one
  -- comes
  abbrev pub IsDecimal : Meaning (Unit {0}) T
  IsDecimal = IsIfNext (marked Point) (Row3 (IsMark Point) (IsDigits is_slice code 1) IsExponent)
      (Row3 (IsDigits is_slice code 1) (IsOpt (Pair (IsMark Point) (IsDigits is_slice code 0))) IsExponent)

  -- `inf`, `infinity`, or a number without a sign
  abbrev pub IsMagnitude : Meaning (Unit {0}) T
  IsMagnitude = IsIfNext (marked (Letter 105)) (Pair IsInf (IsOpt IsInity)) IsDecimal

  -- `nan`; or a sign or none, and a magnitude
  abbrev pub IsFloatText : Meaning (Unit {0}) T
  IsFloatText = IsIfNext (marked (Letter 110)) IsNan (Pair (IsOpt (IsMark Sign)) IsMagnitude)

-- ---- The laws

module _ {S T : Type 0} (is_slice : S → Source T → ℕ → Type 0) (stay : SlicesStay is_slice) (code : T → ℕ) where
  -- one token of a mark keeps the laws of a parser
  mark-parser : (mark : Mark) → IsParser (IsMark is_slice code mark)
  mark-parser mark = IsParser-IsOneOf (marked is_slice code mark)

  -- and so do digits
  digits-parser : (least : ℕ) → IsParser (IsDigits is_slice code least)
  digits-parser least = IsParser-TakesWhile is_slice stay (λ token. is_digit (code token)) least None

  -- three letters keep the laws of a parser
  three-parser : (x y z : ℕ) → IsParser (Row3 (IsMark is_slice code (Letter x))
      (IsMark is_slice code (Letter y)) (IsMark is_slice code (Letter z)))
  three-parser x y z = IsParser-Row3 _ _ _ (mark-parser (Letter x)) (mark-parser (Letter y)) (mark-parser (Letter z))

  -- `IsExponent` keeps the laws of a parser
  pub IsParser-IsExponent : IsParser (IsExponent is_slice code)
  IsParser-IsExponent = IsParser-IsIfNext _
      (IsParser-Row3 _ _ _ (mark-parser (Letter 101)) (IsParser-IsOpt _ (mark-parser Sign)) (digits-parser 1))
      (IsParser-Returns (tt {0}))

  -- `IsDecimal` keeps the laws of a parser
  pub IsParser-IsDecimal : IsParser (IsDecimal is_slice code)
  IsParser-IsDecimal = IsParser-IsIfNext _
      (IsParser-Row3 _ _ _ (mark-parser Point) (digits-parser 1) IsParser-IsExponent)
      (IsParser-Row3 _ _ _ (digits-parser 1) (IsParser-IsOpt _ (IsParser-Pair _ _ (mark-parser Point) (digits-parser 0))) IsParser-IsExponent)

  -- `IsMagnitude` keeps the laws of a parser
  pub IsParser-IsMagnitude : IsParser (IsMagnitude is_slice code)
  IsParser-IsMagnitude = IsParser-IsIfNext _
      (IsParser-Pair _ _ (IsParser-IsWord (three-parser 105 110 102)) (IsParser-IsOpt _ (IsParser-IsWord (IsParser-Row5 _ _ _ _ _ (mark-parser (Letter 105)) (mark-parser (Letter 110)) (mark-parser (Letter 105)) (mark-parser (Letter 116)) (mark-parser (Letter 121))))))
      IsParser-IsDecimal

  -- `IsFloatText` keeps the laws of a parser
  pub IsParser-IsFloatText : IsParser (IsFloatText is_slice code)
  IsParser-IsFloatText = IsParser-IsIfNext _ (IsParser-IsWord (three-parser 110 97 110))
      (IsParser-Pair _ _ (IsParser-IsOpt _ (mark-parser Sign)) IsParser-IsMagnitude)
