-- The parsers of a float's text have one answer, and so has the float.
use Rattle.std.proofs.Common.{◌≡◌, ℕ, Bool, true, false, List, [], ◌∷◌, Option, None, Some, refl, ap, sym, ◌∙◌, subst}
use Rattle.std.specs.Prelude.{⊤, MatchBool}
use Rattle.std.specs.Float.Ieee as ieee
use Rattle.std.proofs.lemmas.Option.{none-some, same_Some}
use Rattle.winnow_stream.specs.Source.{Source}
use Rattle.winnow_stream.specs.Shortage.{needed}
use Rattle.winnow_parser.specs.Outcome.{Backtracks, Cuts, Needs, Refuses, Outcome, Gives, Fails, Meaning}
use Rattle.winnow_parser.specs.Meanings.{Maps, IsForgotten, Returns, Pair, IsOpt}
use Rattle.winnow_parser.specs.Rows.{Flat3, Flat4, Flat5, Row3, Row4, Row5}
use Rattle.winnow_parser.specs.Determined.{Agree, IsDetermined, Shows, AreBothSame, AreSameIfAny, SlicesRespect}
use Rattle.winnow_parser.proofs.lemmas.DeterminedLemmas.{determined-returns, determined-maps, determined-pair}
use Rattle.winnow_parser.proofs.lemmas.ImageLemmas.{determined-opt, determined-verify_map}
use Rattle.winnow_parser.proofs.lemmas.MadeLemmas.{determined-taken}
use Rattle.winnow_token.proofs.lemmas.ToldLemmas.{determined-one_of, determined-take_while}
use Rattle.winnow_float.specs.declared.mark.Mark.{Mark}
use Rattle.winnow_float.specs.declared.mark.Mark.TheVariants.{Sign, Point, Letter}
use Rattle.winnow_float.specs.IfNext.{ByNext, IsIfNext}
use Rattle.winnow_float.specs.Word.{IsWord}
use Rattle.winnow_float.specs.Marks.{IsDigits}
use Rattle.winnow_float.specs.FloatText.{marked, IsMark, IsInf, IsInity, IsNan, IsExponent, IsDecimal, IsMagnitude, IsFloatText}
use Rattle.winnow_float.specs.Float.{IsReadAs, IsFloat, HaveBytes}

-- any two values are the same
abbrev Any : {O : Type 0} → O → O → Type 0
Any x y = ⊤

-- ---- Parsers whose values do not matter

module _ {T : Type 0} where
  -- answers that agree still do if all values are the same
  blur : {O : Type 0} (same : O → O → Type 0) (v w : Outcome O T) → Agree same v w → Agree Any v w
  blur same (Gives x b) (Gives y c) e = (tt, e.1)
  blur same (Gives x b) (Fails g) e = e
  blur same (Fails f) (Gives y c) e = e
  blur same (Fails f) (Fails g) e = e

  -- a parser with one answer has one if all values are the same
  blurred : {O : Type 0} (same : O → O → Type 0) (inner : Meaning O T) → IsDetermined same inner
      → IsDetermined Any inner
  blurred same inner d partial a v w s t h k = blur same v w (d partial a v w s t h k)

  -- two in a row, of which something is made
  joined : {A B O : Type 0} (joins : A × B → O → Type 0) (a : Meaning A T) (b : Meaning B T)
      → IsDetermined Any a → IsDetermined Any b → IsDetermined Any (Maps joins (Pair a b))
  joined joins a b d e =
      determined-maps (AreBothSame Any Any) Any joins (λ x y p q u h k. tt) (Pair a b) (determined-pair Any Any a b d e)

  two : {A B : Type 0} (a : Meaning A T) (b : Meaning B T) → IsDetermined Any a
      → IsDetermined Any b → IsDetermined Any (Pair a b)
  two a b d e = blurred (AreBothSame Any Any) (Pair a b) (determined-pair Any Any a b d e)

  three : {A B C : Type 0} (a : Meaning A T) (b : Meaning B T) (c : Meaning C T)
      → IsDetermined Any a → IsDetermined Any b → IsDetermined Any c
      → IsDetermined Any (Row3 a b c)
  three a b c d e f = joined Flat3 a (Pair b c) d (two b c e f)

  five : {A B C D E : Type 0} (a : Meaning A T) (b : Meaning B T) (c : Meaning C T)
      (d : Meaning D T) (e : Meaning E T) → IsDetermined Any a → IsDetermined Any b
      → IsDetermined Any c → IsDetermined Any d → IsDetermined Any e
      → IsDetermined Any (Row5 a b c d e)
  five a b c d e p q r s t =
      joined Flat5 a (Row4 b c d e) p (joined Flat4 b (Row3 c d e) q (three c d e r s t))

  perhaps : {O : Type 0} (inner : Meaning O T) → IsDetermined Any inner
      → IsDetermined Any (IsOpt inner)
  perhaps inner d = blurred (AreSameIfAny Any) (IsOpt inner) (determined-opt inner Any d)

  void : {O : Type 0} (inner : Meaning O T) → IsDetermined Any inner
      → IsDetermined Any (Maps IsForgotten inner)
  void inner d = determined-maps Any Any IsForgotten (λ x y p q u h k. tt) inner d

-- ---- A choice by the next token

-- what follows from a pair of facts in each of two cases
match-both : (b : Bool) {P P' Q Q' R : Type 0} → (P → P' → R) → (Q → Q' → R) → MatchBool b P Q
    → MatchBool b P' Q' → R
match-both true f g h k = f h k
match-both false f g h k = g h k

by_next-both : {T : Type 0} (holds : T → Bool) (r : Source T) {P P' Q Q' N N' R : Type 0}
    → (P → P' → R) → (Q → Q' → R) → (N → N' → R) → ByNext holds r P Q N
    → ByNext holds r P' Q' N' → R
by_next-both holds [] f g e h k = e h k
by_next-both holds (x ∷ xs) f g e h k = match-both (holds x.0) f g h k

-- two answers that need one more token agree
needs-agree : {T : Type 0} (v w : Outcome (Unit {0}) T) → v ≡ Fails (Needs (needed 1))
    → w ≡ Fails (Needs (needed 1)) → Agree Any v w
needs-agree v w e f =
    subst (λ o. Agree Any o w) (sym e) (subst (λ o. Agree Any (Fails (Needs (needed 1))) o) (sym f) refl)

-- `IsIfNext` has one answer where both parsers have one
determined-if_next : {O P T : Type 0} (holds : T → Bool) (first : Meaning O T)
    (second : Meaning P T) → IsDetermined Any first → IsDetermined Any second
    → IsDetermined Any (IsIfNext holds first second)
determined-if_next holds first second d e partial a v w s t h k =
    let one = void first d partial a v w s t in
    let other = void second e partial a v w s t in
    by_next-both holds a.tokens one other (match-both partial (needs-agree v w) other) h k

-- ---- A word

module _ {O T : Type 0} (letters : Meaning O T) (d : IsDetermined Any letters) where
  -- `IsWord` has one answer where the parser of its letters has one
  determined-word : IsDetermined Any (IsWord letters)
  determined-word partial a (Gives u b) (Gives v c) s t (x, h) (y, k) = (tt, (d partial a (Gives x b) (Gives y c) tt tt h k).1)
  determined-word partial a (Gives u b) (Fails (Backtracks c)) s t (x, h) (e, (i, k)) = d partial a (Gives x b) (Fails (Backtracks i)) tt tt h k
  determined-word partial a (Gives u b) (Fails (Cuts c)) s t (x, h) k = d partial a (Gives x b) (Fails (Cuts c)) tt tt h k
  determined-word partial a (Gives u b) (Fails (Needs n)) s t (x, h) k = d partial a (Gives x b) (Fails (Needs n)) tt tt h k
  determined-word partial a (Gives u b) (Fails Refuses) s t h k = absurd t
  determined-word partial a (Fails (Backtracks b)) (Gives v c) s t (e, (i, h)) (y, k) = d partial a (Fails (Backtracks i)) (Gives y c) tt tt h k
  determined-word partial a (Fails (Cuts b)) (Gives v c) s t h (y, k) = d partial a (Fails (Cuts b)) (Gives y c) tt tt h k
  determined-word partial a (Fails (Needs n)) (Gives v c) s t h (y, k) = d partial a (Fails (Needs n)) (Gives y c) tt tt h k
  determined-word partial a (Fails (Backtracks b)) (Fails (Backtracks c)) s t (e, h) (f, k) = ap Backtracks (e ∙ sym f)
  determined-word partial a (Fails (Backtracks b)) (Fails (Cuts c)) s t (e, (i, h)) k =
      let same = d partial a (Fails (Backtracks i)) (Fails (Cuts c)) tt tt h k in cc
  determined-word partial a (Fails (Backtracks b)) (Fails (Needs n)) s t (e, (i, h)) k =
      let same = d partial a (Fails (Backtracks i)) (Fails (Needs n)) tt tt h k in cc
  determined-word partial a (Fails (Cuts b)) (Fails (Backtracks c)) s t h (f, (i, k)) =
      let same = d partial a (Fails (Cuts b)) (Fails (Backtracks i)) tt tt h k in cc
  determined-word partial a (Fails (Needs n)) (Fails (Backtracks c)) s t h (f, (i, k)) =
      let same = d partial a (Fails (Needs n)) (Fails (Backtracks i)) tt tt h k in cc
  determined-word partial a (Fails (Cuts b)) (Fails (Cuts c)) s t h k = d partial a (Fails (Cuts b)) (Fails (Cuts c)) tt tt h k
  determined-word partial a (Fails (Cuts b)) (Fails (Needs n)) s t h k = d partial a (Fails (Cuts b)) (Fails (Needs n)) tt tt h k
  determined-word partial a (Fails (Needs n)) (Fails (Cuts c)) s t h k = d partial a (Fails (Needs n)) (Fails (Cuts c)) tt tt h k
  determined-word partial a (Fails (Needs n)) (Fails (Needs m)) s t h k = d partial a (Fails (Needs n)) (Fails (Needs m)) tt tt h k
  determined-word partial a (Fails Refuses) w s t h k = absurd s
  determined-word partial a (Fails (Backtracks b)) (Fails Refuses) s t h k = absurd t
  determined-word partial a (Fails (Cuts b)) (Fails Refuses) s t h k = absurd t
  determined-word partial a (Fails (Needs n)) (Fails Refuses) s t h k = absurd t

-- ---- The text

module _ {S T : Type 0} (is_slice : S → Source T → ℕ → Type 0) (code : T → ℕ) where
  mark : (it : Mark) → IsDetermined Any (IsMark is_slice code it)
  mark it = blurred ◌≡◌ (IsMark is_slice code it) (determined-one_of (marked is_slice code it))

  digits : (least : ℕ) → IsDetermined Any (IsDigits is_slice code least)
  digits least = determined-take_while is_slice Any (λ s t a b h k. tt) _ least None

  word-of : (x y z : ℕ) → IsDetermined Any (IsWord (Row3 (IsMark is_slice code (Letter x))
      (IsMark is_slice code (Letter y)) (IsMark is_slice code (Letter z))))
  word-of x y z =
      determined-word (Row3 (IsMark is_slice code (Letter x)) (IsMark is_slice code (Letter y)) (IsMark is_slice code (Letter z)))
      (three (IsMark is_slice code (Letter x)) (IsMark is_slice code (Letter y)) (IsMark is_slice code (Letter z)) (mark (Letter x)) (mark (Letter y)) (mark (Letter z)))

  inity : IsDetermined Any (IsInity is_slice code)
  inity =
      let letter = λ (x : ℕ). IsMark is_slice code (Letter x) in
      determined-word (Row5 (letter 105) (letter 110) (letter 105) (letter 116) (letter 121))
      (five (letter 105) (letter 110) (letter 105) (letter 116) (letter 121) (mark (Letter 105)) (mark (Letter 110)) (mark (Letter 105)) (mark (Letter 116)) (mark (Letter 121)))

  exponent : IsDetermined Any (IsExponent is_slice code)
  exponent =
      let e = IsMark is_slice code (Letter 101) in
      let sign = IsMark is_slice code Sign in
      determined-if_next (marked is_slice code (Letter 101)) (Row3 e (IsOpt sign) (IsDigits is_slice code 1)) (Returns (tt {0}))
      (three e (IsOpt sign) (IsDigits is_slice code 1) (mark (Letter 101)) (perhaps sign (mark Sign)) (digits 1))
      (determined-returns (tt {0}) Any tt)

  decimal : IsDetermined Any (IsDecimal is_slice code)
  decimal =
      let point = IsMark is_slice code Point in
      let more = Pair point (IsDigits is_slice code 0) in
      determined-if_next (marked is_slice code Point) (Row3 point (IsDigits is_slice code 1) (IsExponent is_slice code)) (Row3 (IsDigits is_slice code 1) (IsOpt more) (IsExponent is_slice code))
      (three point (IsDigits is_slice code 1) (IsExponent is_slice code) (mark Point) (digits 1) exponent)
      (three (IsDigits is_slice code 1) (IsOpt more) (IsExponent is_slice code) (digits 1) (perhaps more (two point (IsDigits is_slice code 0) (mark Point) (digits 0))) exponent)

  magnitude : IsDetermined Any (IsMagnitude is_slice code)
  magnitude =
      determined-if_next (marked is_slice code (Letter 105)) (Pair (IsInf is_slice code) (IsOpt (IsInity is_slice code))) (IsDecimal is_slice code)
      (two (IsInf is_slice code) (IsOpt (IsInity is_slice code)) (word-of 105 110 102) (perhaps (IsInity is_slice code) inity)) decimal

  text : IsDetermined Any (IsFloatText is_slice code)
  text =
      let sign = IsMark is_slice code Sign in
      determined-if_next (marked is_slice code (Letter 110)) (IsNan is_slice code) (Pair (IsOpt sign) (IsMagnitude is_slice code)) (word-of 110 97 110)
      (two (IsOpt sign) (IsMagnitude is_slice code) (perhaps sign (mark Sign)) magnitude)

-- ---- The float

module _ {R S V : Type 0} (format : ieee.Format) (value : R → ieee.Float) (bytes : S → List ℕ) (view : S → V) (alike : HaveBytes view bytes) where
  -- slices of which the view shows the same read as one float, or both as none
  one-float : (s t : S) (o p : Option R) → Shows view s t → IsReadAs format value (bytes s) o
      → IsReadAs format value (bytes t) p → AreSameIfAny (Shows value) o p
  one-float s t (Some x) (Some y) e h k =
      same_Some (value x) (value y) (sym (subst (λ b. IsReadAs format value b (Some x)) (alike s t e) h) ∙ k)
  one-float s t (Some x) None e h k =
      absurd (none-some (value x) (sym k ∙ subst (λ b. IsReadAs format value b (Some x)) (alike s t e) h))
  one-float s t None (Some y) e h k =
      let none : Option R = None in
      absurd (none-some (value y) (sym (subst (λ b. IsReadAs format value b none) (alike s t e) h) ∙ k))
  one-float s t None None e h k = tt

  -- `IsFloat` has one answer
  pub determined-float : {T : Type 0} (is_slice : S → Source T → ℕ → Type 0)
      → SlicesRespect is_slice (Shows view) → (code : T → ℕ)
      → IsDetermined (Shows value) (IsFloat format value bytes is_slice code)
  determined-float is_slice fronts code =
      determined-verify_map (λ slice. IsReadAs format value (bytes slice)) _ (Shows view) (Shows value) one-float
      (determined-taken is_slice (Shows view) fronts (IsFloatText is_slice code) Any (text is_slice code))
