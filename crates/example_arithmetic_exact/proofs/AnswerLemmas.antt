-- From the meaning of the parser of expressions to the words of expressions.
use Rattle.std.proofs.Common.{◌≡◌, ℕ, ◌≤◌, false, List, [], ◌∷◌, ◌++◌, length, Option, Some, inl, inr, ap, sym, ◌∙◌, subst, refl, arith, length-append}
use Rattle.std.specs.Prelude.{ℤ, Result, Ok, Err}
use Rattle.std.specs.Str.{chars}
use Rattle.winnow_stream.specs.Longer.{SlicesStay-front}
use Rattle.winnow_stream.specs.Text.{char_source, text_source, HasPositiveWidths-char_source}
use Rattle.winnow_stream.specs.declared.needed.Needed.{Needed}
use Rattle.winnow_parser.specs.Outcome.{Ahead, Backtracks, Gives, Fails}
use Rattle.winnow_parser.specs.Meanings.{VerifyMaps}
use Rattle.winnow_parser.specs.Answer.{outcome}
use Rattle.winnow_error.specs.declared.failure.Failure.{Failure}
use Rattle.winnow_error.specs.declared.failure.Failure.TheVariants.{Incomplete, Backtrack, Cut, Refused}
use Rattle.winnow_exact.specs.Nested.{IsNested, IsParser-IsNested}
use Rattle.example_arithmetic_exact.specs.Reading.{IsLongest, HasNone, IsAnswer}
use Rattle.example_arithmetic_exact.specs.Grammar.{IsTextSlice, IsLayer, IsParser-IsLayer}
use Rattle.example_arithmetic_exact.proofs.ExpressionLemmas.{reads-nested}
use Rattle.winnow_grammar.specs.Spelling.{tokens_of}

-- the characters of a source of characters
text-chars : (cs : List ℕ) → tokens_of (char_source cs) ≡ cs
text-chars [] = refl
text-chars (c ∷ cs) = ap (λ r. c ∷ r) (text-chars cs)

-- a front that ends before another is no longer
shorter : (whole front suffix other rest more : List ℕ) → whole ≡ front ++ suffix
    → whole ≡ other ++ rest → rest ≡ more ++ suffix → length other ≤ length front
shorter whole front suffix other rest more e f g =
    let same : length (front ++ suffix) ≡ length (other ++ rest) = ap length (sym e ∙ f) in
    let left : length rest ≡ length (more ++ suffix) = ap length g in
    omega (arith, same, left, length-append front suffix, length-append other rest, length-append more suffix)

module _ (depth : ℕ) (s : List ℕ) where
  -- what the parser takes is the longest expression
  longest : (l : Option ℕ) (b : Ahead ℕ) (x : Option ℤ)
      → IsNested (IsLayer IsTextSlice) depth false (record { location = l; tokens = text_source s }) (Gives x b)
      → IsLongest x (chars s) (tokens_of b.tokens)
  longest l b x h =
      let a : Ahead ℕ = record { location = l; tokens = text_source s } in
      let wide = HasPositiveWidths-char_source (chars s) in
      let same = text-chars (chars s) in
      let g = (reads-nested depth).gives a b x wide h in (
        g.1.0,
        (
          sym same ∙ g.1.1.0,
          g.1.1.1,
          (λ other suffix y e k.
              let n = (reads-nested depth).ends a b x wide h y other suffix (same ∙ e) k in
              shorter (chars s) g.1.0 (tokens_of b.tokens) other suffix n.0 (sym same ∙ g.1.1.0) e n.1.0),
        ),
      )

  -- where it backtracks, there is none
  none : (l : Option ℕ) (b : Ahead ℕ)
      → IsNested (IsLayer IsTextSlice) depth false (record { location = l; tokens = text_source s }) (Fails (Backtracks b))
      → HasNone (chars s)
  none l b h front rest x e k =
      (reads-nested depth).none (record { location = l; tokens = text_source s }) b (HasPositiveWidths-char_source (chars s)) h x front rest (text-chars (chars s) ∙ e) k

  -- so the answer is that of a reader of expressions
  pub answers : {E : Type 0} (l m : Option ℕ) (t : List ℕ) (result : Result ℤ (Failure E Needed))
      → VerifyMaps (λ value chosen. chosen ≡ value) (IsNested (IsLayer IsTextSlice) depth) false (record { location = l; tokens = text_source s }) (outcome result (record { location = m; tokens = text_source t }))
      → IsAnswer (chars s) result (chars t)
  answers l m t (Ok v) (x, (is, h)) =
      subst (λ r. IsLongest (Some v) (chars s) r) (text-chars (chars t))
      (subst (λ y. IsLongest y (chars s) (tokens_of (text_source t))) (sym is) (longest l (record { location = m; tokens = text_source t }) x h))
  answers l m t (Err (Backtrack e)) (inl h) = inl (none l (record { location = m; tokens = text_source t }) h)
  answers l m t (Err (Backtrack e)) (inr (still, (x, (c, (h, is))))) =
      inr (tokens_of c.tokens, subst (λ y. IsLongest y (chars s) (tokens_of c.tokens)) (sym is) (longest l c x h))
  answers l m t (Err (Cut e)) h = tt
  answers l m t (Err (Incomplete n)) h =
      absurd ((IsParser-IsNested (IsLayer IsTextSlice) (IsParser-IsLayer IsTextSlice (SlicesStay-front (λ s. text_source s.now))) depth).final (record { location = l; tokens = text_source s }) n h)
  answers l m t (Err (Refused e)) h = tt
