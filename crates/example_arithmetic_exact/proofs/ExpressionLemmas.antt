-- The parsers of an expression read what its definition says.
use Rattle.std.proofs.Common.{◌≡◌, ℕ, suc, ◌==◌, Bool, true, false, ◌||◌, List, [], ◌∷◌, ◌++◌, Option, inl, inr, ap, sym, ◌∙◌, subst, refl, arith, append_assoc}
use Rattle.std.specs.Prelude.{ℤ, ◌⊎◌}
use Rattle.std.specs.Borrow.{Bor}
use Rattle.std.specs.Char.{is_ascii_digit}
use Rattle.std.proofs.lemmas.Bool.Decides.{eqb_tells}
use Rattle.std.proofs.lemmas.List.{append-nil}
use Rattle.winnow_parser.specs.Outcome.{Meaning}
use Rattle.winnow_parser.specs.Meanings.{First, Second, IsTerminated}
use Rattle.winnow_token.specs.OneOf.{IsOneOf}
use Rattle.winnow_ascii.specs.Classes.{is_ascii_multispace}
use Rattle.example_arithmetic_exact.specs.Steps.{OfBoth, Adds, Multiplies}
use Rattle.example_arithmetic_exact.specs.Expressions.{is_sum_sign, is_product_sign, WritesNumber, Expression, Term, Factor, Core, Writes, term, sum, factor, product, spaced, number, parens}
use Rattle.example_arithmetic_exact.specs.Grammar.{IsTextSlice, Blanks, Parens, Cores, Factors, Terms, IsLayer}
use Rattle.winnow_grammar.specs.Spelling.{Spelling}
use Rattle.winnow_grammar.specs.Spellings.{AreHeld, OneToken, Then}
use Rattle.winnow_exact.specs.Nested.{IsNested, IsExact-IsNested}
use Rattle.winnow_exact.specs.Exact.{IsExact}
use Rattle.winnow_exact.specs.Languages.{nothing, Link, Links}
use Rattle.winnow_exact.proofs.lemmas.ListLemmas.{heads, not-empty, not-both, or-left, or-right}
use Rattle.winnow_exact.proofs.lemmas.ValueLemmas.{IsExact-as, IsExact-Maps, IsExact-Appending}
use Rattle.winnow_exact.proofs.lemmas.TokenLemmas.{IsExact-IsOneOf}
use Rattle.winnow_exact.proofs.lemmas.PairLemmas.{IsExact-Pair, IsExact-IsAlt2}
use Rattle.winnow_exact.proofs.lemmas.ChainLemmas.{Links-more, IsExact-IsSeparatedFoldl1}
use Rattle.example_arithmetic_exact.proofs.NumberLemmas.{Spaces, reads-spaces, reads-number}

-- the characters that may go on after a factor, a term and an expression
abbrev on_factor : ℕ → Bool
on_factor c = is_ascii_digit c || is_ascii_multispace c

abbrev on_term : ℕ → Bool
on_term c = on_factor c || is_product_sign c

abbrev pub on_expression : ℕ → Bool
on_expression c = on_term c || is_sum_sign c

-- ---- No character is of two kinds

or-cases : (b c : Bool) → (b || c) ≡ true → (b ≡ true) ⊎ (c ≡ true)
or-cases true c h = inl refl
or-cases false c h = inr h

same : (a c : ℕ) → (a == c) ≡ true → a ≡ c
same a c h = elim (eqb_tells a c) [
  | inl p ↦ p.1
  | inr p ↦ absurd (not-both (a == c) h p.0)
]

-- a character is not this one, of which a test says no
not-one : (holds : ℕ → Bool) (n c : ℕ) → holds n ≡ false → holds c ≡ true → c ≡ n → ⊥
not-one holds n c f h e = not-both (holds n) (subst (λ k. holds k ≡ true) e h) f

-- nor one of these two
not-two : (holds : ℕ → Bool) (m n c : ℕ) → holds m ≡ false → holds n ≡ false → holds c ≡ true
    → (m == c || n == c) ≡ true → ⊥
not-two holds m n c f g h e = elim (or-cases (m == c) (n == c) e) [
  | inl k ↦ not-one holds m c f h (sym (same m c k))
  | inr k ↦ not-one holds n c g h (sym (same n c k))
]

not-either : (holds : ℕ → Bool) (m n c : ℕ) → holds m ≡ false → holds n ≡ false → holds c ≡ true
    → (c == m || c == n) ≡ true → ⊥
not-either holds m n c f g h e = elim (or-cases (c == m) (c == n) e) [
  | inl k ↦ not-one holds m c f h (same c m k)
  | inr k ↦ not-one holds n c g h (same c n k)
]

no-digit-blank : (c : ℕ) → is_ascii_digit c ≡ true → is_ascii_multispace c ≡ true → ⊥
no-digit-blank c d b = elim (or-cases (c == 32 || c == 9) (c == 13 || c == 10) b) [
  | inl e ↦ not-either is_ascii_digit 32 9 c refl refl d e
  | inr e ↦ not-either is_ascii_digit 13 10 c refl refl d e
]

pub no-factor-product : (c : ℕ) → on_factor c ≡ true → is_product_sign c ≡ true → ⊥
no-factor-product c f s = not-two on_factor 42 47 c refl refl f s

pub no-term-sum : (c : ℕ) → on_term c ≡ true → is_sum_sign c ≡ true → ⊥
no-term-sum c f s = not-two on_term 43 45 c refl refl f s

no-expression-close : (c : ℕ) → on_expression c ≡ true → (41 == c) ≡ true → ⊥
no-expression-close c f s = not-one on_expression 41 c refl f (sym (same 41 c s))

pub is-open : (c : ℕ) → (40 == c) ≡ true → c ≡ 40
is-open c h = sym (same 40 c h)

is-close : (c : ℕ) → (41 == c) ≡ true → c ≡ 41
is-close c h = sym (same 41 c h)

-- ---- In parentheses

-- an expression and what closes it
abbrev Closed : Spelling (Option ℤ) ℕ
Closed x p = (u : List ℕ) × ((p ≡ u ++ 41 ∷ []) × Writes Expression x u)

-- an expression in parentheses
abbrev InParens : Spelling (Option ℤ) ℕ
InParens x p = (u : List ℕ) × ((p ≡ 40 ∷ (u ++ 41 ∷ [])) × Writes Expression x u)

closed : (z : Option ℤ × ℕ) (y : Option ℤ) (p : List ℕ) → First z y
    → Then (Writes Expression) (OneToken (λ c. 41 == c)) z p → Closed y p
closed z y p e (u, (v, (split, w, one))) = (
  u,
  (
    split ∙ ap (λ t. u ++ t) (one.0 ∙ ap (λ c. c ∷ []) (is-close z.1 one.1)),
    subst (λ x. Writes Expression x u) e w,
  ),
)

closed-back : (y : Option ℤ) (p : List ℕ) → Closed y p
    → (z : Option ℤ × ℕ) × Then (Writes Expression) (OneToken (λ c. 41 == c)) z p
closed-back y p (u, (split, w)) = ((y, 41), (u, (41 ∷ [], (split, w, (refl, refl)))))

in-parens : (z : ℕ × Option ℤ) (y : Option ℤ) (p : List ℕ) → Second z y
    → Then (OneToken (λ c. 40 == c)) Closed z p → InParens y p
in-parens z y p e (u, (v, (split, one, (w, (more, is))))) = (
  w,
  (
    split ∙ ap (λ t. u ++ t) more ∙ ap (λ t. t ++ (w ++ 41 ∷ [])) (one.0 ∙ ap (λ c. c ∷ []) (is-open z.0 one.1)),
    subst (λ x. Writes Expression x w) e is,
  ),
)

in-parens-back : (y : Option ℤ) (p : List ℕ) → InParens y p
    → (z : ℕ × Option ℤ) × Then (OneToken (λ c. 40 == c)) Closed z p
in-parens-back y p (u, (split, w)) = ((40, y), (40 ∷ [], (u ++ 41 ∷ [], (split, (refl, refl), (u, (refl, w))))))

-- ---- Factors

core-view : (x : Option ℤ) (p : List ℕ) → Writes Core x p → WritesNumber x p ⊎ InParens x p
core-view v p (number w) = inl w
core-view v p (parens {x} {a} w) = inr (a, (refl, w))

core-made : (x : Option ℤ) (p : List ℕ) → WritesNumber x p ⊎ InParens x p → Writes Core x p
core-made x p (inl w) = number w
core-made x p (inr (a, (is, w))) = subst (λ t. Writes Core x t) (sym is) (parens w)

-- a number does not begin with a parenthesis
digit-or-open : (x y : Option ℤ) (p q u v : List ℕ) → WritesNumber x p → InParens y q
    → p ++ u ≡ q ++ v → ⊥
digit-or-open x y [] q u v n w e = omega (arith, n.1)
digit-or-open x y (d ∷ ds) q u v n (a, (is, w)) e =
    let at : d ≡ 40 = heads d 40 (ds ++ u) ((a ++ 41 ∷ []) ++ v) (e ∙ ap (λ t. t ++ v) is) in
    not-both (is_ascii_digit d) n.0.0 (ap is_ascii_digit at)

-- a core does not begin with a blank, and is not empty
core-not-blank : (c : ℕ) (y : Option ℤ) (cs : List ℕ) → is_ascii_multispace c ≡ true
    → WritesNumber y (c ∷ cs) ⊎ InParens y (c ∷ cs) → ⊥
core-not-blank c y cs b (inl n) = no-digit-blank c n.0.0 b
core-not-blank c y cs b (inr (a, (is, w))) =
    not-both (is_ascii_multispace c) b (ap is_ascii_multispace (heads c 40 cs (a ++ 41 ∷ []) is))

core-not-empty : (y : Option ℤ) → WritesNumber y [] ⊎ InParens y [] → ⊥
core-not-empty y (inl n) = omega (arith, n.1)
core-not-empty y (inr (a, (is, w))) = not-empty 40 (a ++ 41 ∷ []) is

-- a core with blanks after it
abbrev Ended : Spelling (Option ℤ) ℕ
Ended x p = (u : List ℕ) × ((v : List ℕ) × ((p ≡ u ++ v) × Writes Core x u × AreHeld is_ascii_multispace v))

ended : (z : Option ℤ × Bor (List ℕ)) (y : Option ℤ) (p : List ℕ) → First z y
    → Then (Writes Core) Spaces z p → Ended y p
ended z y p e (u, (v, (split, w, s))) = (u, (v, (split, subst (λ x. Writes Core x u) e w, s)))

no_slice : Bor (List ℕ)
no_slice = record { ref_ptr = (0, 0); now = [] }

ended-back : (y : Option ℤ) (p : List ℕ) → Ended y p
    → (z : Option ℤ × Bor (List ℕ)) × Then (Writes Core) Spaces z p
ended-back y p (u, (v, (split, w, s))) = ((y, no_slice), (u, (v, (split, w, s))))

ended-not-blank : (c : ℕ) (y : Option ℤ) (cs : List ℕ) → is_ascii_multispace c ≡ true
    → Ended y (c ∷ cs) → ⊥
ended-not-blank c y cs b ([], (v, (split, w, s))) = core-not-empty y (core-view y [] w)
ended-not-blank c y cs b (d ∷ ds, (v, (split, w, s))) =
    core-not-blank d y ds (subst (λ k. is_ascii_multispace k ≡ true) (heads c d cs (ds ++ v) split) b) (core-view y (d ∷ ds) w)

ended-not-empty : (y : Option ℤ) → Ended y [] → ⊥
ended-not-empty y ([], (v, (split, w, s))) = core-not-empty y (core-view y [] w)
ended-not-empty y (d ∷ ds, (v, (split, w, s))) = not-empty d (ds ++ v) split

factor-made : (z : Bor (List ℕ) × Option ℤ) (y : Option ℤ) (p : List ℕ) → Second z y
    → Then Spaces Ended z p → Writes Factor y p
factor-made z y p e (u, (v, (split, s, (k, (t, (more, w, after)))))) =
    subst (λ t. Writes Factor y t) (sym (split ∙ ap (λ t. u ++ t) more)) (subst (λ x. Writes Factor x (u ++ (k ++ t))) e (spaced u t s w after))

factor-back : (y : Option ℤ) (p : List ℕ) → Writes Factor y p
    → (z : Bor (List ℕ) × Option ℤ) × Then Spaces Ended z p
factor-back y p (spaced {x} {a} before after s w t) = ((no_slice, y), (before, (a ++ after, (refl, s, (a, (after, (refl, w, t)))))))

-- ---- Terms and expressions

abbrev ProductLinks : ℕ → List ℕ → Type 0
ProductLinks = Links (Writes Factor) is_product_sign

abbrev SumLinks : ℕ → List ℕ → Type 0
SumLinks = Links (Writes Term) is_sum_sign

product-more : (x z : Option ℤ) (y : ℕ × Option ℤ) (p q : List ℕ) → Writes Term x p
    → Link (Writes Factor) is_product_sign y q → OfBoth (Multiplies y.0) x y.1 z → Writes Term z (p ++ q)
product-more x z y p q w (u, (v, (split, one, k))) step =
    subst (λ t. Writes Term z (p ++ t)) (sym (split ∙ ap (λ t. t ++ v) one.0)) (product y.0 w one.1 k step)

product-view : (x : Option ℤ) (p : List ℕ) → Writes Term x p
    → (u : List ℕ) × ((t : List ℕ) × ((y : Option ℤ) × ((n : ℕ) × ((p ≡ u ++ t) × Writes Factor y u × ProductLinks n t))))
product-view x p (factor w) = (p, ([], (x, (0, (sym (append-nil p), w, refl)))))
product-view r p (product {x} {y} {value} {a} {b} sign w s k step) =
    let v = product-view x a w in
    let is = v.1.1.1.1 in (
      v.0,
      (
        v.1.0 ++ sign ∷ b,
        (
          v.1.1.0,
          (
            suc v.1.1.1.0,
            (
              ap (λ t. t ++ sign ∷ b) is.0 ∙ append_assoc v.0 v.1.0 (sign ∷ b),
              is.1,
              Links-more (Writes Factor) is_product_sign v.1.1.1.0 v.1.0 (sign ∷ b) (sign, y) is.2 (sign ∷ [], (b, (refl, (refl, s), k))),
            ),
          ),
        ),
      ),
    )

sum-more : (x z : Option ℤ) (y : ℕ × Option ℤ) (p q : List ℕ) → Writes Expression x p
    → Link (Writes Term) is_sum_sign y q → OfBoth (Adds y.0) x y.1 z → Writes Expression z (p ++ q)
sum-more x z y p q w (u, (v, (split, one, k))) step =
    subst (λ t. Writes Expression z (p ++ t)) (sym (split ∙ ap (λ t. t ++ v) one.0)) (sum y.0 w one.1 k step)

sum-view : (x : Option ℤ) (p : List ℕ) → Writes Expression x p
    → (u : List ℕ) × ((t : List ℕ) × ((y : Option ℤ) × ((n : ℕ) × ((p ≡ u ++ t) × Writes Term y u × SumLinks n t))))
sum-view x p (term w) = (p, ([], (x, (0, (sym (append-nil p), w, refl)))))
sum-view r p (sum {x} {y} {value} {a} {b} sign w s k step) =
    let v = sum-view x a w in
    let is = v.1.1.1.1 in (
      v.0,
      (
        v.1.0 ++ sign ∷ b,
        (
          v.1.1.0,
          (
            suc v.1.1.1.0,
            (
              ap (λ t. t ++ sign ∷ b) is.0 ∙ append_assoc v.0 v.1.0 (sign ∷ b),
              is.1,
              Links-more (Writes Term) is_sum_sign v.1.1.1.0 v.1.0 (sign ∷ b) (sign, y) is.2 (sign ∷ [], (b, (refl, (refl, s), k))),
            ),
          ),
        ),
      ),
    )

-- ---- The parsers

module _ (inner : Meaning (Option ℤ) ℕ) (r : IsExact (Writes Expression) on_expression inner) where
  reads-closed : IsExact Closed nothing (IsTerminated inner (IsOneOf (λ c. 41 == c)))
  reads-closed =
      IsExact-Maps (IsExact-Pair nothing r (IsExact-IsOneOf (λ c. 41 == c)) (λ y k c f. absurd (not-empty y [] k.0)) (λ c g. g)
      (λ c y cs f k. no-expression-close c f (subst (λ d. (41 == d) ≡ true) (sym (heads c y cs [] k.0)) k.1)))
      Closed First closed closed-back

  reads-parens : IsExact InParens nothing (Parens inner)
  reads-parens =
      IsExact-Maps (IsExact-Pair nothing (IsExact-IsOneOf (λ c. 40 == c)) reads-closed (λ y k c f. f) (λ c g. g) (λ c y cs f k. not-both false f refl))
      InParens Second in-parens in-parens-back

  reads-core : IsExact (Writes Core) is_ascii_digit (Cores inner)
  reads-core =
      IsExact-as (Writes Core) is_ascii_digit (IsExact-Appending ⊥ (IsExact-IsAlt2 ⊥ reads-number reads-parens digit-or-open)) core-made core-view
      (λ c h. or-false (is_ascii_digit c) h)
    where
      or-false : (b : Bool) → (b || false) ≡ true → b ≡ true
      or-false true h = refl
      or-false false h = h

  reads-ended : IsExact Ended on_factor (IsTerminated (Cores inner) (Blanks IsTextSlice))
  reads-ended =
      IsExact-Maps (IsExact-Pair on_factor reads-core reads-spaces (λ y k c f. or-left (is_ascii_digit c) (is_ascii_multispace c) f) (λ c g. or-right (is_ascii_digit c) (is_ascii_multispace c) g)
      (λ c y cs f k. no-digit-blank c f k.0))
      Ended First ended ended-back

  reads-factor : IsExact (Writes Factor) on_factor (Factors IsTextSlice inner)
  reads-factor =
      IsExact-Maps (IsExact-Pair on_factor reads-spaces reads-ended (λ y k c f. absurd (ended-not-empty y k)) (λ c g. g) (λ c y cs f k. ended-not-blank c y cs f k))
      (Writes Factor) Second factor-made factor-back

  reads-term : IsExact (Writes Term) on_term (Terms IsTextSlice inner)
  reads-term =
      IsExact-IsSeparatedFoldl1 (Writes Factor) on_factor is_product_sign (Factors IsTextSlice inner) reads-factor no-factor-product
      (Writes Term) (λ left pair new. OfBoth (Multiplies pair.0) left pair.1 new) (λ x p w. factor w) product-more product-view

  reads-layer : IsExact (Writes Expression) on_expression (IsLayer IsTextSlice inner)
  reads-layer =
      IsExact-IsSeparatedFoldl1 (Writes Term) on_term is_sum_sign (Terms IsTextSlice inner) reads-term no-term-sum
      (Writes Expression) (λ left pair new. OfBoth (Adds pair.0) left pair.1 new) (λ x p w. term w) sum-more sum-view

-- the parser of expressions takes the longest expression, and misses none
pub reads-nested : (depth : ℕ)
    → IsExact (Writes Expression) on_expression (IsNested (IsLayer IsTextSlice) depth)
reads-nested depth = IsExact-IsNested (IsLayer IsTextSlice) (Writes Expression) on_expression reads-layer depth
