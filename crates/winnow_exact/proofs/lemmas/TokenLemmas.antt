-- One token that passes a test.
use Rattle.std.proofs.Common.{◌≡◌, ℕ, Bool, true, false, List, [], ◌∷◌, ◌++◌, drop, Some, ap, sym, ◌∙◌, subst, refl}
use Rattle.std.specs.Prelude.{IfSome}
use Rattle.std.proofs.lemmas.Option.{none-some, same_Some}
use Rattle.winnow_stream.specs.Source.{Source, first_token, HasPositiveWidths}
use Rattle.winnow_parser.specs.Outcome.{Ahead, Backtracks, Gives, Fails}
use Rattle.winnow_token.specs.OneOf.{IsOneOf}
use Rattle.winnow_grammar.specs.Spelling.{tokens_of}
use Rattle.winnow_grammar.specs.Spellings.{OneToken}
use Rattle.winnow_exact.specs.Exact.{Lacks, Ends, Leaves, IsExact}
use Rattle.winnow_exact.specs.Languages.{nothing}
use Rattle.winnow_exact.proofs.lemmas.ListLemmas.{heads, tails, not-empty, not-both}

module _ {T : Type 0} (holds : T → Bool) where
  one-split : (r : Source T) (x : T) → HasPositiveWidths r → first_token r ≡ Some x
      → HasPositiveWidths (drop 1 r) × (tokens_of r ≡ x ∷ tokens_of (drop 1 r))
  one-split [] x w e = absurd (none-some _ e)
  one-split (y ∷ ys) x w e = (w.1, ap (λ n. n ∷ tokens_of ys) (same_Some _ _ e))

  one-gives : (a b : Ahead T) (x : T) → HasPositiveWidths a.tokens
      → IsOneOf holds false a (Gives x b)
      → HasPositiveWidths b.tokens
      × ((front : List T) × ((tokens_of a.tokens ≡ front ++ tokens_of b.tokens) × OneToken holds x front))
  one-gives a b x w h =
      let left : b.tokens ≡ drop 1 a.tokens = ap (λ p. p.tokens) h.2 in
      let s = one-split a.tokens x w h.0 in
      (subst HasPositiveWidths (sym left) s.0, (x ∷ [], (s.1 ∙ ap (λ r. x ∷ tokens_of r) (sym left), (refl, h.1))))

  one-ends : (a b : Ahead T) (x : T) → HasPositiveWidths a.tokens
      → IsOneOf holds false a (Gives x b)
      → Ends (OneToken holds) nothing (tokens_of a.tokens) (tokens_of b.tokens)
  one-ends a b x w h y p rest e l =
      let left : b.tokens ≡ drop 1 a.tokens = ap (λ p. p.tokens) h.2 in
      let s = one-split a.tokens x w h.0 in
      let whole : tokens_of a.tokens ≡ x ∷ tokens_of b.tokens = s.1 ∙ ap (λ r. x ∷ tokens_of r) (sym left) in
      ([], (tails y x rest (tokens_of b.tokens) (sym (ap (λ q. q ++ rest) l.0) ∙ sym e ∙ whole), tt))

  one-lacks : (r : Source T) → IfSome (first_token r) (λ x. holds x ≡ false)
      → Lacks (OneToken holds) (tokens_of r)
  one-lacks [] h y p rest e l = not-empty y rest (e ∙ ap (λ q. q ++ rest) l.0)
  one-lacks (z ∷ zs) h y p rest e l =
      let same : z.0 ≡ y = heads z.0 y (tokens_of zs) rest (e ∙ ap (λ q. q ++ rest) l.0) in
      not-both (holds y) l.1 (subst (λ c. holds c ≡ false) same h)

  one-none : (a b : Ahead T) → HasPositiveWidths a.tokens
      → IsOneOf holds false a (Fails (Backtracks b))
      → Lacks (OneToken holds) (tokens_of a.tokens)
  one-none a b w h = one-lacks a.tokens h.0

  -- one character
  pub IsExact-IsOneOf : IsExact (OneToken holds) nothing (IsOneOf holds)
  IsExact-IsOneOf = record { gives = one-gives; ends = one-ends; none = one-none }
