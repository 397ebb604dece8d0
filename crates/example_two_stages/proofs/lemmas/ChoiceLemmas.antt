-- What the parsers of an operand spell: a number, a name, or a formula in parentheses.
use Rattle.std.proofs.Common.{◌≡◌, ℕ, true, List, [], ◌∷◌, ◌++◌, Some, ap, sym, ◌∙◌, subst, inl, inr}
use Rattle.winnow_grammar.specs.Spelling.{Spelling, IsWithin}
use Rattle.winnow_grammar.specs.Spellings.{OneToken, After, Before, Or, MadeOf}
use Rattle.example_lexer.specs.declared.token.Kind.{Kind}
use Rattle.example_lexer.specs.declared.token.Kind.TheVariants as kind
use Rattle.example_lexer.specs.declared.token.Token.{Token}
use Rattle.example_two_stages.specs.Grammar.{WritesLeaf, WritesInParens, WritesOperand, leaf_of}
use Rattle.example_two_stages.specs.Signs.{is_sign}
use Rattle.example_two_stages.specs.declared.formula.Operand.{Operand}
use Rattle.example_two_stages.specs.declared.formula.Operand.TheVariants as operand
use Rattle.example_two_stages.specs.declared.tree.Tree.{Tree}
use Rattle.example_two_stages.proofs.lemmas.OperandLemmas.{sign-held}

module _ {T : Type 0} (the : T → Token) where
  -- what the combinators spell for a token alone
  abbrev pub LeavesBy : Spelling Operand T
  LeavesBy = MadeOf (λ t found. Some found ≡ leaf_of (the t).kind) (OneToken (λ t. true))

  -- it is that operand
  pub leaf-spelled : IsWithin LeavesBy (WritesLeaf the)
  leaf-spelled x ts (t, (made, (e, held))) = (t, (e, sym made))

module _ {T : Type 0} (the : T → Token) (source : List ℕ) (spells : Spelling Tree T) where
  -- what they spell for a formula in parentheses
  abbrev pub ParensBy : Spelling Tree T
  ParensBy = After (OneToken (λ t. is_sign source 40 (the t))) (Before spells (OneToken (λ t. is_sign source 41 (the t))))

  -- they are parentheses around a formula
  pub parens-within : IsWithin ParensBy (WritesInParens the source spells)
  parens-within x ts (c, (one, (other, (split, (is, held), (d, (mid, (last, (left, inside, (was, kept))))))))) =
      let rest : other ≡ mid ++ d ∷ [] = left ∙ ap (λ u. mid ++ u) was in
      let all : ts ≡ c ∷ (mid ++ d ∷ []) = split ∙ ap (λ u. u ++ other) is ∙ ap (λ r. c ∷ r) rest in
      (c, (d, (mid, (all, sign-held source 40 (the c) held, inside, sign-held source 41 (the d) kept))))

  -- what the choice of the two spells
  abbrev pub OperandsBy : Spelling Operand T
  OperandsBy = Or (WritesLeaf the) (MadeOf (λ tree found. found ≡ operand.Group tree) (WritesInParens the source spells))

  leaf-within : (x : Operand) (ts : List T) → WritesLeaf the x ts
      → WritesOperand the source spells x ts
  leaf-within operand.Number ts h = h
  leaf-within operand.Name ts h = h
  leaf-within (operand.Group inside) ts (t, (e, k)) = absurd (no-group (the t).kind k)
    where
      no-group : (k : Kind) → leaf_of k ≡ Some (operand.Group inside) → ⊥
      no-group kind.Number e = cc e
      no-group kind.Name e = cc e
      no-group kind.Punctuation e = cc e

  -- it is an operand
  pub operand-within : IsWithin OperandsBy (WritesOperand the source spells)
  operand-within x ts (inl h) = leaf-within x ts h
  operand-within x ts (inr (tree, (made, h))) = subst (λ o. WritesOperand the source spells o ts) (sym made) h
