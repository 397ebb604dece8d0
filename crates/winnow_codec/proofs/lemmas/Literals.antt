-- Known bytes that are read one after the other.
use Rattle.std.proofs.Common.{◌≡◌, ℕ, ◌<◌, Bool, false, List, [], ◌∷◌, ◌++◌, ap, sym, ◌∙◌, refl, append_assoc}
use Rattle.std.proofs.lemmas.List.{append_cancel_left}
use Rattle.winnow_parser.specs.Outcome.{Ahead, Failed, Backtracks, Cuts, Needs, Refuses, Fails}
use Rattle.winnow_codec.specs.Byte.{SpellsByte}
use Rattle.winnow_codec.specs.Formats.{bytes_of, Takes, SpellsNone, Reads}
use Rattle.winnow_codec.specs.Known.{SpellsExactly}
use Rattle.winnow_codec.specs.Literals.{SpellsLiteral}
use Rattle.winnow_codec.proofs.lemmas.Reading.{takes-front, moves-both}

module _ (literal x y : List ℕ) (c : ℕ) (small : c < 256) (split : literal ≡ x ++ c ∷ y) (a b : Ahead ℕ) (taken : Takes x a b) where
  -- if the next byte of a literal does not follow the ones before it, the literal is not there
  literal-none : (partial : Bool)
      → SpellsNone (SpellsExactly SpellsByte c) partial (bytes_of b.tokens)
      → SpellsNone (SpellsLiteral literal) partial (bytes_of a.tokens)
  literal-none partial h v bytes more rest follows s whole =
      let one : x ++ (bytes_of b.tokens ++ more) ≡ x ++ (c ∷ (y ++ rest)) =
      sym (append_assoc x (bytes_of b.tokens) more) ∙ ap (λ l. l ++ more) (sym (takes-front taken)) ∙ whole ∙ ap (λ l. l ++ rest) (s ∙ split) ∙ append_assoc x (c ∷ y) rest in
      h tt (c ∷ []) more (y ++ rest) follows (small, refl) (append_cancel_left x (bytes_of b.tokens ++ more) (c ∷ (y ++ rest)) one)

  -- the next byte of a literal is not read, so the literal is not
  pub literal-unread : (partial : Bool) (f : Failed ℕ)
      → Reads (SpellsExactly SpellsByte c) partial b (Fails f)
      → Reads (SpellsLiteral literal) partial a (Fails f)
  literal-unread partial (Backtracks e) h = (moves-both taken.moves h.0, literal-none partial h.1)
  literal-unread partial (Cuts e) h = absurd h
  literal-unread partial (Needs n) h = (h.0, literal-none false h.1)
  literal-unread partial Refuses h = tt
