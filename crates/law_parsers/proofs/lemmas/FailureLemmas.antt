-- Which errors the failures of some parsers carry, from those of their parts.
use Rattle.std.specs.Prelude.{Bool, true, false, [], ◌∷◌, IfSome}
use Rattle.std.proofs.Common.{◌≡◌, refl, inl, inr, true≢false}
use Rattle.winnow_stream.specs.Source.{Source, first_token}
use Rattle.winnow_stream.specs.declared.needed.Needed.{Needed}
use Rattle.winnow_error.specs.declared.failure.Failure.{Failure}
use Rattle.winnow_error.specs.declared.failure.Failure.TheVariants.{Incomplete, Backtrack, Cut, Refused}
use Rattle.winnow_parser.specs.Outcome.{Ahead, Meaning}
use Rattle.winnow_parser.specs.Meanings.{BacktracksErr}
use Rattle.winnow_parser.specs.Errors.{OwnErrors, PairErrors, AltErrors2, CutErrors, BacktrackErrors, ContextErrors, FailsLeaving}
use Rattle.winnow_token.specs.OneOf.{IsOneOf}
use Rattle.winnow_combinator.specs.Appended.{AppendedErrors}
use Rattle.law_parsers.specs.Failures.{IsMade, IsNamed, IsLabelled, IsJoined, IsOwn, IsAtEnd}

module _ {E S T : Type 0} (found asserted : S → E → Type 0) where
  -- a parser with errors of its own, under a context
  pub named : {C : Type 0} (tells : E → S → C → E → Type 0) (stood : C → Ahead T)
      (partial : Bool) (a : Ahead T) (s : S) (f : Failure E Needed)
      → ContextErrors stood tells (OwnErrors found asserted) partial a s f
      → IsNamed found asserted tells stood a s f
  named tells stood partial a s (Backtrack e) h = h
  named tells stood partial a s (Cut e) h = h
  named tells stood partial a s (Incomplete n) h = tt
  named tells stood partial a s (Refused r) h = tt

  -- such a parser that cuts, under a context
  pub labelled : {C : Type 0} (tells : E → S → C → E → Type 0) (stood : C → Ahead T)
      (partial : Bool) (a : Ahead T) (s : S) (f : Failure E Needed)
      → ContextErrors stood tells (CutErrors (OwnErrors found asserted)) partial a s f
      → IsLabelled (IsMade found asserted) tells stood a s f
  labelled tells stood partial a s (Backtrack e) h = absurd h.1.1.0
  labelled tells stood partial a s (Cut e) h = h
  labelled tells stood partial a s (Incomplete n) h = tt
  labelled tells stood partial a s (Refused r) h = tt

  -- a token is tried for twice, and neither alternative cuts
  pub joined : {C : Type 0} (joins : E → E → E → Type 0) (appends : E → S → C → E → Type 0)
      (stood : C → Ahead T) (stands : S → Ahead T) (partial : Bool) (a : Ahead T) (s : S)
      (f : Failure E Needed)
      → AppendedErrors stood appends (AltErrors2 stands joins (BacktracksErr (IsOneOf (λ _. true))) (BacktrackErrors (OwnErrors found asserted)) (BacktrackErrors (OwnErrors found asserted))) partial a s f
      → IsJoined (IsMade found asserted) joins appends stood stands a s f
  joined joins appends stood stands partial a s (Backtrack e) (whole, (start, ((left, (right, ((r, (h, inl m)), k, both))), at, adds))) =
      (left, (right, (whole, (r, (start, (h, m.2, k, both, at, adds))))))
  joined joins appends stood stands partial a s (Backtrack e) (whole, (start, ((left, (right, ((r, (h, inr m)), k, both))), at, adds))) = absurd m
  joined joins appends stood stands partial a s (Cut e) (inl h) = absurd h
  joined joins appends stood stands partial a s (Cut e) (inr (left, (h, k))) = absurd k
  joined joins appends stood stands partial a s (Incomplete n) h = tt
  joined joins appends stood stands partial a s (Refused r) h = tt

  -- two parsers with errors of their own, one after the other, neither of which cuts
  pub own : {O : Type 0} (means : Meaning O T) (partial : Bool) (a : Ahead T) (s : S)
      (f : Failure E Needed)
      → BacktrackErrors (PairErrors means (OwnErrors found asserted) (OwnErrors found asserted)) partial a s f
      → IsOwn (IsMade found asserted) s f
  own means partial a s (Backtrack e) (inl (inl h)) = inl h
  own means partial a s (Backtrack e) (inl (inr h)) = inl h.1.1.1
  own means partial a s (Backtrack e) (inr (inl h)) = inr h
  own means partial a s (Backtrack e) (inr (inr h)) = inr h.1.1.1
  own means partial a s (Cut e) h = absurd h
  own means partial a s (Incomplete n) h = tt
  own means partial a s (Refused r) h = tt

-- where a token is not one of all tokens, there is none
no-token : {T : Type 0} (tokens : Source T) → IfSome (first_token tokens) (λ x. true ≡ false)
    → tokens ≡ []
no-token [] h = refl
no-token (x ∷ xs) h = absurd (true≢false h)

-- the parser of any token fails at the end alone
pub at-end : {E S T : Type 0} (found asserted : S → E → Type 0) (stands : S → Ahead T)
    (partial : Bool) (a : Ahead T) (f : Failure E Needed)
    → FailsLeaving stands (IsOneOf (λ _. true)) (OwnErrors found asserted) partial a f
    → IsAtEnd found stands a f
at-end found asserted stands partial a (Backtrack e) h = (no-token a.tokens h.1.1.0, (h.0, (h.1.0, h.1.1.2)))
at-end found asserted stands partial a (Cut e) h = absurd h.1.1
at-end found asserted stands partial a (Incomplete n) h = h.1.1.0
at-end found asserted stands partial a (Refused r) h = absurd h.1.1
