-- A parser that reads inside what another gives: its failures, one by one.
use Rattle.std.specs.Prelude.{◌≡◌, false, Bool}
use Rattle.std.proofs.Common.{inl, inr}
use Rattle.winnow_stream.specs.declared.needed.Needed.{Needed}
use Rattle.winnow_error.specs.declared.failure.Failure.{Failure}
use Rattle.winnow_error.specs.declared.failure.Failure.TheVariants.{Incomplete, Backtrack, Cut, Refused}
use Rattle.winnow_parser.specs.Outcome.{Ahead, Gives, Fails, Meaning}
use Rattle.winnow_parser.specs.Answer.{failed}
use Rattle.winnow_parser.specs.Laws.{IsFinal}
use Rattle.winnow_parser.specs.Alone.{Inside}

module _ {O S T U : Type 0} (stands : S → Ahead U) (inner : Meaning O U) (outer : Meaning S T) where
  -- a failure of the outer parser is one of `Inside`
  pub inside-outer : {E : Type 0} (partial : Bool) (a b : Ahead T) (failure : Failure E Needed)
      → outer partial a (Fails (failed failure b))
      → Inside stands inner outer partial a (Fails (failed failure b))
  inside-outer partial a b (Backtrack e) h = inl h
  inside-outer partial a b (Cut e) h = inl h
  inside-outer partial a b (Incomplete n) h = h
  inside-outer partial a b (Refused r) h = inl h

  -- a failure of the inner parser is one of `Inside`, with the stream where the outer one began
  pub inside-inner : {E : Type 0} → IsFinal inner
      → (partial : Bool) (a b c : Ahead T) (s : S) (d : Ahead U) (failure : Failure E Needed)
      → a ≡ b → outer partial a (Gives s c) → inner false (stands s) (Fails (failed failure d))
      → Inside stands inner outer partial a (Fails (failed failure b))
  inside-inner final partial a b c s d (Backtrack e) i h k = inr (i, (s, (c, (h, (d, k)))))
  inside-inner final partial a b c s d (Cut e) i h k = inr (i, (s, (c, (h, (d, k)))))
  inside-inner final partial a b c s d (Incomplete n) i h k = absurd (final (stands s) n k)
  inside-inner final partial a b c s d (Refused r) i h k = inr (s, (c, (h, k)))
