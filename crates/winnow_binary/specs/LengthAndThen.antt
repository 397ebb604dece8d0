-- A parser that reads a part of the input alone, which another parser took.
use Rattle.std.specs.Prelude.{false, Result, ◌⊎◌}
use Rattle.std.proofs.Common.{inl, inr}
use Rattle.winnow_stream.specs.declared.needed.Needed.{Needed}
use Rattle.winnow_error.specs.declared.failure.Failure.{Failure}
use Rattle.winnow_parser.specs.Outcome.{Ahead, Backtracks, Cuts, Needs, Refuses, Gives, Fails, Meaning}
use Rattle.winnow_parser.specs.Answer.{outcome}
use Rattle.winnow_parser.specs.Errors.{Errors, FailsLeaving}
use Rattle.winnow_parser.specs.Laws.{IsStable, IsOnward, IsParser}

-- the inner parser, asked of what stands in the part, after which nothing follows, gives this
-- value
abbrev pub GivesAlone : {O U : Type 0} → Meaning O U → Ahead U → O → Type 0
GivesAlone {O} {U} inner s x = (c : Ahead U) × inner false s (Gives x c)

-- the inner parser, asked of what stands in the part, after which nothing follows, backtracks
abbrev pub BacktracksAlone : {O U : Type 0} → Meaning O U → Ahead U → Type 0
BacktracksAlone {O} {U} inner s = (c : Ahead U) × inner false s (Fails (Backtracks c))

-- the inner parser, asked of what stands in the part, after which nothing follows, cuts
abbrev pub CutsAlone : {O U : Type 0} → Meaning O U → Ahead U → Type 0
CutsAlone {O} {U} inner s = (c : Ahead U) × inner false s (Fails (Cuts c))

-- the inner parser on the part that the outer one gives, after which nothing follows; the stream
-- stands after that part
abbrev pub IsLengthAndThen : {O S T U : Type 0} → (S → Ahead U) → Meaning O U → Meaning S T
    → Meaning O T
IsLengthAndThen {S = S} stands inner outer partial a (Gives x b) = (s : S) × (outer partial a (Gives s b) × GivesAlone inner (stands s) x)
IsLengthAndThen {S = S} stands inner outer partial a (Fails (Backtracks b)) = outer partial a (Fails (Backtracks b))
    ⊎ ((s : S) × (outer partial a (Gives s b) × BacktracksAlone inner (stands s)))
IsLengthAndThen {S = S} stands inner outer partial a (Fails (Cuts b)) = outer partial a (Fails (Cuts b))
    ⊎ ((s : S) × (outer partial a (Gives s b) × CutsAlone inner (stands s)))
IsLengthAndThen stands inner outer partial a (Fails (Needs n)) = outer partial a (Fails (Needs n))
IsLengthAndThen {S = S} {T = T} stands inner outer partial a (Fails Refuses) = outer partial a (Fails Refuses)
    ⊎ ((s : S) × ((b : Ahead T) × (outer partial a (Gives s b) × inner false (stands s) (Fails Refuses))))

-- the errors of the outer parser, or those of the inner one on a stream that the outer one gives:
-- each is of that stream as the inner parser leaves it
abbrev pub LengthAndThenErrors : {O E S T : Type 0} → (S → Ahead T) → Meaning O T → Errors E S T
    → Meaning S T → Errors E S T → Errors E S T
LengthAndThenErrors {S = S} {T = T} stands inner inner_errors outer outer_errors partial a i failure = outer_errors partial a i failure
    ⊎ ((s : S) × ((b : Ahead T) × (outer partial a (Gives s b)
    × FailsLeaving stands inner inner_errors false (stands s) failure)))

-- the answer is one that the inner parser may give of what stands in the part alone
abbrev pub AnswersAlone : {O E U : Type 0} → Meaning O U → Ahead U → Result O (Failure E Needed)
    → Type 0
AnswersAlone {U = U} inner s answer = (c : Ahead U) × inner false s (outcome answer c)

-- ---- The laws

module _ {O S T U : Type 0} (stands : S → Ahead U) (inner : Meaning O U) (outer : Meaning S T) (p : IsParser outer) where
  -- a settled answer of `IsLengthAndThen` stays when more input follows
  within-stable : IsStable (IsLengthAndThen stands inner outer)
  within-stable more partial a (Gives x b) settled h = (h.0, (p.stable more partial a (Gives h.0 b) tt h.1.0, h.1.1))
  within-stable more partial a (Fails (Backtracks b)) settled (inl h) = inl (p.stable more partial a (Fails (Backtracks b)) tt h)
  within-stable more partial a (Fails (Backtracks b)) settled (inr h) = inr (h.0, (p.stable more partial a (Gives h.0 b) tt h.1.0, h.1.1))
  within-stable more partial a (Fails (Cuts b)) settled (inl h) = inl (p.stable more partial a (Fails (Cuts b)) tt h)
  within-stable more partial a (Fails (Cuts b)) settled (inr h) = inr (h.0, (p.stable more partial a (Gives h.0 b) tt h.1.0, h.1.1))
  within-stable more partial a (Fails (Needs n)) settled h = absurd settled
  within-stable more partial a (Fails Refuses) settled h = absurd settled

  -- `IsLengthAndThen` only moves the stream on
  within-onward : IsOnward (IsLengthAndThen stands inner outer)
  within-onward partial a (Gives x b) h = p.onward partial a (Gives h.0 b) h.1.0
  within-onward partial a (Fails (Backtracks b)) (inl h) = p.onward partial a (Fails (Backtracks b)) h
  within-onward partial a (Fails (Backtracks b)) (inr h) = p.onward partial a (Gives h.0 b) h.1.0
  within-onward partial a (Fails (Cuts b)) (inl h) = p.onward partial a (Fails (Cuts b)) h
  within-onward partial a (Fails (Cuts b)) (inr h) = p.onward partial a (Gives h.0 b) h.1.0
  within-onward partial a (Fails (Needs n)) h = tt
  within-onward partial a (Fails Refuses) h = tt

  -- `IsLengthAndThen` keeps the laws of a parser
  pub IsParser-IsLengthAndThen : IsParser (IsLengthAndThen stands inner outer)
  IsParser-IsLengthAndThen = record { stable = within-stable; final = p.final; onward = within-onward }
