-- A parser that is asked of a part of the input alone, which another parser gives.
use Rattle.std.specs.Prelude.{◌≡◌, false, Result, ◌⊎◌}
use Rattle.std.proofs.Common.{ap, inl, inr}
use Rattle.winnow_stream.specs.declared.needed.Needed.{Needed}
use Rattle.winnow_error.specs.declared.failure.Failure.{Failure}
use Rattle.winnow_parser.specs.Outcome.{Ahead, Backtracks, Cuts, Needs, Refuses, Gives, Fails, Meaning}
use Rattle.winnow_parser.specs.Answer.{outcome}
use Rattle.winnow_parser.specs.Errors.{Errors, FailsLeaving}
use Rattle.winnow_parser.specs.Laws.{longer, IsStable, IsOnward, IsParser}
use Rattle.winnow_parser.specs.Parts.{Moves-still}

-- the inner parser, asked of what stands in the part, after which nothing follows, gives this
-- value
abbrev pub GivesAlone : {O U : Type 0} → Meaning O U → Ahead U → O → Type 0
GivesAlone {O} {U} inner s x = (c : Ahead U) × inner false s (Gives x c)

-- the inner parser, asked of what stands in the part, after which nothing follows, backtracks
abbrev pub BacktracksAlone : {O U : Type 0} → Meaning O U → Ahead U → Type 0
BacktracksAlone {O} {U} inner s = (c : Ahead U) × inner false s (Fails (Backtracks c))

-- the inner parser, asked of what stands in the part, after which nothing follows, cuts
abbrev pub CutsAlone : {O U : Type 0} → Meaning O U → Ahead U → Type 0
CutsAlone {O} {U} inner s = (c : Ahead U) × inner false s (Fails (Cuts c))

-- the answer is one that the inner parser may give of what stands in the part alone
abbrev pub AnswersAlone : {O E U : Type 0} → Meaning O U → Ahead U → Result O (Failure E Needed)
    → Type 0
AnswersAlone {U = U} inner s answer = (c : Ahead U) × inner false s (outcome answer c)

-- the errors of the outer parser, or those of the inner one on a stream that the outer one gives:
-- each is of that stream as the inner parser leaves it
abbrev pub WithinErrors : {O E S I T U : Type 0} → (S → Ahead U) → Meaning O U → Errors E S U
    → Meaning S T → Errors E I T → Errors E I T
WithinErrors {S = S} {T = T} stands inner inner_errors outer outer_errors partial a i failure = outer_errors partial a i failure
    ⊎ ((s : S) × ((b : Ahead T) × (outer partial a (Gives s b)
    × FailsLeaving stands inner inner_errors false (stands s) failure)))

-- the inner parser on the part that the outer one gives, after which nothing follows; the stream
-- stands after that part, or, where the inner parser fails, where the outer one began
abbrev pub Inside : {O S T U : Type 0} → (S → Ahead U) → Meaning O U → Meaning S T → Meaning O T
Inside {S = S} stands inner outer partial a (Gives x b) = (s : S) × (outer partial a (Gives s b) × GivesAlone inner (stands s) x)
Inside {S = S} {T = T} stands inner outer partial a (Fails (Backtracks b)) = outer partial a (Fails (Backtracks b))
    ⊎ ((a ≡ b) × ((s : S) × ((c : Ahead T) × (outer partial a (Gives s c) × BacktracksAlone inner (stands s)))))
Inside {S = S} {T = T} stands inner outer partial a (Fails (Cuts b)) = outer partial a (Fails (Cuts b))
    ⊎ ((a ≡ b) × ((s : S) × ((c : Ahead T) × (outer partial a (Gives s c) × CutsAlone inner (stands s)))))
Inside stands inner outer partial a (Fails (Needs n)) = outer partial a (Fails (Needs n))
Inside {S = S} {T = T} stands inner outer partial a (Fails Refuses) = outer partial a (Fails Refuses)
    ⊎ ((s : S) × ((c : Ahead T) × (outer partial a (Gives s c) × inner false (stands s) (Fails Refuses))))

-- ---- The laws

module _ {O S T U : Type 0} (stands : S → Ahead U) (inner : Meaning O U) (outer : Meaning S T) (p : IsParser outer) where
  -- a settled answer of `Inside` stays when more input follows
  inside-stable : IsStable (Inside stands inner outer)
  inside-stable more partial a (Gives x b) settled h = (h.0, (p.stable more partial a (Gives h.0 b) tt h.1.0, h.1.1))
  inside-stable more partial a (Fails (Backtracks b)) settled (inl h) = inl (p.stable more partial a (Fails (Backtracks b)) tt h)
  inside-stable more partial a (Fails (Backtracks b)) settled (inr h) =
      let k = h.1 in inr (ap (longer more) h.0, (k.0, (longer more k.1.0, (p.stable more partial a (Gives k.0 k.1.0) tt k.1.1.0, k.1.1.1))))
  inside-stable more partial a (Fails (Cuts b)) settled (inl h) = inl (p.stable more partial a (Fails (Cuts b)) tt h)
  inside-stable more partial a (Fails (Cuts b)) settled (inr h) =
      let k = h.1 in inr (ap (longer more) h.0, (k.0, (longer more k.1.0, (p.stable more partial a (Gives k.0 k.1.0) tt k.1.1.0, k.1.1.1))))
  inside-stable more partial a (Fails (Needs n)) settled h = absurd settled
  inside-stable more partial a (Fails Refuses) settled h = absurd settled

  -- `Inside` only moves the stream on
  inside-onward : IsOnward (Inside stands inner outer)
  inside-onward partial a (Gives x b) h = p.onward partial a (Gives h.0 b) h.1.0
  inside-onward partial a (Fails (Backtracks b)) (inl h) = p.onward partial a (Fails (Backtracks b)) h
  inside-onward partial a (Fails (Backtracks b)) (inr h) = Moves-still a b h.0
  inside-onward partial a (Fails (Cuts b)) (inl h) = p.onward partial a (Fails (Cuts b)) h
  inside-onward partial a (Fails (Cuts b)) (inr h) = Moves-still a b h.0
  inside-onward partial a (Fails (Needs n)) h = tt
  inside-onward partial a (Fails Refuses) h = tt

  -- `Inside` keeps the laws of a parser
  pub IsParser-Inside : IsParser (Inside stands inner outer)
  IsParser-Inside = record { stable = inside-stable; final = p.final; onward = inside-onward }
