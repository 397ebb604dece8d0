-- Parsers that take nothing: the end, nothing at all, and a failure.
use Rattle.std.specs.Prelude.{◌≡◌, ◌≢◌, ℕ, true, false, [], ◌∷◌, ◌++◌}
use Rattle.std.proofs.Common.{refl, ap}
use Rattle.winnow_stream.specs.Source.{Source}
use Rattle.winnow_stream.specs.Shortage.{needed}
use Rattle.winnow_parser.specs.Outcome.{Backtracks, Cuts, Needs, Refuses, Gives, Fails, Meaning}
use Rattle.winnow_parser.specs.Laws.{longer, IsStable, IsFinal, IsOnward, IsParser}
use Rattle.winnow_parser.specs.Parts.{Moves-still}

-- nothing remains, and nothing follows: the empty slice; where more may follow, one more token is
-- needed to decide
abbrev pub IsEof : {S T : Type 0} → (S → Source T → ℕ → Type 0) → Meaning S T
IsEof is_slice partial a (Gives s b) =
    (a.tokens ≡ []) × (partial ≡ false) × (a ≡ b) × is_slice s a.tokens 0
IsEof is_slice partial a (Fails (Backtracks b)) = (a.tokens ≢ []) × (a ≡ b)
IsEof is_slice partial a (Fails (Cuts b)) = ⊥
IsEof is_slice partial a (Fails (Needs n)) = (a.tokens ≡ []) × (partial ≡ true) × (n ≡ needed 1)
IsEof is_slice partial a (Fails Refuses) = ⊥

-- the parser backtracks on each input
abbrev pub IsFail : {O T : Type 0} → Meaning O T
IsFail partial a (Gives x b) = ⊥
IsFail partial a (Fails (Backtracks b)) = a ≡ b
IsFail partial a (Fails (Cuts b)) = ⊥
IsFail partial a (Fails (Needs n)) = ⊥
IsFail partial a (Fails Refuses) = ⊥

-- input that is not empty is not empty when more follows
some-longer : {T : Type 0} (r more : Source T) → r ≢ [] → r ++ more ≢ []
some-longer [] more n = absurd (n refl)
some-longer (x ∷ xs) more n = λ e. cc

module _ {S T : Type 0} (is_slice : S → Source T → ℕ → Type 0) where
  -- a settled answer of `IsEof` stays when more input follows
  ended-stable : IsStable (IsEof is_slice)
  ended-stable more partial a (Gives s b) settled h = absurd (cc)
  ended-stable more partial a (Fails (Backtracks b)) settled h = (some-longer a.tokens more h.0, ap (longer more) h.1)
  ended-stable more partial a (Fails (Cuts b)) settled h = absurd h
  ended-stable more partial a (Fails (Needs n)) settled h = absurd settled
  ended-stable more partial a (Fails Refuses) settled h = absurd settled

  -- `IsEof` needs nothing more where nothing more may follow
  ended-final : IsFinal (IsEof is_slice)
  ended-final a n h = cc

  -- `IsEof` only moves the stream on
  ended-onward : IsOnward (IsEof is_slice)
  ended-onward partial a (Gives s b) h = Moves-still a b h.2
  ended-onward partial a (Fails (Backtracks b)) h = Moves-still a b h.1
  ended-onward partial a (Fails (Cuts b)) h = absurd h
  ended-onward partial a (Fails (Needs n)) h = tt
  ended-onward partial a (Fails Refuses) h = tt

  -- `IsEof` keeps the laws of a parser
  pub IsParser-IsEof : IsParser (IsEof is_slice)
  IsParser-IsEof = record { stable = ended-stable; final = ended-final; onward = ended-onward }

module _ {O T : Type 0} where
  -- a settled answer of `IsFail` stays when more input follows
  failing-stable : IsStable {O = O} {T = T} IsFail
  failing-stable more partial a (Gives x b) s h = absurd h
  failing-stable more partial a (Fails (Backtracks b)) s h = ap (longer more) h
  failing-stable more partial a (Fails (Cuts b)) s h = absurd h
  failing-stable more partial a (Fails (Needs n)) s h = absurd s
  failing-stable more partial a (Fails Refuses) s h = absurd s

  -- `IsFail` only moves the stream on
  failing-onward : IsOnward {O = O} {T = T} IsFail
  failing-onward partial a (Gives x b) h = absurd h
  failing-onward partial a (Fails (Backtracks b)) h = Moves-still a b h
  failing-onward partial a (Fails (Cuts b)) h = absurd h
  failing-onward partial a (Fails (Needs n)) h = tt
  failing-onward partial a (Fails Refuses) h = tt

  -- `IsFail` keeps the laws of a parser
  pub IsParser-IsFail : IsParser {O = O} {T = T} IsFail
  IsParser-IsFail = record { stable = failing-stable; final = λ a n h. h; onward = failing-onward }
