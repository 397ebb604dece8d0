-- All that remains, up to the end.
use Rattle.std.specs.Prelude.{◌≡◌, ℕ, true, false, []}
use Rattle.std.proofs.Common.{refl, sym, subst}
use Rattle.std.proofs.lemmas.List.{append-nil}
use Rattle.winnow_stream.specs.Source.{Source, width}
use Rattle.winnow_stream.specs.Location.{location_behind}
use Rattle.winnow_stream.specs.declared.needed.Needed.TheVariants.{Unknown}
use Rattle.winnow_parser.specs.Outcome.{Ahead, Backtracks, Cuts, Needs, Refuses, Gives, Fails, Meaning, Moves}
use Rattle.winnow_parser.specs.Laws.{IsStable, IsFinal, IsOnward, IsParser}
use Rattle.winnow_parser.specs.Parts.{Moves-still}

-- the place at the end of the input
abbrev pub at_end : {T : Type 0} → Ahead T → Ahead T
at_end a = record { location = location_behind a.location (width a.tokens); tokens = [] }

-- the slice of all that remains; where more may follow the parser needs more, of an unknown width
abbrev pub IsRest : {S T : Type 0} → (S → Source T → ℕ → Type 0) → Meaning S T
IsRest is_slice partial a (Gives s b) = (partial ≡ false) × is_slice s a.tokens (width a.tokens) × (b ≡ at_end a)
IsRest is_slice partial a (Fails (Backtracks b)) = ⊥
IsRest is_slice partial a (Fails (Cuts b)) = ⊥
IsRest is_slice partial a (Fails (Needs n)) = (partial ≡ true) × (n ≡ Unknown)
IsRest is_slice partial a (Fails Refuses) = ⊥

-- the width of all that remains; nothing is taken
abbrev pub IsRestLen : {T : Type 0} → Meaning ℕ T
IsRestLen partial a (Gives n b) = (partial ≡ false) × (n ≡ width a.tokens) × (a ≡ b)
IsRestLen partial a (Fails (Backtracks b)) = ⊥
IsRestLen partial a (Fails (Cuts b)) = ⊥
IsRestLen partial a (Fails (Needs n)) = (partial ≡ true) × (n ≡ Unknown)
IsRestLen partial a (Fails Refuses) = ⊥

-- two slices of all that remains at one place are the same
abbrev pub WholesRespect : {S T : Type 0} → (S → Source T → ℕ → Type 0) → (S → S → Type 0) → Type 0
WholesRespect {S} {T} is_slice alike = (s t : S) (r : Source T) → is_slice s r (width r) → is_slice t r (width r) → alike s t

module _ {S T : Type 0} (is_slice : S → Source T → ℕ → Type 0) where
  -- a settled answer of `IsRest` stays when more input follows
  remaining-stable : IsStable (IsRest is_slice)
  remaining-stable more partial a (Gives s b) settled h = absurd (cc)
  remaining-stable more partial a (Fails (Backtracks b)) settled h = absurd h
  remaining-stable more partial a (Fails (Cuts b)) settled h = absurd h
  remaining-stable more partial a (Fails (Needs n)) settled h = absurd settled
  remaining-stable more partial a (Fails Refuses) settled h = absurd settled

  -- `IsRest` needs nothing more where nothing more may follow
  remaining-final : IsFinal (IsRest is_slice)
  remaining-final a n h = cc

  -- a stream that goes to its end has moved on
  moves-to_end : (a : Ahead T) → Moves a (at_end a)
  moves-to_end a = record { taken = a.tokens; whole = sym (append-nil a.tokens); place = refl }

  -- `IsRest` only moves the stream on
  remaining-onward : IsOnward (IsRest is_slice)
  remaining-onward partial a (Gives s b) h = subst (Moves a) (sym h.2) (moves-to_end a)
  remaining-onward partial a (Fails (Backtracks b)) h = absurd h
  remaining-onward partial a (Fails (Cuts b)) h = absurd h
  remaining-onward partial a (Fails (Needs n)) h = tt
  remaining-onward partial a (Fails Refuses) h = tt

  -- `IsRest` keeps the laws of a parser
  pub IsParser-IsRest : IsParser (IsRest is_slice)
  IsParser-IsRest = record { stable = remaining-stable; final = remaining-final; onward = remaining-onward }

module _ {T : Type 0} where
  -- a settled answer of `IsRestLen` stays when more input follows
  remaining_width-stable : IsStable {O = ℕ} {T = T} IsRestLen
  remaining_width-stable more partial a (Gives n b) settled h = absurd (cc)
  remaining_width-stable more partial a (Fails (Backtracks b)) settled h = absurd h
  remaining_width-stable more partial a (Fails (Cuts b)) settled h = absurd h
  remaining_width-stable more partial a (Fails (Needs n)) settled h = absurd settled
  remaining_width-stable more partial a (Fails Refuses) settled h = absurd settled

  -- `IsRestLen` needs nothing more where nothing more may follow
  remaining_width-final : IsFinal {O = ℕ} {T = T} IsRestLen
  remaining_width-final a n h = cc

  -- `IsRestLen` only moves the stream on
  remaining_width-onward : IsOnward {O = ℕ} {T = T} IsRestLen
  remaining_width-onward partial a (Gives n b) h = Moves-still a b h.2
  remaining_width-onward partial a (Fails (Backtracks b)) h = absurd h
  remaining_width-onward partial a (Fails (Cuts b)) h = absurd h
  remaining_width-onward partial a (Fails (Needs n)) h = tt
  remaining_width-onward partial a (Fails Refuses) h = tt

  -- `IsRestLen` keeps the laws of a parser
  pub IsParser-IsRestLen : IsParser {O = ℕ} {T = T} IsRestLen
  IsParser-IsRestLen = record { stable = remaining_width-stable; final = remaining_width-final; onward = remaining_width-onward }
