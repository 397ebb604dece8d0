-- A parser, and then one that its value decides.
use Rattle.std.specs.Prelude.{◌≡◌, ◌⊎◌}
use Rattle.std.proofs.Common.{ap, inl, inr}
use Rattle.winnow_parser.specs.Outcome.{Ahead, Gives, Fails, Meaning}
use Rattle.winnow_parser.specs.Laws.{longer, IsStable, IsFinal, IsOnward, IsParser}
use Rattle.winnow_parser.specs.Parts.{Moves-still, LeavesAfter-on}

-- a value of which this holds, and nothing is taken
abbrev pub Yields : {O T : Type 0} → (O → Type 0) → Meaning O T
Yields holds partial a (Gives x b) = holds x × (a ≡ b)
Yields holds partial a (Fails f) = ⊥

-- first one parser, and then the one for its value
abbrev pub Then : {O P T : Type 0} → Meaning O T → (O → Meaning P T) → Meaning P T
Then {O} {P} {T} first next partial a (Gives y c) =
    (x : O) × ((b : Ahead T) × (first partial a (Gives x b) × next x partial b (Gives y c)))
Then {O} {P} {T} first next partial a (Fails f) = first partial a (Fails f)
    ⊎ ((x : O) × ((b : Ahead T) × (first partial a (Gives x b) × next x partial b (Fails f))))

module _ {O T : Type 0} (holds : O → Type 0) where
  -- a settled answer of `Yields` stays when more input follows
  yields-stable : IsStable {O = O} {T = T} (Yields holds)
  yields-stable more partial a (Gives x b) s h = (h.0, ap (longer more) h.1)
  yields-stable more partial a (Fails f) s h = absurd h

  -- `Yields` only moves the stream on
  yields-onward : IsOnward {O = O} {T = T} (Yields holds)
  yields-onward partial a (Gives x b) h = Moves-still a b h.1
  yields-onward partial a (Fails f) h = absurd h

  -- `Yields` keeps the laws of a parser
  pub IsParser-Yields : IsParser {O = O} {T = T} (Yields holds)
  IsParser-Yields = record { stable = yields-stable; final = λ a n h. h; onward = yields-onward }

module _ {O P T : Type 0} {first : Meaning O T} {next : O → Meaning P T} (p : IsParser first) (all : (x : O) → IsParser (next x)) where
  -- a settled answer of `Then` stays when more input follows
  then-stable : IsStable (Then first next)
  then-stable more partial a (Gives y c) s h =
      (h.0, (longer more h.1.0, (p.stable more partial a (Gives h.0 h.1.0) tt h.1.1.0, (all h.0).stable more partial h.1.0 (Gives y c) tt h.1.1.1)))
  then-stable more partial a (Fails f) s (inl h) = inl (p.stable more partial a (Fails f) s h)
  then-stable more partial a (Fails f) s (inr h) =
      inr (h.0, (longer more h.1.0, (p.stable more partial a (Gives h.0 h.1.0) tt h.1.1.0, (all h.0).stable more partial h.1.0 (Fails f) s h.1.1.1)))

  -- `Then` needs nothing more where nothing more may follow
  then-final : IsFinal (Then first next)
  then-final a n (inl h) = p.final a n h
  then-final a n (inr h) = (all h.0).final h.1.0 n h.1.1.1

  -- `Then` only moves the stream on
  then-onward : IsOnward (Then first next)
  then-onward partial a (Gives y c) h =
      LeavesAfter-on a h.1.0 (Gives y c) (p.onward partial a (Gives h.0 h.1.0) h.1.1.0) ((all h.0).onward partial h.1.0 (Gives y c) h.1.1.1)
  then-onward partial a (Fails f) (inl h) = p.onward partial a (Fails f) h
  then-onward partial a (Fails f) (inr h) =
      LeavesAfter-on {O = P} a h.1.0 (Fails f) (p.onward partial a (Gives h.0 h.1.0) h.1.1.0) ((all h.0).onward partial h.1.0 (Fails f) h.1.1.1)

  -- `Then` keeps the laws of a parser
  pub IsParser-Then : IsParser (Then first next)
  IsParser-Then = record { stable = then-stable; final = then-final; onward = then-onward }
