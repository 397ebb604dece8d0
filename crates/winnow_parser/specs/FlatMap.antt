-- A parser, and then one that is made of its value.
use Rattle.std.specs.Prelude.{◌⊎◌}
use Rattle.std.proofs.Common.{inl, inr}
use Rattle.winnow_parser.specs.Outcome.{Ahead, Gives, Fails, Meaning}
use Rattle.winnow_parser.specs.Laws.{longer, IsStable, IsFinal, IsOnward, IsParser}
use Rattle.winnow_parser.specs.Parts.{LeavesAfter-on}

-- first one parser, and then the one that is made of its value
abbrev pub FlatMaps : {O P Q T : Type 0} → (O → Q → Type 0) → (Q → Meaning P T) → Meaning O T
    → Meaning P T
FlatMaps {O} {P} {Q} {T} makes means first partial a (Gives y c) =
    (x : O)
    × ((b : Ahead T)
    × ((q : Q) × (first partial a (Gives x b) × makes x q × means q partial b (Gives y c))))
FlatMaps {O} {P} {Q} {T} makes means first partial a (Fails f) = first partial a (Fails f)
    ⊎ ((x : O) × ((b : Ahead T) × ((q : Q) × (first partial a (Gives x b) × makes x q × means q partial b (Fails f)))))

module _ {O P Q T : Type 0} (makes : O → Q → Type 0) (means : Q → Meaning P T) (first : Meaning O T) (all : (q : Q) → IsParser (means q)) (p : IsParser first) where
  -- a settled answer of `FlatMaps` stays when more input follows
  continued-stable : IsStable (FlatMaps makes means first)
  continued-stable more partial a (Gives y c) s h =
      (h.0, (longer more h.1.0, (h.1.1.0, (p.stable more partial a (Gives h.0 h.1.0) tt h.1.1.1.0, h.1.1.1.1, (all h.1.1.0).stable more partial h.1.0 (Gives y c) tt h.1.1.1.2))))
  continued-stable more partial a (Fails f) s (inl h) = inl (p.stable more partial a (Fails f) s h)
  continued-stable more partial a (Fails f) s (inr h) =
      inr (h.0, (longer more h.1.0, (h.1.1.0, (p.stable more partial a (Gives h.0 h.1.0) tt h.1.1.1.0, h.1.1.1.1, (all h.1.1.0).stable more partial h.1.0 (Fails f) s h.1.1.1.2))))

  -- `FlatMaps` needs nothing more where nothing more may follow
  continued-final : IsFinal (FlatMaps makes means first)
  continued-final a n (inl h) = p.final a n h
  continued-final a n (inr h) = (all h.1.1.0).final h.1.0 n h.1.1.1.2

  -- `FlatMaps` only moves the stream on
  continued-onward : IsOnward (FlatMaps makes means first)
  continued-onward partial a (Gives y c) h =
      LeavesAfter-on a h.1.0 (Gives y c) (p.onward partial a (Gives h.0 h.1.0) h.1.1.1.0) ((all h.1.1.0).onward partial h.1.0 (Gives y c) h.1.1.1.2)
  continued-onward partial a (Fails f) (inl h) = p.onward partial a (Fails f) h
  continued-onward partial a (Fails f) (inr h) =
      LeavesAfter-on {O = P} a h.1.0 (Fails f) (p.onward partial a (Gives h.0 h.1.0) h.1.1.1.0) ((all h.1.1.0).onward partial h.1.0 (Fails f) h.1.1.1.2)

  -- `FlatMaps` keeps the laws of a parser
  pub IsParser-FlatMaps : IsParser (FlatMaps makes means first)
  IsParser-FlatMaps = record { stable = continued-stable; final = continued-final; onward = continued-onward }
