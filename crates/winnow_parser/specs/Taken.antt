-- The slice that a parser takes.
use Rattle.std.specs.Prelude.{◌≡◌, ℕ, IsTrue}
use Rattle.std.proofs.Common.{ap, ◌∙◌}
use Rattle.winnow_stream.specs.Source.{Source}
use Rattle.winnow_stream.specs.Front.{is_offset}
use Rattle.winnow_stream.specs.Location.{location_behind}
use Rattle.winnow_stream.specs.Longer.{SlicesStay, is_offset-longer, back-longer}
use Rattle.winnow_parser.specs.Outcome.{Ahead, Gives, Fails, Meaning, after}
use Rattle.winnow_parser.specs.Laws.{longer, IsStable, IsOnward, IsParser}

-- the slice is that of a front, and the second place is after that front
abbrev pub IsFrontTaken : {S T : Type 0} → (S → Source T → ℕ → Type 0) → S → Ahead T → Ahead T
    → Type 0
IsFrontTaken is_slice s a b = (n : ℕ) × (IsTrue (is_offset a.tokens n) × is_slice s a.tokens n × (after a n ≡ b))

-- the value, and the slice that the inner parser takes
abbrev pub WithTaken : {O S T : Type 0} → (S → Source T → ℕ → Type 0) → Meaning O T
    → Meaning (O × S) T
WithTaken is_slice inner partial a (Gives both b) = inner partial a (Gives both.0 b) × IsFrontTaken is_slice both.1 a b
WithTaken is_slice inner partial a (Fails f) = inner partial a (Fails f)

-- the slice that the inner parser takes; its value is dropped
abbrev pub Taken : {O S T : Type 0} → (S → Source T → ℕ → Type 0) → Meaning O T → Meaning S T
Taken {O} is_slice inner partial a (Gives s b) = ((x : O) × inner partial a (Gives x b)) × IsFrontTaken is_slice s a b
Taken is_slice inner partial a (Fails f) = inner partial a (Fails f)

-- the place after a front stays the same when more input follows
pub after-longer : {T : Type 0} (more : Source T) (a : Ahead T) (n : ℕ)
    → IsTrue (is_offset a.tokens n) → after (longer more a) n ≡ longer more (after a n)
after-longer more a n h = ap (λ r. record { location = location_behind a.location n; tokens = r }) (back-longer a.tokens more n h)

module _ {S T : Type 0} (is_slice : S → Source T → ℕ → Type 0) (stay : SlicesStay is_slice) where
  -- a slice that was taken is still taken when more input follows
  pub IsFrontTaken-longer : (more : Source T) (s : S) (a b : Ahead T) → IsFrontTaken is_slice s a b
      → IsFrontTaken is_slice s (longer more a) (longer more b)
  IsFrontTaken-longer more s a b h =
      (h.0, (is_offset-longer a.tokens more h.0 h.1.0, stay s a.tokens more h.0 h.1.0 h.1.1, after-longer more a h.0 h.1.0 ∙ ap (longer more) h.1.2))

  module _ {O : Type 0} (inner : Meaning O T) (p : IsParser inner) where
    -- a settled answer of `WithTaken` stays when more input follows
    with_taken-stable : IsStable (WithTaken is_slice inner)
    with_taken-stable more partial a (Gives both b) s h =
        (p.stable more partial a (Gives both.0 b) tt h.0, IsFrontTaken-longer more both.1 a b h.1)
    with_taken-stable more partial a (Fails f) s h = p.stable more partial a (Fails f) s h

    -- `WithTaken` only moves the stream on
    with_taken-onward : IsOnward (WithTaken is_slice inner)
    with_taken-onward partial a (Gives both b) h = p.onward partial a (Gives both.0 b) h.0
    with_taken-onward partial a (Fails f) h = p.onward partial a (Fails f) h

    -- `WithTaken` keeps the laws of a parser
    pub IsParser-WithTaken : IsParser (WithTaken is_slice inner)
    IsParser-WithTaken = record { stable = with_taken-stable; final = p.final; onward = with_taken-onward }

    -- a settled answer of `Taken` stays when more input follows
    taken-stable : IsStable (Taken is_slice inner)
    taken-stable more partial a (Gives s b) settled h =
        ((h.0.0, p.stable more partial a (Gives h.0.0 b) tt h.0.1), IsFrontTaken-longer more s a b h.1)
    taken-stable more partial a (Fails f) settled h = p.stable more partial a (Fails f) settled h

    -- `Taken` only moves the stream on
    taken-onward : IsOnward (Taken is_slice inner)
    taken-onward partial a (Gives s b) h = p.onward partial a (Gives h.0.0 b) h.0.1
    taken-onward partial a (Fails f) h = p.onward partial a (Fails f) h

    -- `Taken` keeps the laws of a parser
    pub IsParser-Taken : IsParser (Taken is_slice inner)
    IsParser-Taken = record { stable = taken-stable; final = p.final; onward = taken-onward }
