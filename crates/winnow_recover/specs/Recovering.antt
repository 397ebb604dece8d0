-- The parts of a stream that records errors, and what recording changes.
use Rattle.std.specs.Prelude.{◌≡◌, List, [], ◌∷◌, ◌++◌, Bool, true, false, not, ◌||◌, refl}
use Rattle.std.proofs.Common.{◌∙◌, sym, ap, subst, true≢false}
use Rattle.std.proofs.lemmas.List.{append-nil, append_assoc}
use Rattle.winnow_recover.specs.declared.recoverable.Recoverable.{Recoverable}

-- an error that is not refused is recorded by a stream that records errors
pub records-taken : (records incomplete : Bool) → (not records || incomplete) ≡ false
    → records ≡ true
records-taken true incomplete taken = refl
records-taken false incomplete taken = absurd (true≢false taken)

module _ {I E : Type 0} where
  -- the stream inside
  abbrev pub recoverable_inner : Recoverable I E → I
  recoverable_inner s = s.input

  -- the errors recorded so far, in their order
  abbrev pub recorded_errors : Recoverable I E → List E
  recorded_errors s = s.errors.items

  -- whether the stream records errors
  abbrev pub records_errors : Recoverable I E → Bool
  records_errors s = s.is_recoverable

  -- t is s, except for the room that the errors take
  abbrev pub IsSame : Recoverable I E → Recoverable I E → Type 0
  IsSame s t = (t.input ≡ s.input) × (t.errors.items ≡ s.errors.items) × (t.is_recoverable ≡ s.is_recoverable)

  -- t is s with this error after the others
  abbrev pub HasOneMore : E → Recoverable I E → Recoverable I E → Type 0
  HasOneMore e s t = (t.input ≡ s.input) × (t.errors.items ≡ s.errors.items ++ e ∷ []) × (t.is_recoverable ≡ s.is_recoverable)

  -- t is s with one more error: what `recovered` makes of the given one, for s with some room
  abbrev pub Records : {C F : Type 0} → (C → C → Recoverable I E → F → E) → Recoverable I E → C → C
      → F → Recoverable I E → Type 0
  Records recovered s token_start err_start e t = (u : Recoverable I E) × IsSame s u × HasOneMore (recovered token_start err_start u e) s t

  -- s with this stream inside
  abbrev pub with_inner : Recoverable I E → I → Recoverable I E
  with_inner s input = record s { input = input }

  -- t has the errors of s, records errors if s does, and keeps what stays inside
  abbrev pub KeepsErrors : (I → I → Type 0) → Recoverable I E → Recoverable I E → Type 0
  KeepsErrors keeps s t = (recorded_errors s ≡ recorded_errors t) × (records_errors s ≡ records_errors t) × keeps s.input t.input

  -- t has the errors of s first, and no others if s records none; the rest is as in `KeepsErrors`
  pub record AddsErrors (keeps : I → I → Type 0) (s t : Recoverable I E) : Type 0 where
    pub added : (more : List E) × (recorded_errors t ≡ recorded_errors s ++ more)
    pub unless : records_errors s ≡ false → recorded_errors s ≡ recorded_errors t
    pub kind : records_errors s ≡ records_errors t
    pub inside : keeps s.input t.input

  -- what keeps the errors adds none
  pub AddsErrors-none : {keeps : I → I → Type 0} {s t : Recoverable I E} → KeepsErrors keeps s t
      → AddsErrors keeps s t
  AddsErrors-none {s = s} (same, kind, inside) = record {
    added = ([], sym same ∙ sym (append-nil (recorded_errors s)));
    unless = λ _. same;
    kind = kind;
    inside = inside;
  }

  -- a stream that records errors adds one
  pub AddsErrors-one : {keeps : I → I → Type 0} (e : E) (s t : Recoverable I E)
      → records_errors s ≡ true → keeps s.input s.input → HasOneMore e s t → AddsErrors keeps s t
  AddsErrors-one {keeps} e s t records stays (input, errors, kind) = record {
    added = (e ∷ [], errors);
    unless = λ none. absurd (true≢false (sym records ∙ none));
    kind = sym kind;
    inside = subst (keeps s.input) (sym input) stays;
  }

  -- what each of two calls adds, both in a row add
  pub AddsErrors-both : {keeps : I → I → Type 0} {s t u : Recoverable I E}
      → (keeps s.input t.input → keeps t.input u.input → keeps s.input u.input)
      → AddsErrors keeps s t → AddsErrors keeps t u → AddsErrors keeps s u
  AddsErrors-both {s = s} both p q = record {
    added = (p.added.0 ++ q.added.0, q.added.1 ∙ ap (λ e. e ++ q.added.0) p.added.1 ∙ append_assoc (recorded_errors s) p.added.0 q.added.0);
    unless = λ none. p.unless none ∙ q.unless (sym p.kind ∙ none);
    kind = p.kind ∙ q.kind;
    inside = both p.inside q.inside;
  }
