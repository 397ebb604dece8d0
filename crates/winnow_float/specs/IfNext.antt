-- One of two parsers, which the next token chooses.
use Rattle.std.specs.Prelude.{◌≡◌, Bool, true, false, [], ◌∷◌, ◌++◌, MatchOption, MatchBool, ◌⊎◌, ⊤}
use Rattle.std.proofs.Common.{sym, subst}
use Rattle.winnow_stream.specs.Source.{Source, first_token}
use Rattle.winnow_stream.specs.Shortage.{needed}
use Rattle.winnow_stream.specs.declared.needed.Needed.{Needed}
use Rattle.winnow_error.specs.declared.failure.Failure.{Failure}
use Rattle.winnow_error.specs.declared.failure.Failure.TheVariants.{Incomplete, Backtrack, Cut, Refused}
use Rattle.winnow_parser.specs.Outcome.{Needs, Outcome, Fails, Meaning}
use Rattle.winnow_parser.specs.Errors.{Errors}
use Rattle.winnow_parser.specs.Laws.{IsSettled, IsStable, IsFinal, LeavesAfter, IsOnward, IsParser}
use Rattle.winnow_parser.specs.Meanings.{Maps, IsForgotten}
use Rattle.winnow_parser.specs.Parts.{IsParser-Maps}

-- by the next token: what holds of one that is in the set, of one that is not, and at the end
abbrev pub ByNext : {T : Type 0} → (T → Bool) → Source T → Type 0 → Type 0 → Type 0 → Type 0
ByNext holds r held other end = MatchOption (first_token r) end (λ token. MatchBool (holds token) held other)

-- the first parser, if the next token is in the set, and else the second, also at the end of the
-- input; at the end of a piece one more token is needed. The values are dropped
abbrev pub IsIfNext : {O P T : Type 0} → (T → Bool) → Meaning O T → Meaning P T
    → Meaning (Unit {0}) T
IsIfNext holds first second partial a v = ByNext holds a.tokens (Maps IsForgotten first partial a v)
    (Maps IsForgotten second partial a v)
    (MatchBool partial (v ≡ Fails (Needs (needed 1))) (Maps IsForgotten second partial a v))

-- the failure needs more input
abbrev pub IsIncomplete : {E : Type 0} → Failure E Needed → Type 0
IsIncomplete (Backtrack e) = ⊥
IsIncomplete (Cut e) = ⊥
IsIncomplete (Incomplete n) = ⊤
IsIncomplete (Refused r) = ⊥

-- the errors of either parser, or none, if the next token is missing
abbrev pub IfNextErrors : {E S T : Type 0} → Errors E S T → Errors E S T → Errors E S T
IfNextErrors first second partial a s failure = first partial a s failure
    ⊎ (second partial a s failure ⊎ IsIncomplete failure)

module _ {T : Type 0} (holds : T → Bool) where
  -- what follows from each of two cases follows from the case that a test chooses
  match-as : (b : Bool) {P P' Q Q' : Type 0} → (P → P') → (Q → Q') → MatchBool b P Q
      → MatchBool b P' Q'
  match-as true f g h = f h
  match-as false f g h = g h

  -- a fact that follows from both cases
  match-of : (b : Bool) {P Q R : Type 0} → (P → R) → (Q → R) → MatchBool b P Q → R
  match-of true f g h = f h
  match-of false f g h = g h

  -- a fact by the next token stays when more tokens follow, if none stays at the end
  by_next-longer : (r more : Source T) {P P' Q Q' N : Type 0} (N' : Type 0) → (P → P') → (Q → Q')
      → (N → ⊥) → ByNext holds r P Q N → ByNext holds (r ++ more) P' Q' N'
  by_next-longer [] more N' f g none h = absurd (none h)
  by_next-longer (x ∷ xs) more N' f g none h = match-as (holds x.0) f g h

  -- a fact that follows in each case
  by_next-of : (r : Source T) {P Q N R : Type 0} → (P → R) → (Q → R) → (N → R)
      → ByNext holds r P Q N → R
  by_next-of [] f g e h = e h
  by_next-of (x ∷ xs) f g e h = match-of (holds x.0) f g h

module _ {O P T : Type 0} (holds : T → Bool) {first : Meaning O T} {second : Meaning P T} (p : IsParser first) (q : IsParser second) where
  -- the parsers without their values keep the laws of a parser
  first-void : IsParser (Maps IsForgotten first)
  first-void = IsParser-Maps IsForgotten first p

  second-void : IsParser (Maps IsForgotten second)
  second-void = IsParser-Maps IsForgotten second q

  -- a settled answer needs nothing more
  settled-needs : (v : Outcome (Unit {0}) T) → IsSettled v → v ≡ Fails (Needs (needed 1)) → ⊥
  settled-needs v s e = subst IsSettled e s

  -- a settled answer of `IsIfNext` stays when more input follows
  if_next-stable : IsStable (IsIfNext holds first second)
  if_next-stable more partial a v s h =
      by_next-longer holds a.tokens more _ (first-void.stable more partial a v s) (second-void.stable more partial a v s) (settled-needs v s) h

  -- `IsIfNext` needs nothing more if nothing more may follow
  if_next-final : IsFinal (IsIfNext holds first second)
  if_next-final a n h = by_next-of holds a.tokens (first-void.final a n) (second-void.final a n) (second-void.final a n) h

  -- `IsIfNext` only moves the stream on
  if_next-onward : IsOnward (IsIfNext holds first second)
  if_next-onward partial a v h =
      by_next-of holds a.tokens (first-void.onward partial a v) (second-void.onward partial a v)
      (match-of holds partial (λ e. subst (LeavesAfter a) (sym e) tt) (second-void.onward partial a v)) h

  -- `IsIfNext` keeps the laws of a parser
  pub IsParser-IsIfNext : IsParser (IsIfNext holds first second)
  IsParser-IsIfNext = record { stable = if_next-stable; final = if_next-final; onward = if_next-onward }
