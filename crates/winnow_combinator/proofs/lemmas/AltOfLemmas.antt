-- The first of the parsers of a list: what is known of a front of the list leads to the whole.
use Rattle.std.specs.Prelude.{◌≡◌, ⊤, Bool, List, [], ◌∷◌, ◌++◌}
use Rattle.std.proofs.Common.{All, refl, inl, inr, sym, subst}
use Rattle.std.proofs.lemmas.List.Elements.{All-head, All-tail}
use Rattle.std.specs.declared.alloc.AllocError.{AllocError}
use Rattle.winnow_error.specs.declared.failure.Failure.{Failure}
use Rattle.winnow_error.specs.declared.failure.Failure.TheVariants.{Incomplete, Backtrack, Cut, Refused}
use Rattle.winnow_stream.specs.declared.needed.Needed.{Needed}
use Rattle.winnow_parser.specs.Outcome.{Ahead, Failed, Backtracks, Cuts, Needs, Refuses, Outcome, Gives, Fails, Meaning}
use Rattle.winnow_parser.specs.Errors.{Errors, FailsLeaving, AltErrors2}
use Rattle.winnow_parser.specs.Meanings.{IsAlt2}
use Rattle.winnow_parser.specs.Determined.{IsDetermined, Agree}
use Rattle.winnow_parser.proofs.lemmas.DeterminedLemmas.{determined-alt2}
use Rattle.winnow_combinator.specs.AltOf.{IsAltOf, AltErrorsOf, IsAltOfAll}
use Rattle.winnow_combinator.proofs.lemmas.CombinedLemmas.{determined-appending}

-- what holds at a place holds at the same one
pub there : {T : Type 0} (holds : Bool → Ahead T → Type 0) {more partial : Bool} {b a : Ahead T}
    → more ≡ partial → b ≡ a → holds more b → holds partial a
there holds {more} {partial} {b} {a} flag place h = subst (λ m. holds m a) flag (subst (λ x. holds more x) place h)

-- an answer after which no other parser is asked
abbrev pub Settles : {O T : Type 0} → Outcome O T → Type 0
Settles (Gives x b) = ⊤
Settles (Fails (Backtracks b)) = ⊥
Settles (Fails (Cuts b)) = ⊤
Settles (Fails (Needs n)) = ⊤
Settles (Fails Refuses) = ⊤

-- a failure whose error comes from one parser alone
abbrev pub IsOneCut : {E : Type 0} → Failure E Needed → Type 0
IsOneCut (Backtrack e) = ⊥
IsOneCut (Cut e) = ⊤
IsOneCut (Incomplete n) = ⊤
IsOneCut (Refused r) = ⊤

module _ {O T P : Type 0} (r : Type 0) (means : P → Meaning O T) (partial : Bool) (a : Ahead T) where
  -- the answer of the first of two that settles is one of the two
  first-of-two : (first second : Meaning O T) (v : Outcome O T) → Settles v → first partial a v
      → IsAlt2 r first second partial a v
  first-of-two first second (Gives x b) s h = inl h
  first-of-two first second (Fails (Backtracks b)) s h = absurd s
  first-of-two first second (Fails (Cuts b)) s h = inl h
  first-of-two first second (Fails (Needs n)) s h = inl h
  first-of-two first second (Fails Refuses) s h = inl h

  -- an answer of the first that settles is one of all
  pub IsAltOf-settles : (first : Meaning O T) (rest : List P) (v : Outcome O T) → Settles v
      → first partial a v → IsAltOf r means first rest partial a v
  IsAltOf-settles first [] v s h = h
  IsAltOf-settles first (next ∷ rest) v s h =
      IsAltOf-settles (IsAlt2 r first (means next)) rest v s (first-of-two first (means next) v s h)

  -- an answer of the second of two that settles, after the first backtracked, is one of the two
  second-of-two : (first second : Meaning O T) (c : Ahead T) (v : Outcome O T) → Settles v
      → first partial a (Fails (Backtracks c)) → second partial a v
      → IsAlt2 r first second partial a v
  second-of-two first second c (Gives x b) s h k = inr (c, (h, k))
  second-of-two first second c (Fails (Backtracks b)) s h k = absurd s
  second-of-two first second c (Fails (Cuts b)) s h k = inr (c, (h, k))
  second-of-two first second c (Fails (Needs n)) s h k = inr (c, (h, k))
  second-of-two first second c (Fails Refuses) s h k = inr (c, (h, inl k))

  -- the first of a front and of the rest after it is the first of all
  pub IsAltOf-on : (first : Meaning O T) (done rest : List P) (v : Outcome O T)
      → IsAltOf r means (IsAltOf r means first done) rest partial a v
      → IsAltOf r means first (done ++ rest) partial a v
  IsAltOf-on first [] rest v h = h
  IsAltOf-on first (next ∷ done) rest v h = IsAltOf-on (IsAlt2 r first (means next)) done rest v h

  module _ (first : Meaning O T) (done : List P) (next : P) (later : List P) (c : Ahead T) (front : IsAltOf r means first done partial a (Fails (Backtracks c))) where
    -- where a front and the next parser backtrack, the longer front does
    pub IsAltOf-next : (b : Ahead T) → means next partial a (Fails (Backtracks b))
        → IsAltOf r means first (done ++ next ∷ []) partial a (Fails (Backtracks b))
    IsAltOf-next b h = IsAltOf-on first done (next ∷ []) (Fails (Backtracks b)) (c, (front, h))

    -- an answer of the next parser that settles is one of all
    pub IsAltOf-at : (whole : List P) → whole ≡ done ++ next ∷ later → (v : Outcome O T)
        → Settles v → means next partial a v → IsAltOf r means first whole partial a v
    IsAltOf-at whole split v s h =
        subst (λ list. IsAltOf r means first list partial a v) (sym split)
        (IsAltOf-on first done (next ∷ later) v
        (IsAltOf-settles (IsAlt2 r (IsAltOf r means first done) (means next)) later v s
        (second-of-two (IsAltOf r means first done) (means next) c v s front h)))

    -- memory that is refused while the errors are joined is refused to all
    pub IsAltOf-refused : r → (whole : List P) → whole ≡ done ++ next ∷ later
        → IsAltOf r means first whole partial a (Fails Refuses)
    IsAltOf-refused refused whole split =
        subst (λ list. IsAltOf r means first list partial a (Fails Refuses)) (sym split)
        (IsAltOf-on first done (next ∷ later) (Fails Refuses)
        (IsAltOf-settles (IsAlt2 r (IsAltOf r means first done) (means next)) later (Fails Refuses) tt
        (inr (c, (front, inr refused)))))

module _ {O E S T P : Type 0} (stands : S → Ahead T) (r : Type 0) (joins : E → E → E → Type 0) (means : P → Meaning O T) (errors : P → Errors E S T) (partial : Bool) (a : Ahead T) (s : S) where
  -- the error of the first of two that cuts is one of the two
  first-error-of-two : (first : Meaning O T) (first_errors second : Errors E S T)
      (failure : Failure E Needed) → IsOneCut failure → first_errors partial a s failure
      → AltErrors2 stands joins first first_errors second partial a s failure
  first-error-of-two first first_errors second (Backtrack e) c h = absurd c
  first-error-of-two first first_errors second (Cut e) c h = inl h
  first-error-of-two first first_errors second (Incomplete n) c h = tt
  first-error-of-two first first_errors second (Refused x) c h = tt

  -- an error of a cut of the first is one of all
  pub AltErrorsOf-settles : (first : Meaning O T) (first_errors : Errors E S T) (rest : List P)
      (failure : Failure E Needed) → IsOneCut failure → first_errors partial a s failure
      → AltErrorsOf stands r joins means errors first first_errors rest partial a s failure
  AltErrorsOf-settles first first_errors [] failure c h = h
  AltErrorsOf-settles first first_errors (next ∷ rest) failure c h =
      AltErrorsOf-settles (IsAlt2 r first (means next)) (AltErrors2 stands joins first first_errors (errors next)) rest failure c
      (first-error-of-two first first_errors (errors next) failure c h)

  -- the errors of a front and of the rest after it are those of all
  pub AltErrorsOf-on : (first : Meaning O T) (first_errors : Errors E S T) (done rest : List P)
      (failure : Failure E Needed)
      → AltErrorsOf stands r joins means errors (IsAltOf r means first done)
      (AltErrorsOf stands r joins means errors first first_errors done) rest partial a s failure
      → AltErrorsOf stands r joins means errors first first_errors (done ++ rest) partial a s failure
  AltErrorsOf-on first first_errors [] rest failure h = h
  AltErrorsOf-on first first_errors (next ∷ done) rest failure h =
      AltErrorsOf-on (IsAlt2 r first (means next)) (AltErrors2 stands joins first first_errors (errors next)) done rest failure h

module _ {O E S T P : Type 0} (stands : S → Ahead T) (r : Type 0) (joins : E → E → E → Type 0) (means : P → Meaning O T) (errors : P → Errors E S T) (partial : Bool) (a : Ahead T) (first : Meaning O T) (first_errors : Errors E S T) (done : List P) (next : P) (later : List P) (e1 : E) (front : FailsLeaving stands (IsAltOf r means first done) (AltErrorsOf stands r joins means errors first first_errors done) partial a (Backtrack e1)) (s : S) where
  -- the errors of a front and of the next parser, which both backtrack, are joined
  pub AltErrorsOf-next : (e2 e : E) → errors next partial a s (Backtrack e2) → joins e1 e2 e
      → AltErrorsOf stands r joins means errors first first_errors (done ++ next ∷ []) partial a s (Backtrack e)
  AltErrorsOf-next e2 e h j =
      AltErrorsOf-on stands r joins means errors partial a s first first_errors done (next ∷ []) (Backtrack e) (e1, (e2, (front, h, j)))

  -- a failure of the next parser that is no backtrack is one of the two
  next-error : (failure : Failure E Needed) → IsOneCut failure → errors next partial a s failure
      → AltErrors2 stands joins (IsAltOf r means first done) (AltErrorsOf stands r joins means errors first first_errors done) (errors next) partial a s failure
  next-error (Backtrack e) c h = absurd c
  next-error (Cut e) c h = inr (e1, (front, h))
  next-error (Incomplete n) c h = tt
  next-error (Refused x) c h = tt

  -- a failure of the next parser that is no backtrack is one of all
  pub AltErrorsOf-at : (whole : List P) → whole ≡ done ++ next ∷ later
      → (failure : Failure E Needed) → IsOneCut failure → errors next partial a s failure
      → AltErrorsOf stands r joins means errors first first_errors whole partial a s failure
  AltErrorsOf-at whole split failure c h =
      subst (λ list. AltErrorsOf stands r joins means errors first first_errors list partial a s failure) (sym split)
      (AltErrorsOf-on stands r joins means errors partial a s first first_errors done (next ∷ later) failure
      (AltErrorsOf-settles stands r joins means errors partial a s (IsAlt2 r (IsAltOf r means first done) (means next)) (AltErrors2 stands joins (IsAltOf r means first done) (AltErrorsOf stands r joins means errors first first_errors done) (errors next)) later failure c
      (next-error failure c h)))

  -- memory that is refused while the errors are joined has no error
  pub AltErrorsOf-refused : (whole : List P) → whole ≡ done ++ next ∷ later → (x : AllocError)
      → AltErrorsOf stands r joins means errors first first_errors whole partial a s (Refused x)
  AltErrorsOf-refused whole split x =
      subst (λ list. AltErrorsOf stands r joins means errors first first_errors list partial a s (Refused x)) (sym split)
      (AltErrorsOf-on stands r joins means errors partial a s first first_errors done (next ∷ later) (Refused x)
      (AltErrorsOf-settles stands r joins means errors partial a s (IsAlt2 r (IsAltOf r means first done) (means next)) (AltErrors2 stands joins (IsAltOf r means first done) (AltErrorsOf stands r joins means errors first first_errors done) (errors next)) later (Refused x) tt tt))

-- the first of parsers that have one answer has one answer
determined-alt_of : {O T P : Type 0} (r : Type 0) (same : O → O → Type 0) (means : P → Meaning O T)
    (first : Meaning O T) → IsDetermined same first → (rest : List P)
    → All (λ p. IsDetermined same (means p)) rest → IsDetermined same (IsAltOf r means first rest)
determined-alt_of r same means first one [] each = one
determined-alt_of r same means first one (next ∷ rest) each =
    determined-alt_of r same means (IsAlt2 r first (means next))
    (determined-alt2 r same first (means next) one (All-head (λ p. IsDetermined same (means p)) next rest each))
    rest (All-tail (λ p. IsDetermined same (means p)) next rest each)

-- no parser has one answer
determined-none : {O T P : Type 0} (q r : Type 0) (same : O → O → Type 0) (means : P → Meaning O T)
    → IsDetermined same (IsAltOfAll q r means [])
determined-none q r same means partial a v w s t h k =
    subst (λ u. Agree same u w) (sym h) (subst (Agree same (Fails (Cuts a))) (sym k) refl)

-- the first of a list of parsers that have one answer has one answer
pub determined-alt_of_all : {O T P : Type 0} (q r : Type 0) (same : O → O → Type 0)
    (means : P → Meaning O T) (list : List P) → All (λ p. IsDetermined same (means p)) list
    → IsDetermined same (IsAltOfAll q r means list)
determined-alt_of_all q r same means [] each = determined-none q r same means
determined-alt_of_all q r same means (first ∷ rest) each =
    determined-appending q same (IsAltOf r means (means first) rest)
    (determined-alt_of r same means (means first) (All-head (λ p. IsDetermined same (means p)) first rest each)
    rest (All-tail (λ p. IsDetermined same (means p)) first rest each))
