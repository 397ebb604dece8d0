-- One parser, asked again and again.
use Rattle.std.specs.Prelude.{◌≡◌, ℕ, ◌<◌, ◌≤◌, Bool, true, List, [], ◌∷◌, ◌++◌, length, Option, Some, None, ◌⊎◌, ⊤}
use Rattle.std.proofs.Common.{refl, ap, sym, subst, inl, inr, arith}
use Rattle.winnow_stream.specs.Source.{Source, width}
use Rattle.winnow_stream.proofs.lemmas.FrontLemmas.{width-append}
use Rattle.winnow_parser.specs.Outcome.{Ahead, Failed, Backtracks, Cuts, Needs, Refuses, Gives, Fails, Meaning, Moves}
use Rattle.winnow_parser.specs.Errors.{Errors}
use Rattle.winnow_parser.specs.Laws.{longer, outcome_longer, IsSettled, IsStable, IsFinal, IsOnward, IsParser}
use Rattle.winnow_parser.specs.Parts.{Moves-still, Moves-on, LeavesAfter-on}
use Rattle.winnow_combinator.specs.Counts.{IsBelow}

-- the value, if some tokens were taken for it; where none were taken, the parser cuts
abbrev pub Taking : {O T : Type 0} → Meaning O T → Meaning O T
Taking inner partial a (Gives x b) = inner partial a (Gives x b) × (width b.tokens < width a.tokens)
Taking inner partial a (Fails (Backtracks b)) = inner partial a (Fails (Backtracks b))
Taking {O} inner partial a (Fails (Cuts b)) = inner partial a (Fails (Cuts b))
    ⊎ ((x : O) × (inner partial a (Gives x b) × (width a.tokens ≤ width b.tokens)))
Taking inner partial a (Fails (Needs n)) = inner partial a (Fails (Needs n))
Taking inner partial a (Fails Refuses) = inner partial a (Fails Refuses)

-- the parser gives these values, one after the other
abbrev pub InTurn : {O T : Type 0} → Meaning O T → Bool → List O → Ahead T → Ahead T → Type 0
InTurn inner partial [] a b = a ≡ b
InTurn {T = T} inner partial (x ∷ xs) a b = (c : Ahead T) × (inner partial a (Gives x c) × InTurn inner partial xs c b)

-- after n values this failure is the failure of the whole repetition: a backtrack only where n is
-- less than the least count
abbrev pub FailsWith : {T : Type 0} → ℕ → ℕ → Failed T → Type 0
FailsWith least n (Backtracks b) = n < least
FailsWith least n (Cuts b) = ⊤
FailsWith least n (Needs m) = ⊤
FailsWith least n Refuses = ⊤

-- one more value after n values; or none, where the parser backtracks and n values are enough, and
-- then nothing is taken
abbrev pub OneMore : {O T : Type 0} → ℕ → ℕ → Meaning O T → Meaning (Option O) T
OneMore least n inner partial a (Gives (Some x) b) = inner partial a (Gives x b)
OneMore {T = T} least n inner partial a (Gives None b) =
    (a ≡ b) × (least ≤ n) × ((c : Ahead T) × inner partial a (Fails (Backtracks c)))
OneMore least n inner partial a (Fails f) = FailsWith least n f × inner partial a (Fails f)

-- the values of the parser, one after the other, as many as it gives and at most `greatest`, if
-- there are at least `least`
abbrev pub Repeats : {O T : Type 0} → ℕ → Option ℕ → Meaning O T → Meaning (List O) T
Repeats least greatest inner partial a (Gives xs b) = InTurn (Taking inner) partial xs a b × (least ≤ length xs)
    × ((greatest ≡ Some (length xs))
    ⊎ (IsBelow greatest (length xs) × OneMore least (length xs) (Taking inner) partial b (Gives None b)))
Repeats {O} {T} least greatest inner partial a (Fails f) = (xs : List O) × ((b : Ahead T)
    × (InTurn (Taking inner) partial xs a b × IsBelow greatest (length xs)
    × OneMore least (length xs) (Taking inner) partial b (Fails f)))

-- the errors of the inner parser after some of its values
abbrev pub RepeatErrors : {O E S T : Type 0} → Meaning O T → Errors E S T → Errors E S T
RepeatErrors {O} {E} {S} {T} means inner partial a s failure =
    (xs : List O)
    × ((b : Ahead T) × (InTurn (Taking means) partial xs a b × inner partial b s failure))

-- ---- `Taking`

module _ {O T : Type 0} {inner : Meaning O T} (p : IsParser inner) where
  -- a settled answer of `Taking` stays when more input follows
  taking-stable : IsStable (Taking inner)
  taking-stable more partial a (Gives x b) s h =
      (p.stable more partial a (Gives x b) tt h.0, omega (arith, h.1, width-append a.tokens more, width-append b.tokens more))
  taking-stable more partial a (Fails (Backtracks b)) s h = p.stable more partial a (Fails (Backtracks b)) tt h
  taking-stable more partial a (Fails (Cuts b)) s (inl h) = inl (p.stable more partial a (Fails (Cuts b)) tt h)
  taking-stable more partial a (Fails (Cuts b)) s (inr h) =
      inr (h.0, (p.stable more partial a (Gives h.0 b) tt h.1.0, omega (arith, h.1.1, width-append a.tokens more, width-append b.tokens more)))
  taking-stable more partial a (Fails (Needs n)) s h = absurd s
  taking-stable more partial a (Fails Refuses) s h = absurd s

  -- `Taking` only moves the stream on
  taking-onward : IsOnward (Taking inner)
  taking-onward partial a (Gives x b) h = p.onward partial a (Gives x b) h.0
  taking-onward partial a (Fails (Backtracks b)) h = p.onward partial a (Fails (Backtracks b)) h
  taking-onward partial a (Fails (Cuts b)) (inl h) = p.onward partial a (Fails (Cuts b)) h
  taking-onward partial a (Fails (Cuts b)) (inr h) = p.onward partial a (Gives h.0 b) h.1.0
  taking-onward partial a (Fails (Needs n)) h = tt
  taking-onward partial a (Fails Refuses) h = tt

  -- `Taking` keeps the laws of a parser
  pub IsParser-Taking : IsParser (Taking inner)
  IsParser-Taking = record { stable = taking-stable; final = p.final; onward = taking-onward }

-- ---- `OneMore`

module _ {O T : Type 0} (least n : ℕ) {inner : Meaning O T} (p : IsParser inner) where
  -- a settled failure after n values stays when more input follows
  fails_with-longer : (more : Source T) (partial : Bool) (a : Ahead T) (f : Failed T)
      → IsSettled {O = O} (Fails f) → FailsWith least n f × inner true a (Fails f)
      → OneMore least n inner partial (longer more a) (outcome_longer more (Fails f))
  fails_with-longer more partial a (Backtracks b) s h = (h.0, p.stable more partial a (Fails (Backtracks b)) tt h.1)
  fails_with-longer more partial a (Cuts b) s h = (tt, p.stable more partial a (Fails (Cuts b)) tt h.1)
  fails_with-longer more partial a (Needs m) s h = absurd s
  fails_with-longer more partial a Refuses s h = absurd s

  -- a settled answer of `OneMore` stays when more input follows
  one_more-stable : IsStable (OneMore least n inner)
  one_more-stable more partial a (Gives (Some x) b) s h = p.stable more partial a (Gives x b) tt h
  one_more-stable more partial a (Gives None b) s h =
      (ap (longer more) h.0, h.1, (longer more h.2.0, p.stable more partial a (Fails (Backtracks h.2.0)) tt h.2.1))
  one_more-stable more partial a (Fails f) s h = fails_with-longer more partial a f s h

  -- `OneMore` only moves the stream on
  one_more-onward : IsOnward (OneMore least n inner)
  one_more-onward partial a (Gives (Some x) b) h = p.onward partial a (Gives x b) h
  one_more-onward partial a (Gives None b) h = Moves-still a b h.0
  one_more-onward partial a (Fails f) h = p.onward partial a (Fails f) h.1

  -- `OneMore` keeps the laws of a parser
  pub IsParser-OneMore : IsParser (OneMore least n inner)
  IsParser-OneMore = record { stable = one_more-stable; final = λ a m h. p.final a m h.1; onward = one_more-onward }

-- ---- `InTurn`

module _ {O T : Type 0} (inner : Meaning O T) where
  -- one more value after some values in turn
  pub InTurn-more : (partial : Bool) (xs : List O) (x : O) (a b c : Ahead T)
      → InTurn inner partial xs a b → inner partial b (Gives x c)
      → InTurn inner partial (xs ++ x ∷ []) a c
  InTurn-more partial [] x a b c e h = (c, (subst (λ s. inner partial s (Gives x c)) (sym e) h, refl))
  InTurn-more partial (y ∷ ys) x a b c t h = (t.0, (t.1.0, InTurn-more partial ys x t.0 b c t.1.1 h))

module _ {O T : Type 0} {inner : Meaning O T} (p : IsParser inner) where
  -- values in turn are the same when more input follows
  in_turn-longer : (more : Source T) (partial : Bool) (xs : List O) (a b : Ahead T)
      → InTurn inner true xs a b → InTurn inner partial xs (longer more a) (longer more b)
  in_turn-longer more partial [] a b e = ap (longer more) e
  in_turn-longer more partial (x ∷ xs) a b t =
      (longer more t.0, (p.stable more partial a (Gives x t.0) tt t.1.0, in_turn-longer more partial xs t.0 b t.1.1))

  -- values in turn move the stream on
  in_turn-moves : (partial : Bool) (xs : List O) (a b : Ahead T) → InTurn inner partial xs a b
      → Moves a b
  in_turn-moves partial [] a b e = Moves-still a b e
  in_turn-moves partial (x ∷ xs) a b t = Moves-on a t.0 b (p.onward partial a (Gives x t.0) t.1.0) (in_turn-moves partial xs t.0 b t.1.1)

-- ---- `Repeats`

module _ {O T : Type 0} (least : ℕ) (greatest : Option ℕ) {inner : Meaning O T} (p : IsParser inner) where
  -- asking for one more value keeps the laws of a parser
  after-turns : (n : ℕ) → IsParser (OneMore least n (Taking inner))
  after-turns n = IsParser-OneMore least n (IsParser-Taking p)

  -- a settled answer of `Repeats` stays when more input follows
  repeated-stable : IsStable (Repeats least greatest inner)
  repeated-stable more partial a (Gives xs b) s h = (
    in_turn-longer (IsParser-Taking p) more partial xs a b h.0,
    h.1,
    elim h.2 [
      | inl e ↦ inl e
      | inr k ↦ inr (k.0, (after-turns (length xs)).stable more partial b (Gives None b) tt k.1)
    ],
  )
  repeated-stable more partial a (Fails f) s h = (
    h.0,
    (
      longer more h.1.0,
      (
        in_turn-longer (IsParser-Taking p) more partial h.0 a h.1.0 h.1.1.0,
        h.1.1.1,
        (after-turns (length h.0)).stable more partial h.1.0 (Fails f) s h.1.1.2,
      ),
    ),
  )

  -- `Repeats` needs nothing more where nothing more may follow
  repeated-final : IsFinal (Repeats least greatest inner)
  repeated-final a n h = (after-turns (length h.0)).final h.1.0 n h.1.1.2

  -- `Repeats` only moves the stream on
  repeated-onward : IsOnward (Repeats least greatest inner)
  repeated-onward partial a (Gives xs b) h = in_turn-moves (IsParser-Taking p) partial xs a b h.0
  repeated-onward partial a (Fails f) h =
      let front = in_turn-moves (IsParser-Taking p) partial h.0 a h.1.0 h.1.1.0 in
      LeavesAfter-on {O = Option O} a h.1.0 (Fails f) front ((after-turns (length h.0)).onward partial h.1.0 (Fails f) h.1.1.2)

  -- `Repeats` keeps the laws of a parser
  pub IsParser-Repeats : IsParser (Repeats least greatest inner)
  IsParser-Repeats = record { stable = repeated-stable; final = repeated-final; onward = repeated-onward }
