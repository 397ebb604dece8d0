-- One parser, asked again and again up to where another gives a value.
use Rattle.std.specs.Prelude.{◌≡◌, ℕ, ◌+◌, ◌<◌, ◌≤◌, suc, Bool, true, List, [], ◌∷◌, ◌++◌, length, Option, Some, None, ◌⊎◌, ⊤}
use Rattle.std.proofs.Common.{refl, ap, sym, subst, inl, inr, arith}
use Rattle.winnow_stream.specs.Source.{Source}
use Rattle.winnow_parser.specs.Outcome.{Ahead, Failed, Backtracks, Cuts, Needs, Refuses, Gives, Fails, Meaning, Moves}
use Rattle.winnow_parser.specs.Errors.{Errors}
use Rattle.winnow_parser.specs.Laws.{longer, IsStable, IsFinal, IsOnward, IsParser}
use Rattle.winnow_parser.specs.Parts.{Moves-still, Moves-on, LeavesAfter-on}
use Rattle.winnow_combinator.specs.Counts.{IsBelow}
use Rattle.winnow_combinator.specs.Repeat.{Taking, IsParser-Taking}

-- after n values this failure of the terminator is the failure of the whole: a backtrack only where
-- no more value is allowed
abbrev pub IsLast : {T : Type 0} → Option ℕ → ℕ → Failed T → Type 0
IsLast greatest n (Backtracks b) = ¬ (IsBelow greatest n)
IsLast greatest n (Cuts b) = ⊤
IsLast greatest n (Needs m) = ⊤
IsLast greatest n Refuses = ⊤

-- the terminator's value after n values, if n are enough; or none, where n are too few to ask it,
-- or where it backtracks and one more value is allowed, and then nothing is taken
abbrev pub EndAfter : {P T : Type 0} → ℕ → Option ℕ → ℕ → Meaning P T → Meaning (Option P) T
EndAfter least greatest n terminator partial a (Gives (Some y) b) = (least ≤ n) × terminator partial a (Gives y b)
EndAfter {T = T} least greatest n terminator partial a (Gives None b) = (a ≡ b)
    × ((n < least) ⊎ (IsBelow greatest n × ((c : Ahead T) × terminator partial a (Fails (Backtracks c)))))
EndAfter least greatest n terminator partial a (Fails f) = (least ≤ n) × IsLast greatest n f × terminator partial a (Fails f)

-- the parser gives these values, one after the other, after n others; before each of them the
-- terminator gives no end
abbrev pub InTurnTill : {O P T : Type 0} → ℕ → Option ℕ → ℕ → Meaning P T → Meaning O T → Bool
    → List O → Ahead T → Ahead T → Type 0
InTurnTill least greatest n terminator inner partial [] a b = a ≡ b
InTurnTill {T = T} least greatest n terminator inner partial (x ∷ xs) a b = (c : Ahead T)
    × (EndAfter least greatest n terminator partial a (Gives None a) × inner partial a (Gives x c)
    × InTurnTill least greatest (suc n) terminator inner partial xs c b)

-- the values of the parser, one after the other, and then the terminator's value; the terminator is
-- asked before each value once there are enough, and a failure is its own or that of the parser
abbrev pub RepeatsTill : {O P T : Type 0} → ℕ → Option ℕ → Meaning O T → Meaning P T
    → Meaning (List O × P) T
RepeatsTill {T = T} least greatest inner terminator partial a (Gives both c) = (b : Ahead T)
    × (InTurnTill least greatest 0 terminator (Taking inner) partial both.0 a b
    × EndAfter least greatest (length both.0) terminator partial b (Gives (Some both.1) c))
RepeatsTill {O} {P} {T} least greatest inner terminator partial a (Fails f) = (xs : List O) × ((b : Ahead T)
    × (InTurnTill least greatest 0 terminator (Taking inner) partial xs a b
    × (EndAfter least greatest (length xs) terminator partial b (Fails f)
    ⊎ (EndAfter least greatest (length xs) terminator partial b (Gives None b) × Taking inner partial b (Fails f)))))

-- the gathered values, with the terminator's value unchanged
abbrev pub MakesOfFirst : {O A P : Type 0} → (O → A → Type 0) → O × P → A × P → Type 0
MakesOfFirst makes both made = makes both.0 made.0 × (both.1 ≡ made.1)

-- the errors of the terminator after some values, if they are enough; or, where it gives no end,
-- those of the parser
abbrev pub RepeatTillErrors : {O P E S T : Type 0} → ℕ → Option ℕ → Meaning O T → Errors E S T
    → Meaning P T → Errors E S T → Errors E S T
RepeatTillErrors {O} {P} {E} {S} {T} least greatest inner errors terminator terminator_errors partial a s failure = (xs : List O) × ((b : Ahead T)
    × (InTurnTill least greatest 0 terminator (Taking inner) partial xs a b
    × (((least ≤ length xs) × terminator_errors partial b s failure)
    ⊎ (EndAfter least greatest (length xs) terminator partial b (Gives None b) × errors partial b s failure))))

-- ---- `EndAfter`

module _ {P T : Type 0} (least : ℕ) (greatest : Option ℕ) (n : ℕ) {terminator : Meaning P T} (q : IsParser terminator) where
  -- where there is no end, there is none when more input follows
  no_end-longer : (more : Source T) (partial : Bool) (a : Ahead T)
      → (n < least)
      ⊎ (IsBelow greatest n × ((c : Ahead T) × terminator true a (Fails (Backtracks c))))
      → (n < least) ⊎ (IsBelow greatest n × ((c : Ahead T) × terminator partial (longer more a) (Fails (Backtracks c))))
  no_end-longer more partial a (inl few) = inl few
  no_end-longer more partial a (inr h) = inr (h.0, (longer more h.1.0, q.stable more partial a (Fails (Backtracks h.1.0)) tt h.1.1))

  -- a settled answer of `EndAfter` stays when more input follows
  end_after-stable : IsStable (EndAfter least greatest n terminator)
  end_after-stable more partial a (Gives (Some y) b) s h = (h.0, q.stable more partial a (Gives y b) tt h.1)
  end_after-stable more partial a (Gives None b) s h = (ap (longer more) h.0, no_end-longer more partial a h.1)
  end_after-stable more partial a (Fails (Backtracks b)) s h = (h.0, h.1, q.stable more partial a (Fails (Backtracks b)) tt h.2)
  end_after-stable more partial a (Fails (Cuts b)) s h = (h.0, tt, q.stable more partial a (Fails (Cuts b)) tt h.2)
  end_after-stable more partial a (Fails (Needs m)) s h = absurd s
  end_after-stable more partial a (Fails Refuses) s h = absurd s

  -- `EndAfter` only moves the stream on
  end_after-onward : IsOnward (EndAfter least greatest n terminator)
  end_after-onward partial a (Gives (Some y) b) h = q.onward partial a (Gives y b) h.1
  end_after-onward partial a (Gives None b) h = Moves-still a b h.0
  end_after-onward partial a (Fails f) h = q.onward partial a (Fails f) h.2

  -- `EndAfter` keeps the laws of a parser
  IsParser-EndAfter : IsParser (EndAfter least greatest n terminator)
  IsParser-EndAfter = record { stable = end_after-stable; final = λ a m h. q.final a m h.2; onward = end_after-onward }

-- ---- `InTurnTill`

module _ {O P T : Type 0} (least : ℕ) (greatest : Option ℕ) (terminator : Meaning P T) (inner : Meaning O T) (partial : Bool) where
  -- one more value after some values in turn, before which there is no end
  pub InTurnTill-more : (n m : ℕ) (xs : List O) (x : O) (a b c : Ahead T) → m ≡ n + length xs
      → InTurnTill least greatest n terminator inner partial xs a b
      → EndAfter least greatest m terminator partial b (Gives None b) → inner partial b (Gives x c) → InTurnTill least greatest n terminator inner partial (xs ++ x ∷ []) a c
  InTurnTill-more n m [] x a b c e t none h =
      let same : m ≡ n = omega (arith, e) in (
        c,
        (
          subst (λ k. EndAfter least greatest k terminator partial a (Gives None a)) same (subst (λ s. EndAfter least greatest m terminator partial s (Gives None s)) (sym t) none),
          subst (λ s. inner partial s (Gives x c)) (sym t) h,
          refl,
        ),
      )
  InTurnTill-more n m (y ∷ ys) x a b c e t none h =
      (t.0, (t.1.0, t.1.1, InTurnTill-more (suc n) m ys x t.0 b c (omega (arith, e)) t.1.2 none h))

module _ {O P T : Type 0} (least : ℕ) (greatest : Option ℕ) {terminator : Meaning P T} {inner : Meaning O T} (q : IsParser terminator) (p : IsParser inner) where
  -- values in turn are the same when more input follows
  in_turn_till-longer : (n : ℕ) (more : Source T) (partial : Bool) (xs : List O) (a b : Ahead T)
      → InTurnTill least greatest n terminator inner true xs a b
      → InTurnTill least greatest n terminator inner partial xs (longer more a) (longer more b)
  in_turn_till-longer n more partial [] a b e = ap (longer more) e
  in_turn_till-longer n more partial (x ∷ xs) a b t = (
    longer more t.0,
    (
      end_after-stable least greatest n q more partial a (Gives None a) tt t.1.0,
      p.stable more partial a (Gives x t.0) tt t.1.1,
      in_turn_till-longer (suc n) more partial xs t.0 b t.1.2,
    ),
  )

  -- values in turn move the stream on
  in_turn_till-moves : (n : ℕ) (partial : Bool) (xs : List O) (a b : Ahead T)
      → InTurnTill least greatest n terminator inner partial xs a b → Moves a b
  in_turn_till-moves n partial [] a b e = Moves-still a b e
  in_turn_till-moves n partial (x ∷ xs) a b t =
      Moves-on a t.0 b (p.onward partial a (Gives x t.0) t.1.1) (in_turn_till-moves (suc n) partial xs t.0 b t.1.2)

-- ---- `RepeatsTill`

module _ {O P T : Type 0} (least : ℕ) (greatest : Option ℕ) {inner : Meaning O T} {terminator : Meaning P T} (p : IsParser inner) (q : IsParser terminator) where
  -- asking for an end keeps the laws of a parser
  ends-till : (n : ℕ) → IsParser (EndAfter least greatest n terminator)
  ends-till n = IsParser-EndAfter least greatest n q

  -- `Taking` keeps the laws of a parser
  taking-till : IsParser (Taking inner)
  taking-till = IsParser-Taking p

  -- a settled answer of `RepeatsTill` stays when more input follows
  repeated_till-stable : IsStable (RepeatsTill least greatest inner terminator)
  repeated_till-stable more partial a (Gives both c) s h = (
    longer more h.0,
    (
      in_turn_till-longer least greatest q taking-till 0 more partial both.0 a h.0 h.1.0,
      (ends-till (length both.0)).stable more partial h.0 (Gives (Some both.1) c) tt h.1.1,
    ),
  )
  repeated_till-stable more partial a (Fails f) s h = (
    h.0,
    (
      longer more h.1.0,
      (
        in_turn_till-longer least greatest q taking-till 0 more partial h.0 a h.1.0 h.1.1.0,
        elim h.1.1.1 [
          | inl e ↦ inl ((ends-till (length h.0)).stable more partial h.1.0 (Fails f) s e)
          | inr e ↦ inr ((ends-till (length h.0)).stable more partial h.1.0 (Gives None h.1.0) tt e.0, taking-till.stable more partial h.1.0 (Fails f) s e.1)
        ],
      ),
    ),
  )

  -- `RepeatsTill` needs nothing more where nothing more may follow
  repeated_till-final : IsFinal (RepeatsTill least greatest inner terminator)
  repeated_till-final a n h = elim h.1.1.1 [
    | inl e ↦ (ends-till (length h.0)).final h.1.0 n e
    | inr e ↦ taking-till.final h.1.0 n e.1
  ]

  -- `RepeatsTill` only moves the stream on
  repeated_till-onward : IsOnward (RepeatsTill least greatest inner terminator)
  repeated_till-onward partial a (Gives both c) h =
      Moves-on a h.0 c (in_turn_till-moves least greatest q taking-till 0 partial both.0 a h.0 h.1.0) ((ends-till (length both.0)).onward partial h.0 (Gives (Some both.1) c) h.1.1)
  repeated_till-onward partial a (Fails f) h =
      let front = in_turn_till-moves least greatest q taking-till 0 partial h.0 a h.1.0 h.1.1.0 in
      elim h.1.1.1 [
        | inl e ↦ LeavesAfter-on {O = Option P} a h.1.0 (Fails f) front ((ends-till (length h.0)).onward partial h.1.0 (Fails f) e)
        | inr e ↦ LeavesAfter-on {O = O} a h.1.0 (Fails f) front (taking-till.onward partial h.1.0 (Fails f) e.1)
      ]

  -- `RepeatsTill` keeps the laws of a parser
  pub IsParser-RepeatsTill : IsParser (RepeatsTill least greatest inner terminator)
  IsParser-RepeatsTill = record { stable = repeated_till-stable; final = repeated_till-final; onward = repeated_till-onward }
