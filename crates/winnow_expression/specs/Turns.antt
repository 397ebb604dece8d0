-- The operators that follow an operand, one after the other.
use Rattle.std.specs.Prelude.{◌≡◌, ℤ, ◌<◌, ◌≤◌, Bool, true, List, [], ◌∷◌, Option, ◌⊎◌}
use Rattle.std.proofs.Common.{refl, ap, subst, inl, inr, arith}
use Rattle.winnow_stream.specs.Source.{Source, width}
use Rattle.winnow_stream.proofs.lemmas.FrontLemmas.{width-append}
use Rattle.winnow_parser.specs.Outcome.{Ahead, Backtracks, Cuts, Needs, Refuses, Outcome, Gives, Fails, Meaning, Moves}
use Rattle.winnow_parser.specs.Laws.{longer, outcome_longer, IsSettled, IsStable, IsOnward, IsParser}
use Rattle.winnow_parser.specs.Meanings.{Returns, Maps}
use Rattle.winnow_parser.specs.Parts.{Moves-still, Moves-on, LeavesAfter-on, IsParser-Returns, IsParser-Maps}
use Rattle.winnow_expression.specs.Levels.{Admits, MayFollow}
use Rattle.winnow_expression.specs.Powers.{power_of, right_of, alone_of, operator_of}
use Rattle.winnow_expression.specs.Then.{Then, IsParser-Then}
use Rattle.winnow_expression.specs.Found.{Found, Fits, Unfit, Absent, IsFound, IsParser-IsFound}
use Rattle.winnow_expression.specs.declared.level.Level.{Level}
use Rattle.winnow_expression.specs.declared.operators.Infix.{Infix}
use Rattle.winnow_expression.specs.declared.turn.Turn.{Turn}
use Rattle.winnow_expression.specs.declared.turn.Turn.TheVariants.{Ended, Went}

-- an operator was applied, and this is the value
abbrev pub WentOn : {O : Type 0} → Option ℤ → O → Turn O → Type 0
WentOn alone x turn = turn ≡ Went x alone

module _ {O B C T : Type 0} (postfixes : Meaning (ℤ × B) T) (after : B → O → Meaning O T) (infixes : Meaning (Infix C) T) (joins : O → C → O → Meaning O T) (side : Level → Meaning O T) (level : Level) where
  -- an infix operator is applied to the value and its right side; without one that fits the
  -- expression ends
  abbrev pub IsJoined : O → Found (Infix C) → Meaning (Turn O) T
  IsJoined x (Fits i) = Then (side (right_of i)) (λ y. Maps (WentOn (alone_of i)) (joins x (operator_of i) y))
  IsJoined x Unfit = Returns (Ended x)
  IsJoined x Absent = Returns (Ended x)

  -- a postfix operator is applied to the value; one that does not fit ends the expression; where
  -- there is none, an infix operator is looked for
  abbrev pub IsFollowed : O → Option ℤ → Found (ℤ × B) → Meaning (Turn O) T
  IsFollowed x alone (Fits p) = Maps (WentOn alone) (after p.1 x)
  IsFollowed x alone Unfit = Returns (Ended x)
  IsFollowed x alone Absent = Then (IsFound (λ i. MayFollow level alone (power_of i)) infixes) (IsJoined x)

  -- one more operator after the value, or the end of the expression
  abbrev pub IsTurn : O → Option ℤ → Meaning (Turn O) T
  IsTurn x alone = Then (IsFound (λ p. Admits level p.0) postfixes) (IsFollowed x alone)

-- a turn that takes some tokens, or the end; the parser cuts where an operator was applied and
-- nothing was taken
abbrev pub Advancing : {O T : Type 0} → Meaning (Turn O) T → Meaning (Turn O) T
Advancing turn partial a (Gives (Ended x) b) = turn partial a (Gives (Ended x) b)
Advancing turn partial a (Gives (Went x alone) b) =
    turn partial a (Gives (Went x alone) b) × (width b.tokens < width a.tokens)
Advancing turn partial a (Fails (Backtracks b)) = turn partial a (Fails (Backtracks b))
Advancing {O} turn partial a (Fails (Cuts b)) = turn partial a (Fails (Cuts b))
    ⊎ ((x : O) × ((alone : Option ℤ)
    × (turn partial a (Gives (Went x alone) b) × (width a.tokens ≤ width b.tokens))))
Advancing turn partial a (Fails (Needs n)) = turn partial a (Fails (Needs n))
Advancing turn partial a (Fails Refuses) = turn partial a (Fails Refuses)

-- operators are applied one after the other, with these values and powers after each of them
abbrev pub InTurns : {O T : Type 0} → (O → Option ℤ → Meaning (Turn O) T) → Bool
    → List (O × Option ℤ) → O × Option ℤ → O × Option ℤ → Ahead T → Ahead T → Type 0
InTurns turn partial [] s t a b = (s ≡ t) × (a ≡ b)
InTurns {T = T} turn partial (u ∷ us) s t a b =
    (c : Ahead T) × (turn s.0 s.1 partial a (Gives (Went u.0 u.1) c)
    × InTurns turn partial us u t c b)

-- the answer of the last turn, as that of the whole
abbrev pub ended : {O T : Type 0} → Outcome O T → Outcome (Turn O) T
ended (Gives x b) = Gives (Ended x) b
ended (Fails f) = Fails f

-- turns, as many as there are, and then the end
abbrev pub Climbs : {O T : Type 0} → (O → Option ℤ → Meaning (Turn O) T) → O × Option ℤ
    → Meaning O T
Climbs {O} {T} turn s partial a v = (us : List (O × Option ℤ)) × ((t : O × Option ℤ) × ((b : Ahead T)
    × (InTurns turn partial us s t a b × turn t.0 t.1 partial b (ended v))))

-- ---- `IsTurn`

module _ {O B C T : Type 0} {postfixes : Meaning (ℤ × B) T} {after : B → O → Meaning O T} {infixes : Meaning (Infix C) T} {joins : O → C → O → Meaning O T} {side : Level → Meaning O T} (p : IsParser postfixes) (ps : (y : B) (x : O) → IsParser (after y x)) (q : IsParser infixes) (qs : (x : O) (y : C) (z : O) → IsParser (joins x y z)) (sides : (level : Level) → IsParser (side level)) (level : Level) where
  -- `IsJoined` keeps the laws of a parser
  IsParser-IsJoined : (x : O) (found : Found (Infix C))
      → IsParser (IsJoined postfixes after infixes joins side level x found)
  IsParser-IsJoined x (Fits i) =
      IsParser-Then (sides (right_of i)) (λ y. IsParser-Maps (WentOn (alone_of i)) (joins x (operator_of i) y) (qs x (operator_of i) y))
  IsParser-IsJoined x Unfit = IsParser-Returns (Ended x)
  IsParser-IsJoined x Absent = IsParser-Returns (Ended x)

  -- `IsFollowed` keeps the laws of a parser
  IsParser-IsFollowed : (x : O) (alone : Option ℤ) (found : Found (ℤ × B))
      → IsParser (IsFollowed postfixes after infixes joins side level x alone found)
  IsParser-IsFollowed x alone (Fits y) = IsParser-Maps (WentOn alone) (after y.1 x) (ps y.1 x)
  IsParser-IsFollowed x alone Unfit = IsParser-Returns (Ended x)
  IsParser-IsFollowed x alone Absent =
      IsParser-Then (IsParser-IsFound (λ i. MayFollow level alone (power_of i)) q) (IsParser-IsJoined x)

  -- `IsTurn` keeps the laws of a parser
  pub IsParser-IsTurn : (x : O) (alone : Option ℤ)
      → IsParser (IsTurn postfixes after infixes joins side level x alone)
  IsParser-IsTurn x alone = IsParser-Then (IsParser-IsFound (λ y. Admits level y.0) p) (IsParser-IsFollowed x alone)

-- ---- `Advancing`

module _ {O T : Type 0} {turn : Meaning (Turn O) T} (p : IsParser turn) where
  -- a settled answer of `Advancing` stays when more input follows
  advancing-stable : IsStable (Advancing turn)
  advancing-stable more partial a (Gives (Ended x) b) s h = p.stable more partial a (Gives (Ended x) b) tt h
  advancing-stable more partial a (Gives (Went x alone) b) s h =
      (p.stable more partial a (Gives (Went x alone) b) tt h.0, omega (arith, h.1, width-append a.tokens more, width-append b.tokens more))
  advancing-stable more partial a (Fails (Backtracks b)) s h = p.stable more partial a (Fails (Backtracks b)) tt h
  advancing-stable more partial a (Fails (Cuts b)) s (inl h) = inl (p.stable more partial a (Fails (Cuts b)) tt h)
  advancing-stable more partial a (Fails (Cuts b)) s (inr h) =
      inr (h.0, (h.1.0, (p.stable more partial a (Gives (Went h.0 h.1.0) b) tt h.1.1.0, omega (arith, h.1.1.1, width-append a.tokens more, width-append b.tokens more))))
  advancing-stable more partial a (Fails (Needs n)) s h = absurd s
  advancing-stable more partial a (Fails Refuses) s h = absurd s

  -- `Advancing` only moves the stream on
  advancing-onward : IsOnward (Advancing turn)
  advancing-onward partial a (Gives (Ended x) b) h = p.onward partial a (Gives (Ended x) b) h
  advancing-onward partial a (Gives (Went x alone) b) h = p.onward partial a (Gives (Went x alone) b) h.0
  advancing-onward partial a (Fails (Backtracks b)) h = p.onward partial a (Fails (Backtracks b)) h
  advancing-onward partial a (Fails (Cuts b)) (inl h) = p.onward partial a (Fails (Cuts b)) h
  advancing-onward partial a (Fails (Cuts b)) (inr h) = p.onward partial a (Gives (Went h.0 h.1.0) b) h.1.1.0
  advancing-onward partial a (Fails (Needs n)) h = tt
  advancing-onward partial a (Fails Refuses) h = tt

  -- `Advancing` keeps the laws of a parser
  pub IsParser-Advancing : IsParser (Advancing turn)
  IsParser-Advancing = record { stable = advancing-stable; final = λ a n h. p.final a n h; onward = advancing-onward }

-- ---- `Climbs`

module _ {O T : Type 0} {turn : O → Option ℤ → Meaning (Turn O) T} (p : (x : O) (alone : Option ℤ) → IsParser (turn x alone)) where
  -- turns in a row are the same when more input follows
  in_turns-longer : (more : Source T) (partial : Bool) (us : List (O × Option ℤ))
      (s t : O × Option ℤ) (a b : Ahead T) → InTurns turn true us s t a b
      → InTurns turn partial us s t (longer more a) (longer more b)
  in_turns-longer more partial [] s t a b h = (h.0, ap (longer more) h.1)
  in_turns-longer more partial (u ∷ us) s t a b h =
      (longer more h.0, ((p s.0 s.1).stable more partial a (Gives (Went u.0 u.1) h.0) tt h.1.0, in_turns-longer more partial us u t h.0 b h.1.1))

  -- turns in a row move the stream on
  in_turns-moves : (partial : Bool) (us : List (O × Option ℤ)) (s t : O × Option ℤ)
      (a b : Ahead T) → InTurns turn partial us s t a b → Moves a b
  in_turns-moves partial [] s t a b h = Moves-still a b h.1
  in_turns-moves partial (u ∷ us) s t a b h =
      Moves-on a h.0 b ((p s.0 s.1).onward partial a (Gives (Went u.0 u.1) h.0) h.1.0) (in_turns-moves partial us u t h.0 b h.1.1)

  -- an answer that is settled is settled as that of the last turn
  ended-settled : (v : Outcome O T) → IsSettled v → IsSettled (ended v)
  ended-settled (Gives x b) s = tt
  ended-settled (Fails f) s = s

  -- an answer with more input after it, as that of the last turn
  ended-longer : (more : Source T) (v : Outcome O T)
      → outcome_longer more (ended v) ≡ ended (outcome_longer more v)
  ended-longer more (Gives x b) = refl
  ended-longer more (Fails f) = refl

  -- a settled answer of `Climbs` stays when more input follows
  climbs-stable : (s : O × Option ℤ) → IsStable (Climbs turn s)
  climbs-stable s more partial a v settled h =
      let last = (p h.1.0.0 h.1.0.1).stable more partial h.1.1.0 (ended v) (ended-settled v settled) h.1.1.1.1 in
      (h.0, (h.1.0, (longer more h.1.1.0, (in_turns-longer more partial h.0 s h.1.0 a h.1.1.0 h.1.1.1.0, subst (turn h.1.0.0 h.1.0.1 partial (longer more h.1.1.0)) (ended-longer more v) last))))

  -- `Climbs` only moves the stream on
  climbs-onward : (s : O × Option ℤ) → IsOnward (Climbs turn s)
  climbs-onward s partial a (Gives x b) h =
      LeavesAfter-on a h.1.1.0 (Gives x b) (in_turns-moves partial h.0 s h.1.0 a h.1.1.0 h.1.1.1.0) ((p h.1.0.0 h.1.0.1).onward partial h.1.1.0 (Gives (Ended x) b) h.1.1.1.1)
  climbs-onward s partial a (Fails f) h =
      LeavesAfter-on {O = O} a h.1.1.0 (Fails f) (in_turns-moves partial h.0 s h.1.0 a h.1.1.0 h.1.1.1.0) ((p h.1.0.0 h.1.0.1).onward partial h.1.1.0 (Fails f) h.1.1.1.1)

  -- `Climbs` keeps the laws of a parser
  pub IsParser-Climbs : (s : O × Option ℤ) → IsParser (Climbs turn s)
  IsParser-Climbs s = record {
    stable = climbs-stable s;
    final = λ a n h. (p h.1.0.0 h.1.0.1).final h.1.1.0 n h.1.1.1.1;
    onward = climbs-onward s;
  }
