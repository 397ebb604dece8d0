-- Turns whose answers agree, and expressions of such turns.
use Rattle.std.specs.Prelude.{ℤ, ◌⊎◌, ⊤}
use Rattle.std.proofs.Common.{◌≡◌, ◌<◌, ◌≤◌, Bool, List, [], ◌∷◌, Option, inl, inr, refl, ap, sym, ◌∙◌, subst, arith}
use Rattle.winnow_stream.specs.Source.{width}
use Rattle.winnow_parser.specs.Outcome.{Ahead, Failed, Backtracks, Cuts, Needs, Refuses, Outcome, Gives, Fails, Meaning}
use Rattle.winnow_parser.specs.Determined.{IsGranted, Agree, IsDetermined}
use Rattle.winnow_parser.specs.Meanings.{Maps}
use Rattle.winnow_expression.specs.Found.{Found, Fits, Unfit, Absent, IsFound}
use Rattle.winnow_expression.specs.Turns.{WentOn, Advancing, InTurns, ended, Climbs}
use Rattle.winnow_expression.specs.Agreeing.{AnswersAgree}
use Rattle.winnow_expression.specs.declared.turn.Turn.{Turn}
use Rattle.winnow_expression.specs.declared.turn.Turn.TheVariants.{Ended, Went}

-- ---- `IsFound`

-- both operators fit and are alike, or neither fits, or there is none
abbrev pub AreFound : {B : Type 0} → (B → B → Type 0) → Found B → Found B → Type 0
AreFound alike (Fits x) (Fits y) = alike x y
AreFound alike (Fits x) Unfit = ⊥
AreFound alike (Fits x) Absent = ⊥
AreFound alike Unfit (Fits y) = ⊥
AreFound alike Unfit Unfit = ⊤
AreFound alike Unfit Absent = ⊥
AreFound alike Absent (Fits y) = ⊥
AreFound alike Absent Unfit = ⊥
AreFound alike Absent Absent = ⊤

-- a failure of `IsFound` is one of the parser of operators
found-fails : {B T : Type 0} (fits : B → Type 0) (inner : Meaning B T) (partial : Bool)
    (a : Ahead T) (f : Failed T) → IsFound fits inner partial a (Fails f)
    → inner partial a (Fails f)
found-fails fits inner partial a (Backtracks b) h = absurd h
found-fails fits inner partial a (Cuts b) h = h
found-fails fits inner partial a (Needs n) h = h
found-fails fits inner partial a Refuses h = h

module _ {B T : Type 0} (alike : B → B → Type 0) (fits other : B → Type 0) (inner : Meaning B T) (d : IsDetermined alike inner) (to : (x y : B) → alike x y → fits x → other y) (from : (x y : B) → alike x y → other y → fits x) where
  -- answers of `IsFound` agree where alike operators fit both or neither
  pub agree-found : AnswersAgree (AreFound alike) (IsFound fits inner) (IsFound other inner)
  agree-found partial a (Gives (Fits x) b) (Gives (Fits y) c) s t h k = d partial a (Gives x b) (Gives y c) tt tt h.1 k.1
  agree-found partial a (Gives (Fits x) b) (Gives Unfit c) s t h (e, (y, (p, (n, k)))) =
      absurd (n (to x y (d partial a (Gives x b) (Gives y p) tt tt h.1 k).0 h.0))
  agree-found partial a (Gives (Fits x) b) (Gives Absent c) s t h (e, (p, k)) = absurd (d partial a (Gives x b) (Fails (Backtracks p)) tt tt h.1 k)
  agree-found partial a (Gives (Fits x) b) (Fails g) s t h k = d partial a (Gives x b) (Fails g) tt t h.1 (found-fails other inner partial a g k)
  agree-found partial a (Gives Unfit b) (Gives (Fits y) c) s t (e, (x, (p, (n, h)))) k =
      absurd (n (from x y (d partial a (Gives x p) (Gives y c) tt tt h k.1).0 k.0))
  agree-found partial a (Gives Unfit b) (Gives Unfit c) s t h k = (tt, sym h.0 ∙ k.0)
  agree-found partial a (Gives Unfit b) (Gives Absent c) s t (e, (x, (p, (n, h)))) (f, (q, k)) =
      absurd (d partial a (Gives x p) (Fails (Backtracks q)) tt tt h k)
  agree-found partial a (Gives Unfit b) (Fails g) s t (e, (x, (p, (n, h)))) k = d partial a (Gives x p) (Fails g) tt t h (found-fails other inner partial a g k)
  agree-found partial a (Gives Absent b) (Gives (Fits y) c) s t (e, (p, h)) k = absurd (d partial a (Fails (Backtracks p)) (Gives y c) tt tt h k.1)
  agree-found partial a (Gives Absent b) (Gives Unfit c) s t (e, (p, h)) (f, (y, (q, (n, k)))) =
      absurd (d partial a (Fails (Backtracks p)) (Gives y q) tt tt h k)
  agree-found partial a (Gives Absent b) (Gives Absent c) s t h k = (tt, sym h.0 ∙ k.0)
  agree-found partial a (Gives Absent b) (Fails g) s t (e, (p, h)) k =
      let back = d partial a (Fails (Backtracks p)) (Fails g) tt t h (found-fails other inner partial a g k) in
      absurd (subst (λ f. IsFound other inner partial a (Fails f)) (sym back) k)
  agree-found partial a (Fails f) (Gives (Fits y) c) s t h k = d partial a (Fails f) (Gives y c) s tt (found-fails fits inner partial a f h) k.1
  agree-found partial a (Fails f) (Gives Unfit c) s t h (e, (y, (q, (n, k)))) = d partial a (Fails f) (Gives y q) s tt (found-fails fits inner partial a f h) k
  agree-found partial a (Fails f) (Gives Absent c) s t h (e, (q, k)) =
      let back = d partial a (Fails f) (Fails (Backtracks q)) s tt (found-fails fits inner partial a f h) k in
      absurd (subst (λ g. IsFound fits inner partial a (Fails g)) back h)
  agree-found partial a (Fails f) (Fails g) s t h k =
      d partial a (Fails f) (Fails g) s t (found-fails fits inner partial a f h) (found-fails other inner partial a g k)

-- ---- Turns

-- both turns end the expression with the same value, or both go on with the same value
abbrev pub AreTurns : {O : Type 0} → (O → O → Type 0) → Turn O → Turn O → Type 0
AreTurns same (Ended x) (Ended y) = same x y
AreTurns same (Ended x) (Went y n) = ⊥
AreTurns same (Went x n) (Ended y) = ⊥
AreTurns same (Went x n) (Went y m) = same x y × (n ≡ m)

module _ {O T : Type 0} (same : O → O → Type 0) (inner other : Meaning O T) (n m : Option ℤ) (e : n ≡ m) (d : AnswersAgree same inner other) where
  -- turns that go on agree where their values do
  pub agree-went : AnswersAgree (AreTurns same) (Maps (WentOn n) inner) (Maps (WentOn m) other)
  agree-went partial a (Gives x b) (Gives y c) s t h k =
      let one = d partial a (Gives h.0 b) (Gives k.0 c) tt tt h.1.1 k.1.1 in
      (subst (λ u. AreTurns same u y) (sym h.1.0) (subst (λ u. AreTurns same (Went h.0 n) u) (sym k.1.0) (one.0, e)), one.1)
  agree-went partial a (Gives x b) (Fails g) s t h k = d partial a (Gives h.0 b) (Fails g) tt t h.1.1 k
  agree-went partial a (Fails f) (Gives y c) s t h k = d partial a (Fails f) (Gives k.0 c) s tt h k.1.1
  agree-went partial a (Fails f) (Fails g) s t h k = d partial a (Fails f) (Fails g) s t h k

-- ---- `Advancing`

-- the outcome is a turn that took something, the end of the expression, or a failure
abbrev Advanced : {O T : Type 0} → Ahead T → Outcome (Turn O) T → Type 0
Advanced a (Gives (Ended x) b) = ⊤
Advanced a (Gives (Went x n) b) = width b.tokens < width a.tokens
Advanced a (Fails f) = ⊤

-- the outcome is the cut for a turn that took nothing
abbrev Stayed : {O T : Type 0} → Meaning (Turn O) T → Bool → Ahead T → Outcome (Turn O) T → Type 0
Stayed {O} {T} turn partial a v = (x : O) × ((n : Option ℤ) × ((b : Ahead T)
    × (turn partial a (Gives (Went x n) b) × (width a.tokens ≤ width b.tokens) × (v ≡ Fails (Cuts b)))))

-- an answer of `Advancing` is one of the turn, or the cut for a turn that took nothing
advancing-cases : {O T : Type 0} (turn : Meaning (Turn O) T) (partial : Bool) (a : Ahead T)
    (v : Outcome (Turn O) T) → Advancing turn partial a v
    → (turn partial a v × Advanced a v) ⊎ Stayed turn partial a v
advancing-cases turn partial a (Gives (Ended x) b) h = inl (h, tt)
advancing-cases turn partial a (Gives (Went x n) b) h = inl h
advancing-cases turn partial a (Fails (Backtracks b)) h = inl (h, tt)
advancing-cases turn partial a (Fails (Cuts b)) (inl h) = inl (h, tt)
advancing-cases turn partial a (Fails (Cuts b)) (inr h) = inr (h.0, (h.1.0, (b, (h.1.1.0, h.1.1.1, refl))))
advancing-cases turn partial a (Fails (Needs n)) h = inl (h, tt)
advancing-cases turn partial a (Fails Refuses) h = inl (h, tt)

module _ {O T : Type 0} (same : O → O → Type 0) (a : Ahead T) where
  -- an outcome that took something agrees with no turn that took nothing
  advanced-stayed : (v : Outcome (Turn O) T) (y : O) (m : Option ℤ) (c : Ahead T) → Advanced a v
      → width a.tokens ≤ width c.tokens → Agree (AreTurns same) v (Gives (Went y m) c) → ⊥
  advanced-stayed (Gives (Ended x) b) y m c h l e = e.0
  advanced-stayed (Gives (Went x n) b) y m c h l e = omega (arith, h, l, ap (λ p. width p.tokens) e.1)
  advanced-stayed (Fails f) y m c h l e = e

  -- the same in the other order
  stayed-advanced : (w : Outcome (Turn O) T) (x : O) (n : Option ℤ) (b : Ahead T) → Advanced a w
      → width a.tokens ≤ width b.tokens → Agree (AreTurns same) (Gives (Went x n) b) w → ⊥
  stayed-advanced (Gives (Ended y) c) x n b h l e = e.0
  stayed-advanced (Gives (Went y m) c) x n b h l e = omega (arith, h, l, ap (λ p. width p.tokens) e.1)
  stayed-advanced (Fails g) x n b h l e = e

module _ {O T : Type 0} (same : O → O → Type 0) (turn other : Meaning (Turn O) T) (d : AnswersAgree (AreTurns same) turn other) where
  -- two answers of `Advancing` agree, by these cases
  cases-agree : (partial : Bool) (a : Ahead T) (v w : Outcome (Turn O) T) → IsGranted v
      → IsGranted w
      → (turn partial a v × Advanced a v) ⊎ Stayed turn partial a v
      → (other partial a w × Advanced a w) ⊎ Stayed other partial a w → Agree (AreTurns same) v w
  cases-agree partial a v w s t (inl h) (inl k) = d partial a v w s t h.0 k.0
  cases-agree partial a v w s t (inl h) (inr (y, (m, (c, (k, l, e))))) =
      absurd (advanced-stayed same a v y m c h.1 l (d partial a v (Gives (Went y m) c) s tt h.0 k))
  cases-agree partial a v w s t (inr (x, (n, (b, (h, l, e))))) (inl k) =
      absurd (stayed-advanced same a w x n b k.1 l (d partial a (Gives (Went x n) b) w tt t h k.0))
  cases-agree partial a v w s t (inr (x, (n, (b, (h, l, e))))) (inr (y, (m, (c, (k, j, f))))) =
      let place = (d partial a (Gives (Went x n) b) (Gives (Went y m) c) tt tt h k).1 in
      subst (λ u. Agree (AreTurns same) v u) (sym f) (subst (λ u. Agree (AreTurns same) u (Fails (Cuts c))) (sym e) (ap Cuts place))

  -- answers of `Advancing` agree where those of the turns do
  pub agree-advancing : AnswersAgree (AreTurns same) (Advancing turn) (Advancing other)
  agree-advancing partial a v w s t h k =
      cases-agree partial a v w s t (advancing-cases turn partial a v h) (advancing-cases other partial a w k)

-- ---- `Climbs`

-- an answer is granted also as that of the last turn
ended-granted : {O T : Type 0} (v : Outcome O T) → IsGranted v → IsGranted (ended v)
ended-granted (Gives x b) s = tt
ended-granted (Fails f) s = s

module _ {O T : Type 0} (same : O → O → Type 0) where
  -- answers that agree as those of the last turn agree
  ended-agree : (v w : Outcome O T) → Agree (AreTurns same) (ended v) (ended w) → Agree same v w
  ended-agree (Gives x b) (Gives y c) e = e
  ended-agree (Gives x b) (Fails g) e = e
  ended-agree (Fails f) (Gives y c) e = e
  ended-agree (Fails f) (Fails g) e = e

  -- the end of an expression agrees with no turn that goes on
  ended-went : (v : Outcome O T) (y : O) (m : Option ℤ) (c : Ahead T)
      → Agree (AreTurns same) (ended v) (Gives (Went y m) c) → ⊥
  ended-went (Gives x b) y m c e = e.0
  ended-went (Fails f) y m c e = e

  -- the same in the other order
  went-ended : (w : Outcome O T) (x : O) (n : Option ℤ) (b : Ahead T)
      → Agree (AreTurns same) (Gives (Went x n) b) (ended w) → ⊥
  went-ended (Gives y c) x n b e = e.0
  went-ended (Fails g) x n b e = e

module _ {O T : Type 0} (same : O → O → Type 0) (turn other : O → Option ℤ → Meaning (Turn O) T) (d : (x y : O) (n m : Option ℤ) → same x y → n ≡ m → AnswersAgree (AreTurns same) (turn x n) (other y m)) (partial : Bool) where
  -- turns from values that are the same end with answers that agree
  turns-agree : (us ws : List (O × Option ℤ)) (p q s t : O × Option ℤ) (a b c : Ahead T)
      (v w : Outcome O T) → IsGranted v → IsGranted w → same p.0 s.0 → p.1 ≡ s.1
      → InTurns turn partial us p q a b → InTurns other partial ws s t a c
      → turn q.0 q.1 partial b (ended v) → other t.0 t.1 partial c (ended w) → Agree same v w
  turns-agree [] [] p q s t a b c v w i j e f h k l m =
      let left = subst (λ z. turn p.0 p.1 partial z (ended v)) (sym h.1) (subst (λ z. turn z.0 z.1 partial b (ended v)) (sym h.0) l) in
      let right = subst (λ z. other s.0 s.1 partial z (ended w)) (sym k.1) (subst (λ z. other z.0 z.1 partial c (ended w)) (sym k.0) m) in
      ended-agree same v w (d p.0 s.0 p.1 s.1 e f partial a (ended v) (ended w) (ended-granted v i) (ended-granted w j) left right)
  turns-agree [] (u ∷ us) p q s t a b c v w i j e f h k l m =
      let left = subst (λ z. turn p.0 p.1 partial z (ended v)) (sym h.1) (subst (λ z. turn z.0 z.1 partial b (ended v)) (sym h.0) l) in
      absurd (ended-went same v u.0 u.1 k.0 (d p.0 s.0 p.1 s.1 e f partial a (ended v) (Gives (Went u.0 u.1) k.0) (ended-granted v i) tt left k.1.0))
  turns-agree (u ∷ us) [] p q s t a b c v w i j e f h k l m =
      let right = subst (λ z. other s.0 s.1 partial z (ended w)) (sym k.1) (subst (λ z. other z.0 z.1 partial c (ended w)) (sym k.0) m) in
      absurd (went-ended same w u.0 u.1 h.0 (d p.0 s.0 p.1 s.1 e f partial a (Gives (Went u.0 u.1) h.0) (ended w) tt (ended-granted w j) h.1.0 right))
  turns-agree (u ∷ us) (z ∷ zs) p q s t a b c v w i j e f h k l m =
      let one = d p.0 s.0 p.1 s.1 e f partial a (Gives (Went u.0 u.1) h.0) (Gives (Went z.0 z.1) k.0) tt tt h.1.0 k.1.0 in
      turns-agree us zs u q z t h.0 b c v w i j one.0.0 one.0.1 h.1.1 (subst (λ y. InTurns other partial zs z t y c) (sym one.1) k.1.1) l m

module _ {O T : Type 0} (same : O → O → Type 0) (turn other : O → Option ℤ → Meaning (Turn O) T) (d : (x y : O) (n m : Option ℤ) → same x y → n ≡ m → AnswersAgree (AreTurns same) (turn x n) (other y m)) where
  -- answers of `Climbs` agree where those of the turns do, from values that are the same
  pub agree-climbs : (p s : O × Option ℤ) → same p.0 s.0 → p.1 ≡ s.1
      → AnswersAgree same (Climbs turn p) (Climbs other s)
  agree-climbs p s e f partial a v w i j h k =
      turns-agree same turn other d partial h.0 k.0 p h.1.0 s k.1.0 a h.1.1.0 k.1.1.0 v w i j e f h.1.1.1.0 k.1.1.1.0 h.1.1.1.1 k.1.1.1.1
