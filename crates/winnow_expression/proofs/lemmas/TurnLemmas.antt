-- The answers of a turn: an operator more, or the end of the expression.
use Rattle.std.proofs.Common.{◌≡◌, ◌≤◌, refl, ap, subst, inl, inr}
use Rattle.std.specs.Prelude.{ℤ, Bool, Option}
use Rattle.winnow_stream.specs.Source.{width}
use Rattle.winnow_parser.specs.Outcome.{Ahead, Failed, Backtracks, Cuts, Needs, Refuses, Outcome, Gives, Fails, Meaning}
use Rattle.winnow_expression.specs.Levels.{Admits, MayFollow}
use Rattle.winnow_expression.specs.Powers.{power_of, right_of, alone_of, operator_of}
use Rattle.winnow_expression.specs.Found.{Fits, Unfit, Absent, IsFound}
use Rattle.winnow_expression.specs.Turns.{IsJoined, IsFollowed, IsTurn, Advancing}
use Rattle.winnow_expression.specs.declared.level.Level.{Level}
use Rattle.winnow_expression.specs.declared.operators.Infix.{Infix}
use Rattle.winnow_expression.specs.declared.operators.Parts.{Parts}
use Rattle.winnow_expression.specs.declared.turn.Turn.{Turn}
use Rattle.winnow_expression.specs.declared.turn.Turn.TheVariants.{Ended, Went}
use Rattle.winnow_expression.proofs.lemmas.ThenLemmas.{Then-goes}

module _ {O B C T : Type 0} (postfixes : Meaning (ℤ × B) T) (after : B → O → Meaning O T) (infixes : Meaning (Infix C) T) (joins : O → C → O → Meaning O T) (side : Level → Meaning O T) (level : Level) (x : O) (alone : Option ℤ) (partial : Bool) where
  -- what a turn means without a postfix operator
  abbrev pub Joins : Meaning (Turn O) T
  Joins = IsFollowed postfixes after infixes joins side level x alone Absent

  -- what a turn means
  abbrev pub Turning : Meaning (Turn O) T
  Turning = IsTurn postfixes after infixes joins side level x alone

  -- at an infix operator that does not fit the expression ends
  pub joins-unfit : (a b c : Ahead T) (i : Infix C) (power : ℤ) → a ≡ b → power ≡ power_of i
      → ¬ (MayFollow level alone power) → infixes partial a (Gives i c)
      → Joins partial a (Gives (Ended x) b)
  joins-unfit a b c i power e p n h =
      (Unfit, (b, ((e, (i, (c, (subst (λ k. ¬ (MayFollow level alone k)) p n, h)))), (refl, refl))))

  -- an infix operator that fits is there
  joins-fits : (a b : Ahead T) (i : Infix C) (power : ℤ) → power ≡ power_of i
      → MayFollow level alone power → infixes partial a (Gives i b)
      → IsFound (λ j. MayFollow level alone (power_of j)) infixes partial a (Gives (Fits i) b)
  joins-fits a b i power p fits h = (subst (MayFollow level alone) p fits, h)

  -- the right side of an infix operator fails
  pub joins-side : (a b : Ahead T) (i : Infix C) (q : Parts C) (f : Failed T)
      → q.power ≡ power_of i → q.right ≡ right_of i → MayFollow level alone q.power
      → infixes partial a (Gives i b) → side q.right partial b (Fails f)
      → Joins partial a (Fails f)
  joins-side a b i q f p r fits h m =
      Then-goes (IsFound (λ j. MayFollow level alone (power_of j)) infixes) (IsJoined postfixes after infixes joins side level x) partial a b (Fits i) (Fails f) (joins-fits a b i q.power p fits h)
      (inl (subst (λ l. side l partial b (Fails f)) r m))

  -- an infix operator and its right side are there, and it cannot be applied
  pub joins-fails : (a b c : Ahead T) (i : Infix C) (q : Parts C) (y : O) (f : Failed T)
      → q.power ≡ power_of i → q.right ≡ right_of i → q.operator ≡ operator_of i
      → MayFollow level alone q.power → infixes partial a (Gives i b)
      → side q.right partial b (Gives y c) → joins x q.operator y partial c (Fails f)
      → Joins partial a (Fails f)
  joins-fails a b c i q y f p r o fits h m n =
      Then-goes (IsFound (λ j. MayFollow level alone (power_of j)) infixes) (IsJoined postfixes after infixes joins side level x) partial a b (Fits i) (Fails f) (joins-fits a b i q.power p fits h)
      (inr (y, (c, (subst (λ l. side l partial b (Gives y c)) r m, subst (λ z. joins x z y partial c (Fails f)) o n))))

  -- an infix operator is applied
  pub joins-gives : (a b c d : Ahead T) (i : Infix C) (q : Parts C) (y z : O)
      → q.power ≡ power_of i → q.right ≡ right_of i → q.alone ≡ alone_of i
      → q.operator ≡ operator_of i → MayFollow level alone q.power → infixes partial a (Gives i b)
      → side q.right partial b (Gives y c) → joins x q.operator y partial c (Gives z d)
      → Joins partial a (Gives (Went z q.alone) d)
  joins-gives a b c d i q y z p r s o fits h m n =
      Then-goes (IsFound (λ j. MayFollow level alone (power_of j)) infixes) (IsJoined postfixes after infixes joins side level x) partial a b (Fits i) (Gives (Went z q.alone) d) (joins-fits a b i q.power p fits h)
      (y, (c, (subst (λ l. side l partial b (Gives y c)) r m, (z, (ap (Went z) s, subst (λ w. joins x w y partial c (Gives z d)) o n)))))

  -- at a postfix operator that does not fit the expression ends
  pub turns-unfit : (a b c : Ahead T) (p : ℤ × B) → a ≡ b → ¬ (Admits level p.0)
      → postfixes partial a (Gives p c) → Turning partial a (Gives (Ended x) b)
  turns-unfit a b c p e n h = (Unfit, (b, ((e, (p, (c, (n, h)))), (refl, refl))))

  -- a postfix operator cannot be applied
  pub turns-fails : (a b : Ahead T) (p : ℤ × B) (f : Failed T) → Admits level p.0
      → postfixes partial a (Gives p b) → after p.1 x partial b (Fails f)
      → Turning partial a (Fails f)
  turns-fails a b p f fits h n =
      Then-goes (IsFound (λ k. Admits level k.0) postfixes) (IsFollowed postfixes after infixes joins side level x alone) partial a b (Fits p) (Fails f) (fits, h) n

  -- a postfix operator is applied
  pub turns-gives : (a b c : Ahead T) (p : ℤ × B) (y : O) → Admits level p.0
      → postfixes partial a (Gives p b) → after p.1 x partial b (Gives y c)
      → Turning partial a (Gives (Went y alone) c)
  turns-gives a b c p y fits h n =
      Then-goes (IsFound (λ k. Admits level k.0) postfixes) (IsFollowed postfixes after infixes joins side level x alone) partial a b (Fits p) (Gives (Went y alone) c) (fits, h) (y, (refl, n))

  -- without a postfix operator the turn is that of an infix operator
  pub turns-absent : (a b c : Ahead T) (v : Outcome (Turn O) T) → a ≡ b
      → postfixes partial a (Fails (Backtracks c)) → Joins partial b v → Turning partial a v
  turns-absent a b c v e h n =
      Then-goes (IsFound (λ k. Admits level k.0) postfixes) (IsFollowed postfixes after infixes joins side level x alone) partial a b Absent v (e, (c, h)) n

module _ {O T : Type 0} (turn : Meaning (Turn O) T) (partial : Bool) (a : Ahead T) where
  -- a failure of a turn is one of the turn that takes something
  pub advancing-fails : (f : Failed T) → turn partial a (Fails f)
      → Advancing turn partial a (Fails f)
  advancing-fails (Backtracks b) h = h
  advancing-fails (Cuts b) h = inl h
  advancing-fails (Needs n) h = h
  advancing-fails Refuses h = h

  -- a turn that takes nothing is cut
  pub advancing-stays : (b : Ahead T) (x : O) (alone : Option ℤ)
      → turn partial a (Gives (Went x alone) b) → width a.tokens ≤ width b.tokens
      → Advancing turn partial a (Fails (Cuts b))
  advancing-stays b x alone h l = inr (x, (alone, (h, l)))
