-- A combinator of parsers that have one answer has one answer.
use Rattle.std.proofs.Common.{ℕ, zero, suc, ◌-◌, Bool, true, false, List, [], ◌∷◌, Option, Some, None, inl, inr, refl, sym, subst, arith}
use Rattle.winnow_parser.specs.Outcome.{Ahead, Backtracks, Cuts, Needs, Refuses, Outcome, Gives, Fails, Meaning}
use Rattle.winnow_parser.specs.Meanings.{Maps, Pair, Second, IsPreceded, IsAlt2, IsOpt}
use Rattle.winnow_parser.specs.Determined.{IsGranted, Agree, IsDetermined, Respects, AreBothSame, AreSameIfAny}
use Rattle.winnow_parser.proofs.lemmas.DeterminedLemmas.{determined-returns, determined-maps, determined-pair, determined-alt2}
use Rattle.winnow_parser.proofs.lemmas.ImageLemmas.{determined-opt}
use Rattle.winnow_combinator.specs.Appended.{Appending, AppendingIf}
use Rattle.winnow_combinator.specs.Alt.{IsAlt3, IsAlt4, IsAlt5, IsAlt6, IsAlt7, IsAlt8, IsAlt9, IsAlt10}
use Rattle.winnow_combinator.specs.Cond.{IsSomeOf, IsCond}
use Rattle.winnow_combinator.specs.Counts.{Ascending, fewer}
use Rattle.winnow_combinator.specs.Gathering.{Gathered}
use Rattle.winnow_combinator.specs.Repeat.{Repeats}
use Rattle.winnow_combinator.specs.Separated.{Prepends, Chained, OrNone, IfNeeded, IsSeparated, Countable}
use Rattle.winnow_combinator.specs.DeterminedLists.{AreSameEach}
use Rattle.winnow_combinator.proofs.lemmas.AgreeingLemmas.{determined-repeat}

-- ---- A parser that is asked on a condition

module _ {O : Type 0} (same : O → O → Type 0) where
  -- values that are the same are the same in `Some`
  some-respects : Respects same (AreSameIfAny same) IsSomeOf
  some-respects x y p q e h k = subst (λ o. AreSameIfAny same o q) h (subst (AreSameIfAny same (Some x)) k e)

  -- `IsCond` has one answer where the inner parser has one
  pub determined-cond : {T : Type 0} (flag : Bool) (inner : Meaning O T)
      → IsDetermined same inner → IsDetermined (AreSameIfAny same) (IsCond flag inner)
  determined-cond true inner d = determined-maps same (AreSameIfAny same) IsSomeOf some-respects inner d
  determined-cond false inner d = determined-returns None (AreSameIfAny same) tt

-- ---- A result that is made of the value

module _ {O A T : Type 0} (same : O → O → Type 0) (alike : A → A → Type 0) (refusable : Type 0) (makes : O → A → Type 0) (respects : Respects same alike makes) (inner : Meaning O T) (d : IsDetermined same inner) where
  -- an answer of `Gathered` is one of `Maps`, unless memory was refused
  gathered-maps : (partial : Bool) (a : Ahead T) (v : Outcome A T) → IsGranted v
      → Gathered refusable makes inner partial a v → Maps makes inner partial a v
  gathered-maps partial a (Gives y b) s h = h
  gathered-maps partial a (Fails (Backtracks b)) s h = h
  gathered-maps partial a (Fails (Cuts b)) s h = h
  gathered-maps partial a (Fails (Needs n)) s h = h
  gathered-maps partial a (Fails Refuses) s h = absurd s

  -- `Gathered` has one answer where its parts have one
  pub determined-gathered : IsDetermined alike (Gathered refusable makes inner)
  determined-gathered partial a v w s t h k =
      determined-maps same alike makes respects inner d partial a v w s t (gathered-maps partial a v s h) (gathered-maps partial a w t k)

-- ---- A parser that appends to its error

module _ {O T : Type 0} (refusable : Type 0) (same : O → O → Type 0) (inner : Meaning O T) (d : IsDetermined same inner) where
  -- an answer of `Appending` is one of the inner parser, unless memory was refused
  appending-granted : (partial : Bool) (a : Ahead T) (v : Outcome O T) → IsGranted v
      → Appending refusable inner partial a v → inner partial a v
  appending-granted partial a (Gives x b) s h = h
  appending-granted partial a (Fails (Backtracks b)) s h = h
  appending-granted partial a (Fails (Cuts b)) s h = h
  appending-granted partial a (Fails (Needs n)) s h = h
  appending-granted partial a (Fails Refuses) s h = absurd s

  -- `Appending` has one answer where the inner parser has one
  pub determined-appending : IsDetermined same (Appending refusable inner)
  determined-appending partial a v w s t h k =
      d partial a v w s t (appending-granted partial a v s h) (appending-granted partial a w t k)

  -- so has `AppendingIf`
  pub determined-appending_if : (flag : Bool) → IsDetermined same (AppendingIf flag refusable inner)
  determined-appending_if true = determined-appending
  determined-appending_if false = d

-- ---- Counts

module _ {O T : Type 0} (same : O → O → Type 0) (inner : Meaning O T) (d : IsDetermined same inner) where
  -- `Ascending` has one answer where the inner parser has one
  pub determined-ascending : (least : ℕ) (greatest : Option ℕ)
      → IsDetermined same (Ascending least greatest inner)
  determined-ascending least None partial a v w s t h k = d partial a v w s t h k
  determined-ascending least (Some greatest) partial a v w s t (inl h) (inl k) = d partial a v w s t h.1 k.1
  determined-ascending least (Some greatest) partial a v w s t (inl h) (inr k) = absurd (omega (arith, h.0, k.0))
  determined-ascending least (Some greatest) partial a v w s t (inr h) (inl k) = absurd (omega (arith, h.0, k.0))
  determined-ascending least (Some greatest) partial a v w s t (inr h) (inr k) =
      subst (λ u. Agree same v u) (sym k.1) (subst (λ u. Agree same u (Fails (Cuts a))) (sym h.1) refl)

  -- an answer of `Countable` is one of the inner parser, unless memory was refused
  countable-passed : (partial : Bool) (a : Ahead T) (v : Outcome O T) → IsGranted v
      → Countable inner partial a v → inner partial a v
  countable-passed partial a (Gives x b) s h = h
  countable-passed partial a (Fails (Backtracks b)) s h = h
  countable-passed partial a (Fails (Cuts b)) s h = h
  countable-passed partial a (Fails (Needs n)) s h = h
  countable-passed partial a (Fails Refuses) s h = absurd s

  -- `Countable` has one answer where its parts have one
  pub determined-countable : IsDetermined same (Countable inner)
  determined-countable partial a v w s t h k = d partial a v w s t (countable-passed partial a v s h) (countable-passed partial a w t k)

-- ---- Values with separators between them

module _ {O S T : Type 0} (same : O → O → Type 0) (alike : S → S → Type 0) (separator : Meaning S T) (inner : Meaning O T) (q : IsDetermined alike separator) (d : IsDetermined same inner) where
  -- the second parts of pairs that are the same are the same
  pub second-respects : Respects (AreBothSame alike same) same Second
  second-respects x y p r e h k = subst (λ o. same o r) h (subst (same x.1) k e.1)

  -- lists of a first value and the others are the same where both parts are
  prepends-respects : Respects (AreBothSame same (AreSameEach same)) (AreSameEach same) Prepends
  prepends-respects x y p r e h k = subst (λ o. AreSameEach same o r) h (subst (AreSameEach same (x.0 ∷ x.1)) k e)

  -- lists that may be missing are the same where the options are
  or_none-respects : Respects (AreSameIfAny (AreSameEach same)) (AreSameEach same) OrNone
  or_none-respects (Some x) (Some y) p r e h k = subst (λ o. AreSameEach same o r) h (subst (AreSameEach same x) k e)
  or_none-respects (Some x) None p r e h k = absurd e
  or_none-respects None (Some y) p r e h k = absurd e
  or_none-respects None None p r e h k = subst (λ o. AreSameEach same o r) h (subst (AreSameEach same []) k tt)

  -- `Chained` has one answer where its parts have one
  determined-chained : (least : ℕ) (greatest : Option ℕ)
      → IsDetermined (AreSameEach same) (Chained least greatest separator inner)
  determined-chained least greatest =
      let next = IsPreceded separator inner in
      let others = Repeats (least - 1) (fewer greatest) next in
      let n = determined-maps (AreBothSame alike same) same Second second-respects (Pair separator inner) (determined-pair alike same separator inner q d) in
      determined-maps (AreBothSame same (AreSameEach same)) (AreSameEach same) Prepends prepends-respects (Pair inner others)
      (determined-pair same (AreSameEach same) inner others d (determined-repeat same (least - 1) (fewer greatest) next n))

  -- `IfNeeded` has one answer where its values have one
  determined-if_needed : (least : ℕ) (values : Meaning (List O) T)
      → IsDetermined (AreSameEach same) values
      → IsDetermined (AreSameEach same) (IfNeeded least values)
  determined-if_needed zero values v =
      determined-maps (AreSameIfAny (AreSameEach same)) (AreSameEach same) OrNone or_none-respects (IsOpt values) (determined-opt values (AreSameEach same) v)
  determined-if_needed (suc n) values v = v

  -- `IsSeparated` has one answer where its parts have one
  pub determined-separated : (least : ℕ) (greatest : Option ℕ)
      → IsDetermined (AreSameEach same) (IsSeparated least greatest separator inner)
  determined-separated least None = determined-if_needed least (Chained least None separator inner) (determined-chained least None)
  determined-separated least (Some zero) = determined-returns [] (AreSameEach same) tt
  determined-separated least (Some (suc n)) =
      determined-if_needed least (Chained least (Some (suc n)) separator inner) (determined-chained least (Some (suc n)))

-- ---- The first of several parsers that does not backtrack

module _ {O T : Type 0} (r : Type 0) (same : O → O → Type 0) where
  -- the first of three parsers has one answer where each has one
  pub determined-alt3 : (a b c : Meaning O T) → IsDetermined same a → IsDetermined same b
      → IsDetermined same c → IsDetermined same (IsAlt3 r a b c)
  determined-alt3 a b c da db dc = determined-alt2 r same (IsAlt2 r a b) c (determined-alt2 r same a b da db) dc

  -- the first of four parsers has one answer where each has one
  pub determined-alt4 : (a b c d : Meaning O T) → IsDetermined same a → IsDetermined same b
      → IsDetermined same c → IsDetermined same d → IsDetermined same (IsAlt4 r a b c d)
  determined-alt4 a b c d da db dc dd = determined-alt2 r same (IsAlt3 r a b c) d (determined-alt3 a b c da db dc) dd

  -- the first of five parsers has one answer where each has one
  pub determined-alt5 : (a b c d e : Meaning O T) → IsDetermined same a → IsDetermined same b
      → IsDetermined same c → IsDetermined same d → IsDetermined same e
      → IsDetermined same (IsAlt5 r a b c d e)
  determined-alt5 a b c d e da db dc dd de = determined-alt2 r same (IsAlt4 r a b c d) e (determined-alt4 a b c d da db dc dd) de

  -- the first of six parsers has one answer where each has one
  pub determined-alt6 : (a b c d e f : Meaning O T) → IsDetermined same a → IsDetermined same b
      → IsDetermined same c → IsDetermined same d → IsDetermined same e → IsDetermined same f
      → IsDetermined same (IsAlt6 r a b c d e f)
  determined-alt6 a b c d e f da db dc dd de df = determined-alt2 r same (IsAlt5 r a b c d e) f (determined-alt5 a b c d e da db dc dd de) df

  -- the first of seven parsers has one answer where each has one
  pub determined-alt7 : (a b c d e f g : Meaning O T) → IsDetermined same a
      → IsDetermined same b → IsDetermined same c → IsDetermined same d → IsDetermined same e
      → IsDetermined same f → IsDetermined same g → IsDetermined same (IsAlt7 r a b c d e f g)
  determined-alt7 a b c d e f g da db dc dd de df dg = determined-alt2 r same (IsAlt6 r a b c d e f) g (determined-alt6 a b c d e f da db dc dd de df) dg

  -- the first of eight parsers has one answer where each has one
  pub determined-alt8 : (a b c d e f g h : Meaning O T) → IsDetermined same a
      → IsDetermined same b → IsDetermined same c → IsDetermined same d → IsDetermined same e
      → IsDetermined same f → IsDetermined same g → IsDetermined same h
      → IsDetermined same (IsAlt8 r a b c d e f g h)
  determined-alt8 a b c d e f g h da db dc dd de df dg dh = determined-alt2 r same (IsAlt7 r a b c d e f g) h (determined-alt7 a b c d e f g da db dc dd de df dg) dh

  -- the first of nine parsers has one answer where each has one
  pub determined-alt9 : (a b c d e f g h i : Meaning O T) → IsDetermined same a
      → IsDetermined same b → IsDetermined same c → IsDetermined same d → IsDetermined same e
      → IsDetermined same f → IsDetermined same g → IsDetermined same h → IsDetermined same i
      → IsDetermined same (IsAlt9 r a b c d e f g h i)
  determined-alt9 a b c d e f g h i da db dc dd de df dg dh di = determined-alt2 r same (IsAlt8 r a b c d e f g h) i (determined-alt8 a b c d e f g h da db dc dd de df dg dh) di

  -- the first of ten parsers has one answer where each has one
  pub determined-alt10 : (a b c d e f g h i j : Meaning O T) → IsDetermined same a
      → IsDetermined same b → IsDetermined same c → IsDetermined same d → IsDetermined same e
      → IsDetermined same f → IsDetermined same g → IsDetermined same h → IsDetermined same i
      → IsDetermined same j → IsDetermined same (IsAlt10 r a b c d e f g h i j)
  determined-alt10 a b c d e f g h i j da db dc dd de df dg dh di dj = determined-alt2 r same (IsAlt9 r a b c d e f g h i) j (determined-alt9 a b c d e f g h i da db dc dd de df dg dh di) dj
