-- Text with escapes has one answer, where its parts have one.
use Rattle.std.specs.Prelude.{⊤}
use Rattle.std.proofs.Common.{Bool, true, false, List, [], ◌∷◌, Option, Some, None, refl, sym, ap, ◌∙◌, subst, inl, inr, arith}
use Rattle.winnow_stream.specs.Source.{width}
use Rattle.winnow_parser.specs.Outcome.{Ahead, Failed, Backtracks, Cuts, Needs, Refuses, Outcome, Gives, Fails, Meaning}
use Rattle.winnow_parser.specs.Meanings.{Pair, Second, IsPreceded, IsOpt}
use Rattle.winnow_parser.specs.Determined.{IsGrantedFailure, IsGranted, Agree, IsDetermined, AreSameIfAny, AreBothSame}
use Rattle.winnow_parser.proofs.lemmas.DeterminedLemmas.{determined-maps, determined-pair}
use Rattle.winnow_combinator.specs.DeterminedLists.{AreSameEach}
use Rattle.winnow_ascii.specs.declared.fragment.Fragment.TheVariants.{Normal, Escaped}
use Rattle.winnow_ascii.specs.Escaped.{IsAbsent, Escape, NextFragment, end_answer, UpToEnd, GivesInTurn, AllInTurn, IsEscaped, AreSameFragments}

-- ---- A part that backtracks

module _ {O T : Type 0} (same : O → O → Type 0) (inner : Meaning O T) (d : IsDetermined same inner) (partial : Bool) (a : Ahead T) where
  -- a parser that backtracks gives no value
  absent-gives : IsAbsent inner partial a → (x : O) (b : Ahead T) → inner partial a (Gives x b) → ⊥
  absent-gives h x b k = d partial a (Fails (Backtracks h.0)) (Gives x b) tt tt h.1 k

  -- a parser that backtracks fails in no other way
  absent-fails : IsAbsent inner partial a → (f : Failed T) → IsGrantedFailure f
      → IsOpt inner partial a (Fails f) → ⊥
  absent-fails h (Backtracks b) s k = k
  absent-fails h (Cuts b) s k = let e = d partial a (Fails (Backtracks h.0)) (Fails (Cuts b)) tt tt h.1 k in cc
  absent-fails h (Needs n) s k = let e = d partial a (Fails (Backtracks h.0)) (Fails (Needs n)) tt tt h.1 k in cc
  absent-fails h Refuses s k = s

  -- a failure of `IsOpt` is one of the inner parser
  optional-fails : (f : Failed T) → IsOpt inner partial a (Fails f) → inner partial a (Fails f)
  optional-fails (Backtracks b) k = absurd k
  optional-fails (Cuts b) k = k
  optional-fails (Needs n) k = k
  optional-fails Refuses k = k

-- ---- `Escape`

module _ {C P T : Type 0} (same : C → C → Type 0) (alike : P → P → Type 0) (control : Meaning C T) (escapable : Meaning P T) (d : IsDetermined same control) (e : IsDetermined alike escapable) where
  -- the second of two values is the same where both are
  second-same : (x y : C × P) (p q : P) → AreBothSame same alike x y → Second x p → Second y q
      → alike p q
  second-same x y p q h i j = subst (λ u. alike u q) i (subst (alike x.1) j h.1)

  -- the control character and then the escape have one answer
  determined-preceded : IsDetermined alike (IsPreceded control escapable)
  determined-preceded = determined-maps (AreBothSame same alike) alike Second second-same (Pair control escapable) (determined-pair same alike control escapable d e)

  -- a failure of `Escape` is one of the control character and the escape
  escape-fails : (partial : Bool) (a : Ahead T) (f : Failed T)
      → Escape control escapable partial a (Fails f)
      → IsPreceded control escapable partial a (Fails f)
  escape-fails partial a f (inl h) = inl (optional-fails same control d partial a f h)
  escape-fails partial a f (inr h) = inr h

  -- where the control character does not stand at the front, there is no other answer
  no-escape : (partial : Bool) (a : Ahead T) → IsAbsent control partial a → (f : Failed T)
      → IsGrantedFailure f → Escape control escapable partial a (Fails f) → ⊥
  no-escape partial a h f s (inl k) = absent-fails same control d partial a h f s k
  no-escape partial a h f s (inr k) = absent-gives same control d partial a h k.0 k.1.0 k.1.1.0

  -- `Escape` has one answer
  determined-escape : IsDetermined (AreSameIfAny alike) (Escape control escapable)
  determined-escape partial a (Gives (Some y) b) (Gives (Some z) c) s t h k = determined-preceded partial a (Gives y b) (Gives z c) tt tt h k
  determined-escape partial a (Gives (Some y) b) (Gives None c) s t h k =
      absurd (absent-gives same control d partial a k.1 h.0.0 h.1.1.0 h.1.1.1.0)
  determined-escape partial a (Gives None b) (Gives (Some z) c) s t h k =
      absurd (absent-gives same control d partial a h.1 k.0.0 k.1.1.0 k.1.1.1.0)
  determined-escape partial a (Gives None b) (Gives None c) s t h k = (tt, sym h.0 ∙ k.0)
  determined-escape partial a (Gives (Some y) b) (Fails g) s t h k = determined-preceded partial a (Gives y b) (Fails g) tt t h (escape-fails partial a g k)
  determined-escape partial a (Fails f) (Gives (Some z) c) s t h k = determined-preceded partial a (Fails f) (Gives z c) s tt (escape-fails partial a f h) k
  determined-escape partial a (Gives None b) (Fails g) s t h k = no-escape partial a h.1 g t k
  determined-escape partial a (Fails f) (Gives None c) s t h k = no-escape partial a k.1 f s h
  determined-escape partial a (Fails f) (Fails g) s t h k =
      determined-preceded partial a (Fails f) (Fails g) s t (escape-fails partial a f h) (escape-fails partial a g k)

-- ---- `NextFragment`

module _ {O C P T : Type 0} (one : O → O → Type 0) (same : C → C → Type 0) (alike : P → P → Type 0) (normal : Meaning O T) (control : Meaning C T) (escapable : Meaning P T) (n : IsDetermined one normal) (d : IsDetermined same control) (e : IsDetermined alike escapable) where
  -- an escape has one answer
  escape-once : IsDetermined (AreSameIfAny alike) (Escape control escapable)
  escape-once = determined-escape same alike control escapable d e

  -- where the normal parser gives a value, there is no other answer
  normal-alone : (partial : Bool) (a b : Ahead T) (x : O) (f : Failed T)
      → normal partial a (Gives x b) → IsGrantedFailure f → NextFragment normal control escapable partial a (Fails f) → ⊥
  normal-alone partial a b x f h s (inl k) = n partial a (Gives x b) (Fails f) tt s h (optional-fails one normal n partial a f k)
  normal-alone partial a b x f h s (inr k) = absent-gives one normal n partial a k.0 x b h

  -- where the normal parser backtracks and `Escape` answers, no failure is another answer
  escape-alone : (partial : Bool) (a b : Ahead T) (o : Option P) (f : Failed T)
      → IsAbsent normal partial a → Escape control escapable partial a (Gives o b)
      → IsGrantedFailure f → NextFragment normal control escapable partial a (Fails f) → ⊥
  escape-alone partial a b o f absent h s (inl k) = absent-fails one normal n partial a absent f s k
  escape-alone partial a b o f absent h s (inr k) = escape-once partial a (Gives o b) (Fails f) tt s h k.1

  -- `NextFragment` has one answer
  determined-fragment : IsDetermined (AreSameIfAny (AreSameFragments one alike))
      (NextFragment normal control escapable)
  determined-fragment partial a (Gives (Some (Normal x)) b) (Gives (Some (Normal y)) c) s t h k = n partial a (Gives x b) (Gives y c) tt tt h k
  determined-fragment partial a (Gives (Some (Normal x)) b) (Gives (Some (Escaped y)) c) s t h k = absurd (absent-gives one normal n partial a k.0 x b h)
  determined-fragment partial a (Gives (Some (Normal x)) b) (Gives None c) s t h k = absurd (absent-gives one normal n partial a k.0 x b h)
  determined-fragment partial a (Gives (Some (Normal x)) b) (Fails g) s t h k = normal-alone partial a b x g h t k
  determined-fragment partial a (Gives (Some (Escaped x)) b) (Gives (Some (Normal y)) c) s t h k = absurd (absent-gives one normal n partial a h.0 y c k)
  determined-fragment partial a (Gives (Some (Escaped x)) b) (Gives (Some (Escaped y)) c) s t h k = escape-once partial a (Gives (Some x) b) (Gives (Some y) c) tt tt h.1 k.1
  determined-fragment partial a (Gives (Some (Escaped x)) b) (Gives None c) s t h k = absurd ((escape-once partial a (Gives (Some x) b) (Gives None c) tt tt h.1 k.1).0)
  determined-fragment partial a (Gives (Some (Escaped x)) b) (Fails g) s t h k = escape-alone partial a b (Some x) g h.0 h.1 t k
  determined-fragment partial a (Gives None b) (Gives (Some (Normal y)) c) s t h k = absurd (absent-gives one normal n partial a h.0 y c k)
  determined-fragment partial a (Gives None b) (Gives (Some (Escaped y)) c) s t h k = absurd ((escape-once partial a (Gives None b) (Gives (Some y) c) tt tt h.1 k.1).0)
  determined-fragment partial a (Gives None b) (Gives None c) s t h k = (tt, (escape-once partial a (Gives None b) (Gives None c) tt tt h.1 k.1).1)
  determined-fragment partial a (Gives None b) (Fails g) s t h k = escape-alone partial a b None g h.0 h.1 t k
  determined-fragment partial a (Fails f) (Gives (Some (Normal y)) c) s t h k = normal-alone partial a c y f k s h
  determined-fragment partial a (Fails f) (Gives (Some (Escaped y)) c) s t h k = escape-alone partial a c (Some y) f k.0 k.1 s h
  determined-fragment partial a (Fails f) (Gives None c) s t h k = escape-alone partial a c None f k.0 k.1 s h
  determined-fragment partial a (Fails f) (Fails g) s t (inl h) (inl k) =
      n partial a (Fails f) (Fails g) s t (optional-fails one normal n partial a f h) (optional-fails one normal n partial a g k)
  determined-fragment partial a (Fails f) (Fails g) s t (inl h) (inr k) = absurd (absent-fails one normal n partial a k.0 f s h)
  determined-fragment partial a (Fails f) (Fails g) s t (inr h) (inl k) = absurd (absent-fails one normal n partial a h.0 g t k)
  determined-fragment partial a (Fails f) (Fails g) s t (inr h) (inr k) = escape-once partial a (Fails f) (Fails g) s t h.1 k.1

-- ---- All values

-- the answer at the end of the input agrees with itself
end-agrees : {O T : Type 0} (same : O → O → Type 0) (partial : Bool) (a : Ahead T)
    → Agree (AreSameIfAny same) (end_answer partial a) (end_answer partial a)
end-agrees same true a = refl
end-agrees same false a = (tt, refl)

module _ {O T : Type 0} (same : O → O → Type 0) (inner : Meaning (Option O) T) (d : IsDetermined (AreSameIfAny same) inner) where
  -- `UpToEnd` has one answer where the inner parser has one
  determined-up_to_end : IsDetermined (AreSameIfAny same) (UpToEnd inner)
  determined-up_to_end partial a v w s t (inl h) (inl k) = d partial a v w s t h.1 k.1
  determined-up_to_end partial a v w s t (inl h) (inr k) = absurd (h.0 k.0)
  determined-up_to_end partial a v w s t (inr h) (inl k) = absurd (k.0 h.0)
  determined-up_to_end partial a v w s t (inr h) (inr k) =
      subst (λ u. Agree (AreSameIfAny same) v u) (sym k.1) (subst (λ u. Agree (AreSameIfAny same) u (end_answer partial a)) (sym h.1) (end-agrees same partial a))

  -- two lists of values in turn from one place are the same, and their ends agree
  turns-agree : (partial : Bool) (xs ys : List O) (a : Ahead T) (v w : Outcome (Unit {0}) T)
      → IsGranted v → IsGranted w → GivesInTurn inner partial xs a v → GivesInTurn inner partial ys a w
      → AreSameEach same xs ys × Agree (λ p q. ⊤) v w
  turns-agree partial [] [] a (Gives u b) (Gives r c) s t h k =
      (tt, (tt, (d partial a (Gives None b) (Gives None c) tt tt h k).1))
  turns-agree partial [] [] a (Gives u b) (Fails g) s t h k = absurd (d partial a (Gives None b) (Fails g) tt t h k)
  turns-agree partial [] [] a (Fails f) (Gives r c) s t h k = absurd (d partial a (Fails f) (Gives None c) s tt h k)
  turns-agree partial [] [] a (Fails f) (Fails g) s t h k = (tt, d partial a (Fails f) (Fails g) s t h k)
  turns-agree partial [] (y ∷ ys) a (Gives u b) w s t h k = absurd ((d partial a (Gives None b) (Gives (Some y) k.0) tt tt h k.1.0).0)
  turns-agree partial [] (y ∷ ys) a (Fails f) w s t h k = absurd (d partial a (Fails f) (Gives (Some y) k.0) s tt h k.1.0)
  turns-agree partial (x ∷ xs) [] a v (Gives r c) s t h k = absurd ((d partial a (Gives (Some x) h.0) (Gives None c) tt tt h.1.0 k).0)
  turns-agree partial (x ∷ xs) [] a v (Fails g) s t h k = absurd (d partial a (Gives (Some x) h.0) (Fails g) tt t h.1.0 k)
  turns-agree partial (x ∷ xs) (y ∷ ys) a v w s t (b, (h, inl i)) (c, (k, inl j)) =
      let first = d partial a (Gives (Some x) b) (Gives (Some y) c) tt tt h k in
      let others = turns-agree partial xs ys b v w s t i.1 (subst (λ p. GivesInTurn inner partial ys p w) (sym first.1) j.1) in
      ((first.0, others.0), others.1)
  turns-agree partial (x ∷ xs) (y ∷ ys) a v w s t (b, (h, inl i)) (c, (k, inr j)) =
      let first = d partial a (Gives (Some x) b) (Gives (Some y) c) tt tt h k in
      absurd (omega (arith, i.0, j.0, ap (λ p. width p.tokens) first.1))
  turns-agree partial (x ∷ xs) (y ∷ ys) a v w s t (b, (h, inr i)) (c, (k, inl j)) =
      let first = d partial a (Gives (Some x) b) (Gives (Some y) c) tt tt h k in
      absurd (omega (arith, i.0, j.0, ap (λ p. width p.tokens) first.1))
  turns-agree partial (x ∷ xs) (y ∷ ys) a v w s t (b, (h, inr i)) (c, (k, inr j)) =
      let first = d partial a (Gives (Some x) b) (Gives (Some y) c) tt tt h k in (
        (first.0, subst (λ l. AreSameEach same l ys) (sym i.1) (subst (AreSameEach same []) (sym j.1) tt)),
        subst (λ u. Agree (λ p q. ⊤) v u) (sym j.2) (subst (λ u. Agree (λ p q. ⊤) u (Gives tt c)) (sym i.2) (tt, first.1)),
      )

  -- `AllInTurn` has one answer where the inner parser has one
  determined-all : IsDetermined (AreSameEach same) (AllInTurn inner)
  determined-all partial a (Gives xs b) (Gives ys c) s t h k =
      let both = turns-agree partial xs ys a (Gives tt b) (Gives tt c) tt tt h k in (both.0, both.1.1)
  determined-all partial a (Gives xs b) (Fails g) s t h k = (turns-agree partial xs k.0 a (Gives tt b) (Fails g) tt t h k.1).1
  determined-all partial a (Fails f) (Gives ys c) s t h k = (turns-agree partial h.0 ys a (Fails f) (Gives tt c) s tt h.1 k).1
  determined-all partial a (Fails f) (Fails g) s t h k = (turns-agree partial h.0 k.0 a (Fails f) (Fails g) s t h.1 k.1).1

-- `IsEscaped` has one answer where its parts have one
pub determined-escaped : {O C P T : Type 0} (one : O → O → Type 0) (same : C → C → Type 0)
    (alike : P → P → Type 0) (normal : Meaning O T) (control : Meaning C T)
    (escapable : Meaning P T) → IsDetermined one normal
    → IsDetermined same control → IsDetermined alike escapable
    → IsDetermined (AreSameEach (AreSameFragments one alike)) (IsEscaped normal control escapable)
determined-escaped one same alike normal control escapable n d e =
    let fragments = AreSameFragments one alike in
    let next = NextFragment normal control escapable in
    determined-all fragments (UpToEnd next)
    (determined-up_to_end fragments next (determined-fragment one same alike normal control escapable n d e))
