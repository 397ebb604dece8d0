-- Parsers that take nothing have one answer, and so have values folded from the left.
use Rattle.std.proofs.Common.{◌≡◌, ℕ, List, [], ◌∷◌, None, refl, sym, ◌∙◌, ap, subst}
use Rattle.std.specs.Prelude.{IsTrue}
use Rattle.std.specs.List.{FoldsTo}
use Rattle.winnow_stream.specs.Source.{Source}
use Rattle.winnow_stream.specs.Front.{is_offset}
use Rattle.winnow_parser.specs.Outcome.{Ahead, after, Backtracks, Cuts, Needs, Refuses, Gives, Fails, Meaning}
use Rattle.winnow_parser.specs.Meanings.{Pair}
use Rattle.winnow_parser.specs.Taken.{IsFrontTaken}
use Rattle.winnow_parser.specs.Determined.{IsDetermined, AreBothSame, SlicesRespect}
use Rattle.winnow_parser.proofs.lemmas.DeterminedLemmas.{determined-maps, determined-pair}
use Rattle.winnow_combinator.specs.DeterminedLists.{AreSameEach, StepsRespect}
use Rattle.winnow_combinator.specs.Ending.{IsEof, IsFail}
use Rattle.winnow_combinator.specs.Repeat.{Repeats}
use Rattle.winnow_combinator.specs.Separated.{FoldsLeft, IsSeparatedFoldl1}
use Rattle.winnow_combinator.proofs.lemmas.AgreeingLemmas.{determined-repeat}

module _ {S T : Type 0} (is_slice : S → Source T → ℕ → Type 0) (alike : S → S → Type 0) (fronts : SlicesRespect is_slice alike) where
  -- an empty slice at the end is that of a front
  ends-front : (s : S) (a b : Ahead T) → a.tokens ≡ [] → is_slice s a.tokens 0
      → IsFrontTaken is_slice s a (after a 0)
  ends-front s a b e h = (0, (subst (λ r. IsTrue (is_offset r 0)) (sym e) refl, h, refl))

  -- `IsEof` has one answer
  pub determined-eof : IsDetermined alike (IsEof is_slice)
  determined-eof partial a (Gives u b) (Gives v c) s t h k =
      (fronts u v a (after a 0) (ends-front u a b h.0 h.3) (ends-front v a c k.0 k.3), sym h.2 ∙ k.2)
  determined-eof partial a (Gives u b) (Fails (Backtracks c)) s t h k = k.0 h.0
  determined-eof partial a (Gives u b) (Fails (Cuts c)) s t h k = k
  determined-eof partial a (Gives u b) (Fails (Needs n)) s t h k = cc
  determined-eof partial a (Gives u b) (Fails Refuses) s t h k = k
  determined-eof partial a (Fails (Backtracks b)) (Gives v c) s t h k = h.0 k.0
  determined-eof partial a (Fails (Cuts b)) (Gives v c) s t h k = h
  determined-eof partial a (Fails (Needs n)) (Gives v c) s t h k = cc
  determined-eof partial a (Fails Refuses) (Gives v c) s t h k = h
  determined-eof partial a (Fails (Backtracks b)) (Fails (Backtracks c)) s t h k = ap Backtracks (sym h.1 ∙ k.1)
  determined-eof partial a (Fails (Backtracks b)) (Fails (Cuts c)) s t h k = absurd k
  determined-eof partial a (Fails (Backtracks b)) (Fails (Needs n)) s t h k = absurd (h.0 k.0)
  determined-eof partial a (Fails (Backtracks b)) (Fails Refuses) s t h k = absurd k
  determined-eof partial a (Fails (Cuts b)) (Fails g) s t h k = absurd h
  determined-eof partial a (Fails (Needs n)) (Fails (Backtracks c)) s t h k = absurd (k.0 h.0)
  determined-eof partial a (Fails (Needs n)) (Fails (Cuts c)) s t h k = absurd k
  determined-eof partial a (Fails (Needs n)) (Fails (Needs m)) s t h k = ap Needs (h.2 ∙ sym k.2)
  determined-eof partial a (Fails (Needs n)) (Fails Refuses) s t h k = absurd k
  determined-eof partial a (Fails Refuses) (Fails g) s t h k = absurd h

module _ {T : Type 0} where
  -- `IsFail` has one answer
  pub determined-fail : {O : Type 0} (same : O → O → Type 0)
      → IsDetermined {O = O} {T = T} same IsFail
  determined-fail same partial a (Gives u b) w s t h k = absurd h
  determined-fail same partial a (Fails (Backtracks b)) (Gives v c) s t h k = k
  determined-fail same partial a (Fails (Backtracks b)) (Fails (Backtracks c)) s t h k = ap Backtracks (sym h ∙ k)
  determined-fail same partial a (Fails (Backtracks b)) (Fails (Cuts c)) s t h k = absurd k
  determined-fail same partial a (Fails (Backtracks b)) (Fails (Needs n)) s t h k = absurd k
  determined-fail same partial a (Fails (Backtracks b)) (Fails Refuses) s t h k = absurd k
  determined-fail same partial a (Fails (Cuts b)) w s t h k = absurd h
  determined-fail same partial a (Fails (Needs n)) w s t h k = absurd h
  determined-fail same partial a (Fails Refuses) w s t h k = absurd h

-- ---- Values folded from the left

module _ {O P : Type 0} (same : O → O → Type 0) (alike : P → P → Type 0) (step : O → P → O → Type 0) (respects : StepsRespect same alike step) where
  -- folding lists that are the same gives the same
  pub folds-respects : (x y l r : O) (ps qs : List P) → same x y → AreSameEach alike ps qs
      → FoldsTo step x ps l → FoldsTo step y qs r → same l r
  folds-respects x y l r [] [] e u h k = subst (λ o. same o r) h (subst (same x) k e)
  folds-respects x y l r [] (q ∷ qs) e u h k = absurd u
  folds-respects x y l r (p ∷ ps) [] e u h k = absurd u
  folds-respects x y l r (p ∷ ps) (q ∷ qs) e u h k =
      folds-respects h.0 k.0 l r ps qs (respects x y p q h.0 k.0 e u.0 h.1 k.1) u.1 h.2 k.2

module _ {O S T : Type 0} (same : O → O → Type 0) (alike : S → S → Type 0) (step : O → S × O → O → Type 0) (respects : StepsRespect same (AreBothSame alike same) step) (separator : Meaning S T) (inner : Meaning O T) (q : IsDetermined alike separator) (d : IsDetermined same inner) where
  -- `IsSeparatedFoldl1` has one answer where its parts have one
  pub determined-separated_foldl1 : IsDetermined same (IsSeparatedFoldl1 step separator inner)
  determined-separated_foldl1 =
      let pairs = Pair separator inner in
      let rest = Repeats 0 None pairs in
      let others = determined-repeat (AreBothSame alike same) 0 None pairs (determined-pair alike same separator inner q d) in
      let both = AreBothSame same (AreSameEach (AreBothSame alike same)) in
      determined-maps both same (FoldsLeft step)
      (λ x y l r e h k. folds-respects same (AreBothSame alike same) step respects x.0 y.0 l r x.1 y.1 e.0 e.1 h k)
      (Pair inner rest) (determined-pair same (AreSameEach (AreBothSame alike same)) inner rest d others)
