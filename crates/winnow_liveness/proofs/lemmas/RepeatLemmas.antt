-- A parser that is called again and again.
use Rattle.std.proofs.Common.{◌≡◌, ℕ, suc, ◌+◌, ◌<◌, ◌≤◌, true, List, [], ◌∷◌, length, Option, Some, inl, inr, ap, sym, ◌∙◌, subst, arith}
use Rattle.std.specs.Prelude.{◌⊎◌}
use Rattle.winnow_stream.specs.Source.{Source}
use Rattle.winnow_parser.specs.Outcome.{Ahead, Backtracks, Cuts, Needs, Refuses, Outcome, Gives, Fails, Meaning}
use Rattle.winnow_parser.specs.Laws.{longer, IsSettled, IsParser}
use Rattle.winnow_parser.specs.Determined.{IsDetermined}
use Rattle.winnow_combinator.specs.Counts.{IsBelow}
use Rattle.winnow_combinator.specs.Repeat.{Taking, InTurn, Repeats, IsParser-Taking}
use Rattle.winnow_combinator.proofs.lemmas.AgreeingLemmas.{determined-taking}
use Rattle.winnow_liveness.specs.Live.{IsLive, IsQuiet}
use Rattle.winnow_liveness.proofs.lemmas.ImageLemmas.{IsLive-Taking}

module _ {O T : Type 0} (least : ℕ) (greatest : Option ℕ) (step : Meaning O T) (same : O → O → Type 0)
    (d : IsDetermined same step) where
  -- after n values the repetition is through, or fails
  abbrev Stops : {P : Type 0} → ℕ → Ahead T → Outcome P T → Type 0
  Stops n b (Gives x c) = (greatest ≡ Some n) ⊎ ((e : Ahead T) × step true b (Fails (Backtracks e)))
  Stops n b (Fails f) = step true b (Fails f)

  -- a number below the greatest count m is less than m
  below-full : (n m : ℕ) → greatest ≡ Some m → IsBelow greatest n → n < m
  below-full n m e b = subst (λ g. IsBelow g n) e b

  -- it does not where the parser has no settled answer, and one more value is allowed
  never-stops : {P : Type 0} (n : ℕ) (b : Ahead T) (v : Outcome P T) → IsBelow greatest n
      → IsQuiet step b → IsSettled v → Stops n b v → ⊥
  never-stops n b (Gives x c) below q s (inl full) = omega (arith, below-full n n full below)
  never-stops n b (Gives x c) below q s (inr (e, back)) = q (Fails (Backtracks e)) back tt
  never-stops n b (Fails (Backtracks e)) below q s h = q (Fails (Backtracks e)) h tt
  never-stops n b (Fails (Cuts e)) below q s h = q (Fails (Cuts e)) h tt
  never-stops n b (Fails (Needs k)) below q s h = s
  never-stops n b (Fails Refuses) below q s h = s

  -- nor where the parser gives one more value, and more than n are allowed
  goes-on : {P : Type 0} (n m : ℕ) (b c : Ahead T) (x : O) (v : Outcome P T) → n ≤ m
      → IsBelow greatest m → step true b (Gives x c) → IsSettled v → Stops n b v → ⊥
  goes-on n m b c x (Gives y e) l below h s (inl full) = omega (arith, l, below-full m n full below)
  goes-on n m b c x (Gives y e) l below h s (inr (f, back)) = d true b (Gives x c) (Fails (Backtracks f)) tt tt h back
  goes-on n m b c x (Fails (Backtracks e)) l below h s k = d true b (Gives x c) (Fails (Backtracks e)) tt tt h k
  goes-on n m b c x (Fails (Cuts e)) l below h s k = d true b (Gives x c) (Fails (Cuts e)) tt tt h k
  goes-on n m b c x (Fails (Needs k)) l below h s j = s
  goes-on n m b c x (Fails Refuses) l below h s j = s

  -- where some values are followed by no settled answer, the repetition has none
  turns-quiet : {P : Type 0} (xs ys : List O) (n k : ℕ) (a b c : Ahead T) (v : Outcome P T)
      → k ≡ n + length ys → IsBelow greatest (n + length xs) → InTurn step true xs a b → IsQuiet step b
      → InTurn step true ys a c → IsSettled v → Stops k c v → ⊥
  turns-quiet [] [] n k a b c v e below at q to s h =
      let same_k : k ≡ n + 0 = e in
      never-stops (n + 0) b v below q s (subst (λ p. Stops (n + 0) p v) (sym to ∙ at) (subst (λ j. Stops j c v) same_k h))
  turns-quiet [] (y ∷ ys) n k a b c v e below at q (f, (g, t)) s h =
      q (Gives y f) (subst (λ p. step true p (Gives y f)) at g) tt
  turns-quiet (x ∷ xs) [] n k a b c v e below (f, (g, t)) q to s h =
      let l : k ≤ n + suc (length xs) = omega (arith, e) in
      goes-on k (n + suc (length xs)) a f x v l below g s (subst (λ p. Stops k p v) (sym to) h)
  turns-quiet (x ∷ xs) (y ∷ ys) n k a b c v e below (f, (g, t)) q (i, (j, u)) s h =
      let at = (d true a (Gives x f) (Gives y i) tt tt g j).1 in
      let e2 : k ≡ suc n + length ys = omega (arith, e) in
      let same_n : n + suc (length xs) ≡ suc n + length xs = omega arith in
      turns-quiet xs ys (suc n) k f b c v e2 (subst (IsBelow greatest) same_n below) t q
      (subst (λ p. InTurn step true ys p c) (sym at) u) s h

module _ {O T : Type 0} {step : Meaning O T} (p : IsParser step) where
  -- values in turn are the same when more input follows
  turns-longer : (more : Source T) (xs : List O) (a b : Ahead T) → InTurn step true xs a b
      → InTurn step true xs (longer more a) (longer more b)
  turns-longer more [] a b e = ap (longer more) e
  turns-longer more (x ∷ xs) a b t =
      (longer more t.0, (p.stable more true a (Gives x t.0) tt t.1.0, turns-longer more xs t.0 b t.1.1))

module _ {O T : Type 0} (least : ℕ) (greatest : Option ℕ) (inner : Meaning O T) (p : IsParser inner)
    (same : O → O → Type 0) (d : IsDetermined same inner) (live : IsLive inner) where
  start : (xs : List O) → length xs ≡ 0 + length xs
  start xs = omega arith

  -- where some values are followed by no settled answer, a repetition has no settled answer
  repeats-quiet : (xs : List O) (a b : Ahead T) → IsBelow greatest (length xs)
      → InTurn (Taking inner) true xs a b → IsQuiet (Taking inner) b → IsQuiet (Repeats least greatest inner) a
  repeats-quiet xs a b below t q (Gives ys c) (u, enough, inl full) s =
      turns-quiet least greatest (Taking inner) same (determined-taking same inner d) xs ys 0 (length ys) a b c (Gives ys c) (omega arith) (subst (IsBelow greatest) (start xs) below) t q u s (inl full)
  repeats-quiet xs a b below t q (Gives ys c) (u, enough, inr (few, more)) s =
      turns-quiet least greatest (Taking inner) same (determined-taking same inner d) xs ys 0 (length ys) a b c (Gives ys c) (omega arith) (subst (IsBelow greatest) (start xs) below) t q u s (inr more.2)
  repeats-quiet xs a b below t q (Fails f) (ys, (c, (u, few, h))) s =
      turns-quiet least greatest (Taking inner) same (determined-taking same inner d) {P = List O} xs ys 0 (length ys) a b c (Fails f) (omega arith) (subst (IsBelow greatest) (start xs) below) t q u s h.1

  -- a repetition
  pub IsLive-Repeats : IsLive (Repeats least greatest inner)
  IsLive-Repeats a need more (xs, (b, (t, below, h))) l =
      repeats-quiet xs (longer more a) (longer more b) below (turns-longer (IsParser-Taking p) more xs a b t)
      (IsLive-Taking inner live b need more h.1 l)
