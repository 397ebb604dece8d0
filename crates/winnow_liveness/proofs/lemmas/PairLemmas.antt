-- One parser after another, and the first of two.
use Rattle.std.proofs.Common.{true, inl, inr, sym, subst}
use Rattle.winnow_parser.specs.Outcome.{Ahead, Backtracks, Cuts, Needs, Refuses, Gives, Fails, Meaning}
use Rattle.winnow_parser.specs.Laws.{longer, IsParser}
use Rattle.winnow_parser.specs.Meanings.{Pair, IsAlt2}
use Rattle.winnow_parser.specs.Determined.{IsDetermined}
use Rattle.winnow_liveness.specs.Live.{IsLive, IsQuiet}

module _ {O P T : Type 0} (first : Meaning O T) (second : Meaning P T) (p : IsParser first)
    (same : O → O → Type 0) (d : IsDetermined same first) (live : IsLive first)
    (also : IsLive second) where
  -- where the first parser gives a value, and the second has no settled answer after it, the pair
  -- has none
  pair-quiet : (a b : Ahead T) (x : O) → first true a (Gives x b) → IsQuiet second b
      → IsQuiet (Pair first second) a
  pair-quiet a b x h q (Gives y c) (e, (k, m)) s =
      let at = (d true a (Gives x b) (Gives y.0 e) tt tt h k).1 in
      q (Gives y.1 c) (subst (λ l. second true l (Gives y.1 c)) (sym at) m) tt
  pair-quiet a b x h q (Fails (Backtracks c)) (inl k) s = d true a (Gives x b) (Fails (Backtracks c)) tt tt h k
  pair-quiet a b x h q (Fails (Backtracks c)) (inr (y, (e, (k, m)))) s =
      let at = (d true a (Gives x b) (Gives y e) tt tt h k).1 in
      q (Fails (Backtracks c)) (subst (λ l. second true l (Fails (Backtracks c))) (sym at) m) tt
  pair-quiet a b x h q (Fails (Cuts c)) (inl k) s = d true a (Gives x b) (Fails (Cuts c)) tt tt h k
  pair-quiet a b x h q (Fails (Cuts c)) (inr (y, (e, (k, m)))) s =
      let at = (d true a (Gives x b) (Gives y e) tt tt h k).1 in
      q (Fails (Cuts c)) (subst (λ l. second true l (Fails (Cuts c))) (sym at) m) tt
  pair-quiet a b x h q (Fails (Needs n)) k s = s
  pair-quiet a b x h q (Fails Refuses) k s = s

  -- where the first parser has no settled answer, the pair has none
  first-quiet : (a : Ahead T) → IsQuiet first a → IsQuiet (Pair first second) a
  first-quiet a q (Gives y c) (e, (k, m)) s = q (Gives y.0 e) k tt
  first-quiet a q (Fails (Backtracks c)) (inl k) s = q (Fails (Backtracks c)) k tt
  first-quiet a q (Fails (Backtracks c)) (inr (y, (e, (k, m)))) s = q (Gives y e) k tt
  first-quiet a q (Fails (Cuts c)) (inl k) s = q (Fails (Cuts c)) k tt
  first-quiet a q (Fails (Cuts c)) (inr (y, (e, (k, m)))) s = q (Gives y e) k tt
  first-quiet a q (Fails (Needs n)) k s = s
  first-quiet a q (Fails Refuses) k s = s

  -- one parser after another
  pub IsLive-Pair : IsLive (Pair first second)
  IsLive-Pair a need more (inl h) l = first-quiet (longer more a) (live a need more h l)
  IsLive-Pair a need more (inr (x, (b, (h, k)))) l =
      pair-quiet (longer more a) (longer more b) x (p.stable more true a (Gives x b) tt h) (also b need more k l)

module _ {O T : Type 0} (refusable : Type 0) (first second : Meaning O T) (p : IsParser first)
    (same : O → O → Type 0) (d : IsDetermined same first) (live : IsLive first)
    (also : IsLive second) where
  -- where the first parser backtracks, and the second has no settled answer, neither has `alt`
  second-quiet : (a b : Ahead T) → first true a (Fails (Backtracks b)) → IsQuiet second a
      → IsQuiet (IsAlt2 refusable first second) a
  second-quiet a b h q (Gives y c) (inl k) s = d true a (Gives y c) (Fails (Backtracks b)) tt tt k h
  second-quiet a b h q (Gives y c) (inr (e, (k, m))) s = q (Gives y c) m tt
  second-quiet a b h q (Fails (Backtracks c)) (e, (k, m)) s = q (Fails (Backtracks c)) m tt
  second-quiet a b h q (Fails (Cuts c)) (inl k) s =
      let e = d true a (Fails (Cuts c)) (Fails (Backtracks b)) tt tt k h in cc
  second-quiet a b h q (Fails (Cuts c)) (inr (e, (k, m))) s = q (Fails (Cuts c)) m tt
  second-quiet a b h q (Fails (Needs n)) k s = s
  second-quiet a b h q (Fails Refuses) k s = s

  -- where the first parser has no settled answer, neither has `alt`
  alt-quiet : (a : Ahead T) → IsQuiet first a → IsQuiet (IsAlt2 refusable first second) a
  alt-quiet a q (Gives y c) (inl k) s = q (Gives y c) k tt
  alt-quiet a q (Gives y c) (inr (e, (k, m))) s = q (Fails (Backtracks e)) k tt
  alt-quiet a q (Fails (Backtracks c)) (e, (k, m)) s = q (Fails (Backtracks e)) k tt
  alt-quiet a q (Fails (Cuts c)) (inl k) s = q (Fails (Cuts c)) k tt
  alt-quiet a q (Fails (Cuts c)) (inr (e, (k, m))) s = q (Fails (Backtracks e)) k tt
  alt-quiet a q (Fails (Needs n)) k s = s
  alt-quiet a q (Fails Refuses) k s = s

  -- the first of two
  pub IsLive-IsAlt2 : IsLive (IsAlt2 refusable first second)
  IsLive-IsAlt2 a need more (inl h) l = alt-quiet (longer more a) (live a need more h l)
  IsLive-IsAlt2 a need more (inr (c, (h, k))) l =
      second-quiet (longer more a) (longer more c) (p.stable more true a (Fails (Backtracks c)) tt h) (also a need more k l)
