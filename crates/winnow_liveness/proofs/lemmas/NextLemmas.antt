-- A parser, and then one that is made of its value.
use Rattle.std.proofs.Common.{◌≡◌, true, inl, inr, sym, subst}
use Rattle.winnow_parser.specs.Outcome.{Ahead, Backtracks, Cuts, Needs, Refuses, Outcome, Gives, Fails, Meaning}
use Rattle.winnow_parser.specs.Laws.{longer, IsParser}
use Rattle.winnow_parser.specs.Determined.{IsDetermined, Respects}
use Rattle.winnow_parser.specs.FlatMap.{FlatMaps, IsParser-FlatMaps}
use Rattle.winnow_parser.proofs.lemmas.MadeLemmas.{determined-flat_map}
use Rattle.winnow_liveness.specs.Live.{IsLive, IsQuiet, IsPunctual}

module _ {O P Q T : Type 0} (makes : O → Q → Type 0) (means : Q → Meaning P T) (first : Meaning O T)
    (same : O → O → Type 0) (one : Respects same ◌≡◌ makes) (p : IsParser first)
    (d : IsDetermined same first) (live : IsLive first) (all : (q : Q) → IsLive (means q)) where
  -- where the first parser gives a value, an answer of both is one of the parser that is made of it
  made-answers : (a b : Ahead T) (x : O) (q : Q) (z : O) (e : Ahead T) (r : Q) (v : Outcome P T)
      → first true a (Gives x b) → makes x q → first true a (Gives z e) → makes z r
      → means r true e v → means q true b v
  made-answers a b x q z e r v h m k n g =
      let at = d true a (Gives x b) (Gives z e) tt tt h k in
      subst (λ j. means j true b v) (sym (one x z q r at.0 m n)) (subst (λ l. means r true l v) (sym at.1) g)

  -- where the first parser gives a value, and the parser that it makes has no settled answer after
  -- it, both have none
  next-quiet : (a b : Ahead T) (x : O) (q : Q) → first true a (Gives x b) → makes x q
      → IsQuiet (means q) b → IsQuiet (FlatMaps makes means first) a
  next-quiet a b x q h m quiet (Gives y c) (z, (e, (r, (k, n, g)))) s =
      quiet (Gives y c) (made-answers a b x q z e r (Gives y c) h m k n g) tt
  next-quiet a b x q h m quiet (Fails (Backtracks c)) (inl k) s = d true a (Gives x b) (Fails (Backtracks c)) tt tt h k
  next-quiet a b x q h m quiet (Fails (Backtracks c)) (inr (z, (e, (r, (k, n, g))))) s =
      quiet (Fails (Backtracks c)) (made-answers a b x q z e r (Fails (Backtracks c)) h m k n g) tt
  next-quiet a b x q h m quiet (Fails (Cuts c)) (inl k) s = d true a (Gives x b) (Fails (Cuts c)) tt tt h k
  next-quiet a b x q h m quiet (Fails (Cuts c)) (inr (z, (e, (r, (k, n, g))))) s =
      quiet (Fails (Cuts c)) (made-answers a b x q z e r (Fails (Cuts c)) h m k n g) tt
  next-quiet a b x q h m quiet (Fails (Needs n)) k s = s
  next-quiet a b x q h m quiet (Fails Refuses) k s = s

  -- where the first parser has no settled answer, both have none
  first-quiet : (a : Ahead T) → IsQuiet first a → IsQuiet (FlatMaps makes means first) a
  first-quiet a quiet (Gives y c) (z, (e, (r, (k, n, g)))) s = quiet (Gives z e) k tt
  first-quiet a quiet (Fails (Backtracks c)) (inl k) s = quiet (Fails (Backtracks c)) k tt
  first-quiet a quiet (Fails (Backtracks c)) (inr (z, (e, (r, (k, n, g))))) s = quiet (Gives z e) k tt
  first-quiet a quiet (Fails (Cuts c)) (inl k) s = quiet (Fails (Cuts c)) k tt
  first-quiet a quiet (Fails (Cuts c)) (inr (z, (e, (r, (k, n, g))))) s = quiet (Gives z e) k tt
  first-quiet a quiet (Fails (Needs n)) k s = s
  first-quiet a quiet (Fails Refuses) k s = s

  -- a parser, and then one that is made of its value
  pub IsLive-FlatMaps : IsLive (FlatMaps makes means first)
  IsLive-FlatMaps a need more (inl h) l = first-quiet (longer more a) (live a need more h l)
  IsLive-FlatMaps a need more (inr (x, (b, (q, (h, m, k))))) l =
      next-quiet (longer more a) (longer more b) x q (p.stable more true a (Gives x b) tt h) m (all q b need more k l)

module _ {O P Q T : Type 0} {same : O → O → Type 0} {first : Meaning O T} (p : IsPunctual same first)
    (alike : P → P → Type 0) (makes : O → Q → Type 0) (means : Q → Meaning P T)
    (one : Respects same ◌≡◌ makes) (all : (q : Q) → IsPunctual alike (means q)) where
  -- `flat_map`
  pub IsPunctual-FlatMaps : IsPunctual alike (FlatMaps makes means first)
  IsPunctual-FlatMaps = record {
    lawful = IsParser-FlatMaps makes means first (λ q. (all q).lawful) p.lawful;
    once = determined-flat_map makes means first same alike one (λ q. (all q).once) p.once;
    live = IsLive-FlatMaps makes means first same one p.lawful p.once p.live (λ q. (all q).live);
  }
