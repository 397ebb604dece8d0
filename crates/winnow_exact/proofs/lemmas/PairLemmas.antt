-- One parser after another, and the first of two.
use Rattle.std.proofs.Common.{◌≡◌, Bool, true, false, List, [], ◌∷◌, ◌++◌, inl, inr, ap, sym, ◌∙◌, subst, refl, append_assoc}
use Rattle.std.specs.Prelude.{◌⊎◌}
use Rattle.winnow_stream.specs.Source.{HasPositiveWidths}
use Rattle.winnow_parser.specs.Outcome.{Ahead, Backtracks, Gives, Fails, Meaning}
use Rattle.winnow_parser.specs.Meanings.{Pair, IsAlt2}
use Rattle.winnow_grammar.specs.Spelling.{tokens_of, Spelling}
use Rattle.winnow_grammar.specs.Spellings.{Then, Or}
use Rattle.winnow_exact.specs.Exact.{StartsIn, Lacks, Ends, Leaves, IsExact}
use Rattle.winnow_exact.specs.Languages.{either}
use Rattle.winnow_exact.proofs.lemmas.ListLemmas.{heads, or-left, or-right, starts-on}

module _ {O P T : Type 0} {L : Spelling O T} {K : Spelling P T} {f g : T → Bool} {first : Meaning O T} {second : Meaning P T} (h : T → Bool) (r : IsExact L f first) (s : IsExact K g second) (left : (y : P) → K y [] → (c : T) → f c ≡ true → h c ≡ true) (right : (c : T) → g c ≡ true → h c ≡ true) (apart : (c : T) (y : P) (cs : List T) → f c ≡ true → K y (c ∷ cs) → ⊥) where
  pair-gives : (a c : Ahead T) (z : O × P) → HasPositiveWidths a.tokens
      → Pair first second false a (Gives z c)
      → HasPositiveWidths c.tokens
      × ((front : List T) × ((tokens_of a.tokens ≡ front ++ tokens_of c.tokens) × Then L K z front))
  pair-gives a c z w (b, (n1, n2)) =
      let x = r.gives a b z.0 w n1 in
      let y = s.gives b c z.1 x.0 n2 in (
        y.0,
        (
          x.1.0 ++ y.1.0,
          (
            x.1.1.0 ∙ ap (λ t. x.1.0 ++ t) y.1.1.0 ∙ sym (append_assoc x.1.0 y.1.0 (tokens_of c.tokens)),
            (x.1.0, (y.1.0, (refl, x.1.1.1, y.1.1.1))),
          ),
        ),
      )

  -- from where the first text may end to where the second ends
  pair-step : (v : List T) (y : P) (rest more tb tc front : List T) → K y v → v ++ rest ≡ more ++ tb
      → StartsIn f more → tb ≡ front ++ tc
      → (tb ≡ v ++ rest → (far : List T) × ((rest ≡ far ++ tc) × StartsIn g far))
      → (far : List T) × ((rest ≡ far ++ tc) × StartsIn h far)
  pair-step v y rest [] tb tc front k e st is on =
      let n = on (sym e) in (n.0, (n.1.0, starts-on g h right n.0 n.1.1))
  pair-step [] y rest (m ∷ ms) tb tc front k e st is on =
      ((m ∷ ms) ++ front, (e ∙ ap (λ t. (m ∷ ms) ++ t) is ∙ sym (append_assoc (m ∷ ms) front tc), left y k m st))
  pair-step (c ∷ cs) y rest (m ∷ ms) tb tc front k e st is on =
      absurd (apart m y cs st (subst (λ n. K y (n ∷ cs)) (heads c m (cs ++ rest) (ms ++ tb) e) k))

  pair-ends : (a c : Ahead T) (z : O × P) → HasPositiveWidths a.tokens
      → Pair first second false a (Gives z c)
      → Ends (Then L K) h (tokens_of a.tokens) (tokens_of c.tokens)
  pair-ends a c z w (b, (n1, n2)) q p rest e (u, (v, (split, l, m))) =
      let x = r.gives a b z.0 w n1 in
      let y = s.gives b c z.1 x.0 n2 in
      let at : tokens_of a.tokens ≡ u ++ (v ++ rest) = e ∙ ap (λ t. t ++ rest) split ∙ append_assoc u v rest in
      let n = r.ends a b z.0 w n1 q.0 u (v ++ rest) at l in
      pair-step v q.1 rest n.0 (tokens_of b.tokens) (tokens_of c.tokens) y.1.0 m n.1.0 n.1.1 y.1.1.0
      (λ is. s.ends b c z.1 x.0 n2 q.1 v rest is m)

  -- where the second text is missing
  pair-lacks : (v : List T) (y : P) (rest more tb : List T) → K y v → v ++ rest ≡ more ++ tb
      → StartsIn f more → Lacks K tb → ⊥
  pair-lacks v y rest [] tb k e st none = none y v rest (sym e) k
  pair-lacks [] y rest (m ∷ ms) tb k e st none = none y [] tb refl k
  pair-lacks (c ∷ cs) y rest (m ∷ ms) tb k e st none =
      apart m y cs st (subst (λ n. K y (n ∷ cs)) (heads c m (cs ++ rest) (ms ++ tb) e) k)

  pair-none : (a d : Ahead T) → HasPositiveWidths a.tokens
      → Pair first second false a (Fails (Backtracks d)) → Lacks (Then L K) (tokens_of a.tokens)
  pair-none a d w (inl n1) q p rest e (u, (v, (split, l, m))) =
      r.none a d w n1 q.0 u (v ++ rest) (e ∙ ap (λ t. t ++ rest) split ∙ append_assoc u v rest) l
  pair-none a d w (inr (x, (b, (n1, n2)))) q p rest e (u, (v, (split, l, m))) =
      let y = r.gives a b x w n1 in
      let at : tokens_of a.tokens ≡ u ++ (v ++ rest) = e ∙ ap (λ t. t ++ rest) split ∙ append_assoc u v rest in
      let n = r.ends a b x w n1 q.0 u (v ++ rest) at l in
      pair-lacks v q.1 rest n.0 (tokens_of b.tokens) m n.1.0 n.1.1 (s.none b d y.0 n2)

  -- one language after the other, where what may go on after the first does not start the second
  pub IsExact-Pair : IsExact (Then L K) h (Pair first second)
  IsExact-Pair = record { gives = pair-gives; ends = pair-ends; none = pair-none }

module _ {O T : Type 0} {L K : Spelling O T} {f g : T → Bool} {first second : Meaning O T} (refusable : Type 0) (r : IsExact L f first) (s : IsExact K g second) (apart : (x y : O) (p q u v : List T) → L x p → K y q → p ++ u ≡ q ++ v → ⊥) where
  either-gives : (a b : Ahead T) (x : O) → HasPositiveWidths a.tokens
      → IsAlt2 refusable first second false a (Gives x b)
      → HasPositiveWidths b.tokens
      × ((front : List T) × ((tokens_of a.tokens ≡ front ++ tokens_of b.tokens) × Or L K x front))
  either-gives a b x w (inl h) =
      let n = r.gives a b x w h in (n.0, (n.1.0, (n.1.1.0, inl n.1.1.1)))
  either-gives a b x w (inr (c, (h, k))) =
      let n = s.gives a b x w k in (n.0, (n.1.0, (n.1.1.0, inr n.1.1.1)))

  either-ends : (a b : Ahead T) (x : O) → HasPositiveWidths a.tokens
      → IsAlt2 refusable first second false a (Gives x b)
      → Ends (Or L K) (either f g) (tokens_of a.tokens) (tokens_of b.tokens)
  either-ends a b x w (inl h) y p rest e (inl l) =
      let n = r.ends a b x w h y p rest e l in (n.0, (n.1.0, starts-on f (either f g) (λ c e. or-left (f c) (g c) e) n.0 n.1.1))
  either-ends a b x w (inl h) y p rest e (inr k) =
      let n = r.gives a b x w h in
      absurd (apart x y n.1.0 p (tokens_of b.tokens) rest n.1.1.1 k (sym n.1.1.0 ∙ e))
  either-ends a b x w (inr (c, (h, k))) y p rest e (inl l) = absurd (r.none a c w h y p rest e l)
  either-ends a b x w (inr (c, (h, k))) y p rest e (inr l) =
      let n = s.ends a b x w k y p rest e l in (n.0, (n.1.0, starts-on g (either f g) (λ c e. or-right (f c) (g c) e) n.0 n.1.1))

  either-none : (a b : Ahead T) → HasPositiveWidths a.tokens
      → IsAlt2 refusable first second false a (Fails (Backtracks b))
      → Lacks (Or L K) (tokens_of a.tokens)
  either-none a b w (c, (h, k)) y p rest e (inl l) = r.none a c w h y p rest e l
  either-none a b w (c, (h, k)) y p rest e (inr l) = s.none a b w k y p rest e l

  -- one language or the other, where no text begins with both
  pub IsExact-IsAlt2 : IsExact (Or L K) (either f g) (IsAlt2 refusable first second)
  IsExact-IsAlt2 = record { gives = either-gives; ends = either-ends; none = either-none }
