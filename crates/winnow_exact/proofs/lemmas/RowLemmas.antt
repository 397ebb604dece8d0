-- Values of one kind in a row.
use Rattle.std.proofs.Common.{◌≡◌, ℕ, suc, ◌≤◌, Bool, true, false, List, [], ◌∷◌, ◌++◌, length, Some, None, inl, inr, ap, sym, ◌∙◌, subst, refl, arith, append_assoc}
use Rattle.std.specs.Prelude.{◌⊎◌, ⊤}
use Rattle.std.proofs.lemmas.Option.{none-some}
use Rattle.winnow_stream.specs.Source.{HasPositiveWidths}
use Rattle.winnow_parser.specs.Outcome.{Ahead, Backtracks, Gives, Fails, Meaning}
use Rattle.winnow_combinator.specs.Repeat.{Taking, InTurn, OneMore, Repeats}
use Rattle.winnow_grammar.specs.Spelling.{tokens_of, Spelling}
use Rattle.winnow_grammar.specs.Spellings.{InRow, Several}
use Rattle.winnow_exact.specs.Exact.{StartsIn, Lacks, Ends, Leaves, IsExact}
use Rattle.winnow_exact.proofs.lemmas.ListLemmas.{heads, not-empty}

module _ {O T : Type 0} {L : Spelling O T} {f : T → Bool} {means : Meaning O T} (h : T → Bool) (r : IsExact L f means) (on : (c : T) → f c ≡ true → h c ≡ true) (starts : (x : O) (p : List T) → L x p → StartsIn h p) (apart : (c : T) (y : O) (cs : List T) → f c ≡ true → L y (c ∷ cs) → ⊥) (full : (y : O) → L y [] → ⊥) where
  -- what the parser takes
  row-gives : (xs : List O) (a b : Ahead T) → HasPositiveWidths a.tokens
      → InTurn (Taking means) false xs a b
      → HasPositiveWidths b.tokens
      × ((front : List T) × ((tokens_of a.tokens ≡ front ++ tokens_of b.tokens) × InRow L xs front))
  row-gives [] a b w e =
      (subst (λ q. HasPositiveWidths q.tokens) e w, ([], (ap (λ q. tokens_of q.tokens) e, refl)))
  row-gives (x ∷ xs) a b w (c, (k, t)) =
      let n = r.gives a c x w k.0 in
      let m = row-gives xs c b n.0 t in (
        m.0,
        (
          n.1.0 ++ m.1.0,
          (
            n.1.1.0 ∙ ap (λ t. n.1.0 ++ t) m.1.1.0 ∙ sym (append_assoc n.1.0 m.1.0 (tokens_of b.tokens)),
            (n.1.0, (m.1.0, (refl, n.1.1.1, m.1.1.1))),
          ),
        ),
      )

  -- values in a row start as one does
  pub row-starts : (ys : List O) (t : List T) → InRow L ys t → StartsIn h t
  row-starts [] t e = subst (StartsIn h) (sym e) tt
  row-starts (y ∷ ys) t ([], (v, (e, l, k))) = absurd (full y l)
  row-starts (y ∷ ys) t (c ∷ cs, (v, (e, l, k))) = subst (StartsIn h) (sym e) (starts y (c ∷ cs) l)

  -- the first of them does not start with a token that goes on after a value
  row-apart : (y : O) (ys : List O) (u rest : List T) (m : T) (ms tc : List T) → InRow L (y ∷ ys) u
      → u ++ rest ≡ (m ∷ ms) ++ tc → f m ≡ true → ⊥
  row-apart y ys u rest m ms tc ([], (v, (q, l, k))) e st = full y l
  row-apart y ys u rest m ms tc (d ∷ ds, (v, (q, l, k))) e st =
      let at : d ∷ ((ds ++ v) ++ rest) ≡ m ∷ (ms ++ tc) = sym (ap (λ t. t ++ rest) q) ∙ e in
      apart m y ds st (subst (λ n. L y (n ∷ ds)) (heads d m ((ds ++ v) ++ rest) (ms ++ tc) at) l)

  -- from where one value may end to where the row ends
  row-step : (ys : List O) (t rest more tc tb front : List T) → InRow L ys t
      → t ++ rest ≡ more ++ tc
      → StartsIn f more → tc ≡ front ++ tb
      → (tc ≡ t ++ rest → (far : List T) × ((rest ≡ far ++ tb) × StartsIn h far))
      → (far : List T) × ((rest ≡ far ++ tb) × StartsIn h far)
  row-step ys t rest [] tc tb front l e st is go = go (sym e)
  row-step [] t rest (m ∷ ms) tc tb front l e st is go = (
    (m ∷ ms) ++ front,
    (
      sym (ap (λ q. q ++ rest) l) ∙ e ∙ ap (λ q. (m ∷ ms) ++ q) is ∙ sym (append_assoc (m ∷ ms) front tb),
      on m st,
    ),
  )
  row-step (y ∷ ys) t rest (m ∷ ms) tc tb front l e st is go = absurd (row-apart y ys t rest m ms tc l e st)

  row-end : (xs : List O) (a b : Ahead T) (ys : List O) (t rest : List T)
      → HasPositiveWidths a.tokens → InTurn (Taking means) false xs a b
      → ((c : Ahead T) × means false b (Fails (Backtracks c)))
      → InRow L ys t → tokens_of a.tokens ≡ t ++ rest
      → (far : List T) × ((rest ≡ far ++ tokens_of b.tokens) × StartsIn h far)
  row-end xs a b [] t rest w k stop l e =
      let m = row-gives xs a b w k in
      (m.1.0, (sym (e ∙ ap (λ q. q ++ rest) l) ∙ m.1.1.0, row-starts xs m.1.0 m.1.1.1))
  row-end [] a b (y ∷ ys) t rest w k stop (q, (u, (split, l, i))) e =
      let at : tokens_of b.tokens ≡ q ++ (u ++ rest) =
      sym (ap (λ p. tokens_of p.tokens) k) ∙ e ∙ ap (λ p. p ++ rest) split ∙ append_assoc q u rest in
      absurd (r.none b stop.0 (subst (λ p. HasPositiveWidths p.tokens) k w) stop.1 y q (u ++ rest) at l)
  row-end (x ∷ xs) a b (y ∷ ys) t rest w (c, (k, i)) stop (q, (u, (split, l, j))) e =
      let at : tokens_of a.tokens ≡ q ++ (u ++ rest) = e ∙ ap (λ p. p ++ rest) split ∙ append_assoc q u rest in
      let w2 = (r.gives a c x w k.0).0 in
      let m = r.ends a c x w k.0 y q (u ++ rest) at l in
      let o = row-gives xs c b w2 i in
      row-step ys u rest m.0 (tokens_of c.tokens) (tokens_of b.tokens) o.1.0 j m.1.0 m.1.1 o.1.1.0
      (λ is. row-end xs c b ys u rest w2 i stop j is)

  -- no row at the front has more values, from where one value may end on
  few-step : (ys : List O) (u rest more tc : List T) (n : ℕ) → InRow L ys u
      → u ++ rest ≡ more ++ tc → StartsIn f more
      → (tc ≡ u ++ rest → length ys ≤ n) → length ys ≤ n
  few-step ys u rest [] tc n j e st go = go (sym e)
  few-step [] u rest (m ∷ ms) tc n j e st go = omega (arith)
  few-step (y ∷ ys) u rest (m ∷ ms) tc n j e st go = absurd (row-apart y ys u rest m ms tc j e st)

  -- no row at the front has more values
  row-most : (xs : List O) (a b : Ahead T) (ys : List O) (t rest : List T)
      → HasPositiveWidths a.tokens → InTurn (Taking means) false xs a b
      → ((c : Ahead T) × means false b (Fails (Backtracks c)))
      → InRow L ys t → tokens_of a.tokens ≡ t ++ rest → length ys ≤ length xs
  row-most xs a b [] t rest w k stop l e = omega (arith)
  row-most [] a b (y ∷ ys) t rest w k stop (q, (u, (split, l, i))) e =
      let at : tokens_of b.tokens ≡ q ++ (u ++ rest) =
      sym (ap (λ p. tokens_of p.tokens) k) ∙ e ∙ ap (λ p. p ++ rest) split ∙ append_assoc q u rest in
      absurd (r.none b stop.0 (subst (λ p. HasPositiveWidths p.tokens) k w) stop.1 y q (u ++ rest) at l)
  row-most (x ∷ xs) a b (y ∷ ys) t rest w (c, (k, i)) stop (q, (u, (split, l, j))) e =
      let at : tokens_of a.tokens ≡ q ++ (u ++ rest) = e ∙ ap (λ p. p ++ rest) split ∙ append_assoc q u rest in
      let w2 = (r.gives a c x w k.0).0 in
      let m = r.ends a c x w k.0 y q (u ++ rest) at l in
      let n = few-step ys u rest m.0 (tokens_of c.tokens) (length xs) j m.1.0 m.1.1
      (λ is. row-most xs c b ys u rest w2 i stop j is) in omega (arith, n)

  row-stop : (least n : ℕ) (b : Ahead T)
      → ((None ≡ Some n) ⊎ (⊤ × OneMore least n (Taking means) false b (Gives None b)))
      → (c : Ahead T) × means false b (Fails (Backtracks c))
  row-stop least n b (inl e) = absurd (none-some _ e)
  row-stop least n b (inr k) = k.1.2

  module _ (least : ℕ) where
    repeat-gives : (a b : Ahead T) (xs : List O) → HasPositiveWidths a.tokens
        → Repeats least None means false a (Gives xs b)
        → Leaves (Several least None L) xs a.tokens b.tokens
    repeat-gives a b xs w (turns, enough, stop) =
        let t = row-gives xs a b w turns in (t.0, (t.1.0, (t.1.1.0, ((enough, tt), t.1.1.1))))

    repeat-ends : (a b : Ahead T) (xs : List O) → HasPositiveWidths a.tokens
        → Repeats least None means false a (Gives xs b)
        → Ends (Several least None L) h (tokens_of a.tokens) (tokens_of b.tokens)
    repeat-ends a b xs w (turns, enough, stop) ys p rest e l =
        row-end xs a b ys p rest w turns (row-stop least (length xs) b stop) l.1 e

    repeat-none : (a b : Ahead T) → HasPositiveWidths a.tokens
        → Repeats least None means false a (Fails (Backtracks b))
        → Lacks (Several least None L) (tokens_of a.tokens)
    repeat-none a b w (xs, (c, (turns, below, (few, k)))) ys p rest e l =
        let enough = l.0.0 in
        let most = row-most xs a c ys p rest w turns (b, k) l.1 e in omega (arith, few, enough, most)

    -- values in a row, each of which has a token, where no token that goes on after one starts one
    pub IsExact-InRow : IsExact (Several least None L) h (Repeats least None means)
    IsExact-InRow = record { gives = repeat-gives; ends = repeat-ends; none = repeat-none }
