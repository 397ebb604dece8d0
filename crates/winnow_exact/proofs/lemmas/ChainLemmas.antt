-- Values with separators between them, folded from the left.
use Rattle.std.proofs.Common.{◌≡◌, ℕ, zero, suc, Bool, true, false, List, [], ◌∷◌, ◌++◌, length, Some, None, inl, inr, ap, sym, ◌∙◌, subst, refl, arith, append_assoc}
use Rattle.std.specs.Prelude.{◌⊎◌, ⊤}
use Rattle.std.specs.List.{FoldsTo}
use Rattle.std.proofs.lemmas.List.{append-nil}
use Rattle.std.proofs.lemmas.Option.{none-some}
use Rattle.winnow_stream.specs.Source.{HasPositiveWidths}
use Rattle.winnow_parser.specs.Outcome.{Ahead, Backtracks, Gives, Fails, Meaning}
use Rattle.winnow_parser.specs.Meanings.{Pair}
use Rattle.winnow_token.specs.OneOf.{IsOneOf}
use Rattle.winnow_combinator.specs.Repeat.{Taking, InTurn, OneMore}
use Rattle.winnow_combinator.specs.Separated.{IsSeparatedFoldl1}
use Rattle.winnow_grammar.specs.Spelling.{tokens_of, Spelling}
use Rattle.winnow_grammar.specs.Spellings.{OneToken, Then}
use Rattle.winnow_exact.specs.Exact.{StartsIn, Lacks, Ends, Leaves, IsExact}
use Rattle.winnow_exact.specs.Languages.{either, Link, Links}
use Rattle.winnow_exact.proofs.lemmas.ListLemmas.{heads, not-empty, not-both, or-left, or-right, starts-on}
use Rattle.winnow_exact.proofs.lemmas.TokenLemmas.{IsExact-IsOneOf}
use Rattle.winnow_exact.proofs.lemmas.PairLemmas.{IsExact-Pair}

module _ {O T : Type 0} (L : Spelling O T) (sign : T → Bool) where
  -- a separator starts them
  pub Links-start : (n : ℕ) (t : List T) → Links L sign n t → StartsIn sign t
  Links-start n [] h = tt
  Links-start zero (c ∷ cs) h = absurd (not-empty c cs (sym h))
  Links-start (suc n) (c ∷ cs) (q, (u, (y, (split, (k, (v, (is, one, l))), h)))) =
      let at : c ∷ cs ≡ y.0 ∷ (v ++ u) = split ∙ ap (λ t. t ++ u) (is ∙ ap (λ t. t ++ v) one.0) in
      subst (λ d. sign d ≡ true) (sym (heads c y.0 cs (v ++ u) at)) one.1

  -- one more at the end
  pub Links-more : (n : ℕ) (t q : List T) (y : T × O) → Links L sign n t → Link L sign y q
      → Links L sign (suc n) (t ++ q)
  Links-more zero t q y e l = (q, ([], (y, (ap (λ t. t ++ q) e ∙ sym (append-nil q), l, refl))))
  Links-more (suc n) t q y (k, (u, (z, (split, l, h)))) m =
      (k, (u ++ q, (z, (ap (λ t. t ++ q) split ∙ append_assoc k u q, l, Links-more n u q y h m))))

module _ {O T : Type 0} (L : Spelling O T) (f sign : T → Bool) (inner : Meaning O T) (r : IsExact L f inner) (apart : (c : T) → f c ≡ true → sign c ≡ true → ⊥) where
  link : IsExact (Link L sign) f (Pair (IsOneOf sign) inner)
  link = IsExact-Pair f (IsExact-IsOneOf sign) r (λ y k c e. absurd (not-both false e refl)) (λ c e. e) (λ c y cs e k. not-both false e refl)

  -- what the parser takes
  taken-links : (xs : List (T × O)) (a b : Ahead T) → HasPositiveWidths a.tokens
      → InTurn (Taking (Pair (IsOneOf sign) inner)) false xs a b
      → (front : List T) × ((tokens_of a.tokens ≡ front ++ tokens_of b.tokens) × StartsIn sign front)
  taken-links [] a b w e = ([], (ap (λ p. tokens_of p.tokens) e, tt))
  taken-links (x ∷ xs) a b w (c, (h, t)) =
      let n = link.gives a c x w h.0 in
      let m = taken-links xs c b n.0 t in
      let l = n.1.1.1 in
      let at : n.1.0 ≡ x.0 ∷ l.1.0 = l.1.1.0 ∙ ap (λ t. t ++ l.1.0) l.1.1.1.0 in (
        n.1.0 ++ m.0,
        (
          n.1.1.0 ∙ ap (λ t. n.1.0 ++ t) m.1.0 ∙ sym (append_assoc n.1.0 m.0 (tokens_of b.tokens)),
          subst (λ t. StartsIn sign (t ++ m.0)) (sym at) l.1.1.1.1,
        ),
      )

  -- from where one value may end to where the last ends
  links-step : (n : ℕ) (t rest more tc tb front : List T) → Links L sign n t
      → t ++ rest ≡ more ++ tc
      → StartsIn f more → tc ≡ front ++ tb
      → (tc ≡ t ++ rest → (far : List T) × ((rest ≡ far ++ tb) × StartsIn (either f sign) far))
      → (far : List T) × ((rest ≡ far ++ tb) × StartsIn (either f sign) far)
  links-step n t rest [] tc tb front l e st is on = on (sym e)
  links-step n [] rest (m ∷ ms) tc tb front l e st is on =
      ((m ∷ ms) ++ front, (e ∙ ap (λ t. (m ∷ ms) ++ t) is ∙ sym (append_assoc (m ∷ ms) front tb), or-left (f m) (sign m) st))
  links-step n (c ∷ cs) rest (m ∷ ms) tc tb front l e st is on =
      absurd (apart c (subst (λ d. f d ≡ true) (sym (heads c m (cs ++ rest) (ms ++ tc) e)) st) (Links-start L sign n (c ∷ cs) l))

  right-most : (t : List T) → StartsIn sign t → StartsIn (either f sign) t
  right-most t h = starts-on sign (either f sign) (λ c e. or-right (f c) (sign c) e) t h

  links-end : (xs : List (T × O)) (a b : Ahead T) (n : ℕ) (t rest : List T)
      → HasPositiveWidths a.tokens → InTurn (Taking (Pair (IsOneOf sign) inner)) false xs a b
      → ((c : Ahead T) × Pair (IsOneOf sign) inner false b (Fails (Backtracks c)))
      → Links L sign n t → tokens_of a.tokens ≡ t ++ rest
      → (far : List T) × ((rest ≡ far ++ tokens_of b.tokens) × StartsIn (either f sign) far)
  links-end xs a b zero t rest w h stop l e =
      let m = taken-links xs a b w h in
      (m.0, (sym (e ∙ ap (λ t. t ++ rest) l) ∙ m.1.0, right-most m.0 m.1.1))
  links-end [] a b (suc n) t rest w h stop (q, (u, (y, (split, k, l)))) e =
      let at : tokens_of b.tokens ≡ q ++ (u ++ rest) =
      sym (ap (λ p. tokens_of p.tokens) h) ∙ e ∙ ap (λ t. t ++ rest) split ∙ append_assoc q u rest in
      absurd (link.none b stop.0 (subst (λ p. HasPositiveWidths p.tokens) h w) stop.1 y q (u ++ rest) at k)
  links-end (x ∷ xs) a b (suc n) t rest w (c, (h, i)) stop (q, (u, (y, (split, k, l)))) e =
      let at : tokens_of a.tokens ≡ q ++ (u ++ rest) = e ∙ ap (λ t. t ++ rest) split ∙ append_assoc q u rest in
      let w2 = (link.gives a c x w h.0).0 in
      let m = link.ends a c x w h.0 y q (u ++ rest) at k in
      let o = taken-links xs c b w2 i in
      links-step n u rest m.0 (tokens_of c.tokens) (tokens_of b.tokens) o.0 l m.1.0 m.1.1 o.1.0
      (λ is. links-end xs c b n u rest w2 i stop l is)

  -- the language of the folded values: a value is in it, and what is in it and one link, and
  -- nothing else
  module _ (K : Spelling O T) (step : O → T × O → O → Type 0) (one : (x : O) (p : List T)
      → L x p → K x p) (more : (x z : O) (y : T × O) (p q : List T) → K x p → Link L sign y q
      → step x y z → K z (p ++ q)) (view : (x : O) (p : List T) → K x p → (u : List T) × ((t : List T) × ((y : O) × ((n : ℕ) × ((p ≡ u ++ t) × L y u × Links L sign n t))))) where
    fold-gives : (xs : List (T × O)) (a b : Ahead T) (x z : O) (p : List T)
        → HasPositiveWidths a.tokens
        → K x p → InTurn (Taking (Pair (IsOneOf sign) inner)) false xs a b → FoldsTo step x xs z
        → HasPositiveWidths b.tokens
        × ((front : List T) × ((tokens_of a.tokens ≡ front ++ tokens_of b.tokens) × K z (p ++ front)))
    fold-gives [] a b x z p w k e s = (
      subst (λ p. HasPositiveWidths p.tokens) e w,
      ([], (ap (λ p. tokens_of p.tokens) e, subst (λ t. K z t) (sym (append-nil p)) (subst (λ v. K v p) s k))),
    )
    fold-gives (y ∷ ys) a b x z p w k (c, (h, t)) (m, s, ss) =
        let n = link.gives a c y w h.0 in
        let o = fold-gives ys c b m z (p ++ n.1.0) n.0 (more x m y p n.1.0 k n.1.1.1 s) t ss in (
          o.0,
          (
            n.1.0 ++ o.1.0,
            (
              n.1.1.0 ∙ ap (λ t. n.1.0 ++ t) o.1.1.0 ∙ sym (append_assoc n.1.0 o.1.0 (tokens_of b.tokens)),
              subst (λ t. K z t) (append_assoc p n.1.0 o.1.0) o.1.1.1,
            ),
          ),
        )

    folded-gives : (a b : Ahead T) (z : O) → HasPositiveWidths a.tokens
        → IsSeparatedFoldl1 step (IsOneOf sign) inner false a (Gives z b)
        → HasPositiveWidths b.tokens
        × ((front : List T) × ((tokens_of a.tokens ≡ front ++ tokens_of b.tokens) × K z front))
    folded-gives a b z w (both, (folds, (c, (h, (turns, enough, stop))))) =
        let n = r.gives a c both.0 w h in
        let o = fold-gives both.1 c b both.0 z n.1.0 n.0 (one both.0 n.1.0 n.1.1.1) turns folds in
        (o.0, (n.1.0 ++ o.1.0, (n.1.1.0 ∙ ap (λ t. n.1.0 ++ t) o.1.1.0 ∙ sym (append_assoc n.1.0 o.1.0 (tokens_of b.tokens)), o.1.1.1)))

    stopped : (n : ℕ) (b : Ahead T) → ((None ≡ Some n)
        ⊎ (⊤ × OneMore 0 n (Taking (Pair (IsOneOf sign) inner)) false b (Gives None b)))
        → (c : Ahead T) × Pair (IsOneOf sign) inner false b (Fails (Backtracks c))
    stopped n b (inl e) = absurd (none-some _ e)
    stopped n b (inr k) = k.1.2

    folded-ends : (a b : Ahead T) (z : O) → HasPositiveWidths a.tokens
        → IsSeparatedFoldl1 step (IsOneOf sign) inner false a (Gives z b)
        → Ends K (either f sign) (tokens_of a.tokens) (tokens_of b.tokens)
    folded-ends a b z w (both, (folds, (c, (h, (turns, enough, stop))))) x p rest e k =
        let v = view x p k in
        let u = v.0 in
        let t = v.1.0 in
        let y = v.1.1.0 in
        let n = v.1.1.1.0 in
        let is = v.1.1.1.1 in
        let w2 = (r.gives a c both.0 w h).0 in
        let at : tokens_of a.tokens ≡ u ++ (t ++ rest) = e ∙ ap (λ t. t ++ rest) is.0 ∙ append_assoc u t rest in
        let m = r.ends a c both.0 w h y u (t ++ rest) at is.1 in
        let o = taken-links both.1 c b w2 turns in
        links-step n t rest m.0 (tokens_of c.tokens) (tokens_of b.tokens) o.0 is.2 m.1.0 m.1.1 o.1.0
        (λ e2. links-end both.1 c b n t rest w2 turns (stopped (length both.1) b stop) is.2 e2)

    folded-none : (a b : Ahead T) → HasPositiveWidths a.tokens
        → IsSeparatedFoldl1 step (IsOneOf sign) inner false a (Fails (Backtracks b))
        → Lacks K (tokens_of a.tokens)
    folded-none a b w (inl h) x p rest e k =
        let v = view x p k in
        let is = v.1.1.1.1 in
        r.none a b w h v.1.1.0 v.0 (v.1.0 ++ rest) (e ∙ ap (λ t. t ++ rest) is.0 ∙ append_assoc v.0 v.1.0 rest) is.1
    folded-none a b w (inr (x, (c, (h, (xs, (d, (turns, below, (few, f)))))))) y p rest e k = absurd (omega (arith, few))

    -- values with separators between them
    pub IsExact-IsSeparatedFoldl1 : IsExact K (either f sign)
        (IsSeparatedFoldl1 step (IsOneOf sign) inner)
    IsExact-IsSeparatedFoldl1 = record { gives = folded-gives; ends = folded-ends; none = folded-none }
