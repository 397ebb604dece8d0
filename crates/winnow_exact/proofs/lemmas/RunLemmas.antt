-- Runs of tokens that pass a test.
use Rattle.std.proofs.Common.{◌≡◌, ℕ, ◌+◌, ◌<◌, ◌≤◌, Bool, true, false, List, [], ◌∷◌, ◌++◌, length, drop, suc, Some, None, inl, inr, ap, sym, ◌∙◌, subst, refl, arith, length-append}
use Rattle.std.specs.Prelude.{◌⊎◌, ⊤}
use Rattle.std.proofs.lemmas.List.{map-append}
use Rattle.std.proofs.lemmas.Option.{none-some}
use Rattle.winnow_stream.specs.Source.{Source, first_token, held_front, HoldsAll, HasPositiveWidths}
use Rattle.winnow_stream.proofs.lemmas.HeldLemmas.{append-held_front, HoldsAll-held_front, next-held_front, back-held_front}
use Rattle.winnow_parser.specs.Outcome.{Ahead, Backtracks, Gives, Fails}
use Rattle.winnow_token.specs.OneOf.{IsOneOf}
use Rattle.winnow_token.specs.TakeWhile.{TakesWhile}
use Rattle.winnow_token.proofs.lemmas.RunLemmas.{held-run}
use Rattle.winnow_combinator.specs.Repeat.{Taking, InTurn, OneMore, Repeats}
use Rattle.winnow_grammar.specs.Spelling.{tokens_of}
use Rattle.winnow_grammar.specs.Spellings.{AreHeld}
use Rattle.winnow_exact.specs.Exact.{StartsIn, Lacks, Ends, Leaves, IsExact}
use Rattle.winnow_exact.specs.Languages.{IsRun, AreTokens}
use Rattle.winnow_exact.proofs.lemmas.ListLemmas.{heads, tails, not-empty, not-both}
use Rattle.winnow_exact.proofs.lemmas.TokenLemmas.{IsExact-IsOneOf}

module _ {T : Type 0} (holds : T → Bool) where
  -- the tokens do not start with one that passes the test
  abbrev StopsAt : List T → Type 0
  StopsAt p = (t : T) (ts : List T) → p ≡ t ∷ ts → holds t ≡ true → ⊥

  all-starts : (p : List T) → AreHeld holds p → StartsIn holds p
  all-starts [] h = tt
  all-starts (t ∷ ts) h = h.0

  -- a run at the front ends within the longest one
  pub run-ends : (v rest w t : List T) → AreHeld holds v → v ++ rest ≡ w ++ t → AreHeld holds w
      → StopsAt t → (far : List T) × ((rest ≡ far ++ t) × StartsIn holds far)
  run-ends [] rest w t av e aw n = (w, (e, all-starts w aw))
  run-ends (c ∷ cs) rest [] t av e aw n = absurd (n c (cs ++ rest) (sym e) av.0)
  run-ends (c ∷ cs) rest (d ∷ ds) t av e aw n =
      run-ends cs rest ds t av.1 (tails c d (cs ++ rest) (ds ++ t) e) aw.1 n

  -- and it is no longer
  run-short : (v rest w t : List T) → AreHeld holds v → v ++ rest ≡ w ++ t → StopsAt t
      → length v ≤ length w
  run-short [] rest w t av e n = omega (arith)
  run-short (c ∷ cs) rest [] t av e n = absurd (n c (cs ++ rest) (sym e) av.0)
  run-short (c ∷ cs) rest (d ∷ ds) t av e n =
      let l = run-short cs rest ds t av.1 (tails c d (cs ++ rest) (ds ++ t) e) n in omega (arith, l)

  -- a source whose first token fails the test stops a run
  stops : (r : Source T) → ((x : T) → first_token r ≡ Some x → holds x ≡ false)
      → StopsAt (tokens_of r)
  stops [] n c cs e h = not-empty c cs e
  stops (y ∷ ys) n c cs e h =
      not-both (holds c) h (subst (λ d. holds d ≡ false) (heads y.0 c (tokens_of ys) cs e) (n y.0 refl))

  all-held : (r : Source T) → HoldsAll holds r → AreHeld holds (tokens_of r)
  all-held [] h = tt
  all-held (x ∷ xs) h = (h.0, all-held xs h.1)

  same-length : (r : Source T) → length (tokens_of r) ≡ length r
  same-length [] = refl
  same-length (x ∷ xs) = ap suc (same-length xs)

  -- what remains has positive widths as the whole has
  wide-rest : (r s : Source T) → HasPositiveWidths (r ++ s) → HasPositiveWidths s
  wide-rest [] s h = h
  wide-rest (x ∷ xs) s h = wide-rest xs s h.1

  -- ---- A slice of a run

  module _ {S : Type 0} (is_slice : S → Source T → ℕ → Type 0) (least : ℕ) where
    run-gives : (a b : Ahead T) (s : S) → HasPositiveWidths a.tokens
        → TakesWhile is_slice holds least None false a (Gives s b)
        → Leaves (IsRun least holds) s a.tokens b.tokens
    run-gives a b s w h =
        let run = held-run is_slice holds {least = least} {greatest = None} false a b least (refl, refl) s w h in
        let taken = run.over.taken in (
          wide-rest taken b.tokens (subst HasPositiveWidths run.over.whole w),
          (
            tokens_of taken,
            (
              ap tokens_of run.over.whole ∙ map-append (λ x. x.0) taken b.tokens,
              (omega (arith, run.enough, same-length taken), all-held taken run.held),
            ),
          ),
        )

    slice-ends : (a b : Ahead T) (s : S) → HasPositiveWidths a.tokens
        → TakesWhile is_slice holds least None false a (Gives s b)
        → Ends {O = S} (IsRun least holds) holds (tokens_of a.tokens) (tokens_of b.tokens)
    slice-ends a b s w h t p rest e l =
        let run = held-run is_slice holds {least = least} {greatest = None} false a b least (refl, refl) s w h in
        let g = run-gives a b s w h in
        run-ends p rest g.1.0 (tokens_of b.tokens) l.1 (sym e ∙ g.1.1.0) g.1.1.1.1 (stops b.tokens run.ends)

    run-none : (a b : Ahead T) → HasPositiveWidths a.tokens
        → TakesWhile is_slice holds least None false a (Fails (Backtracks b))
        → Lacks {O = S} (IsRun least holds) (tokens_of a.tokens)
    run-none a b w h s p rest e l =
        let held = held_front holds a.tokens in
        let back = drop (length held) a.tokens in
        let whole : tokens_of a.tokens ≡ tokens_of held ++ tokens_of back =
        ap tokens_of (sym (append-held_front holds a.tokens)) ∙ map-append (λ x. x.0) held back in
        let short = run-short p rest (tokens_of held) (tokens_of back) l.1 (sym e ∙ whole) (stops back (λ x f. next-held_front holds a.tokens x f)) in
        omega (arith, h.1, l.0, short, same-length held)

    -- a run, of which the value is a slice
    pub IsExact-TakesWhile : IsExact (IsRun least holds) holds
        (TakesWhile is_slice holds least None)
    IsExact-TakesWhile = record { gives = run-gives; ends = slice-ends; none = run-none }

  -- ---- A list of the tokens of a run

  -- tokens that are taken one after the other
  tokens-taken : (xs : List T) (a b : Ahead T) → HasPositiveWidths a.tokens
      → InTurn (Taking (IsOneOf holds)) false xs a b
      → HasPositiveWidths b.tokens × ((tokens_of a.tokens ≡ xs ++ tokens_of b.tokens) × AreHeld holds xs)
  tokens-taken [] a b w e =
      (subst (λ p. HasPositiveWidths p.tokens) e w, (ap (λ p. tokens_of p.tokens) e, tt))
  tokens-taken (x ∷ xs) a b w (c, (h, t)) =
      let g = (IsExact-IsOneOf holds).gives a c x w h.0 in
      let m = tokens-taken xs c b g.0 t in
      let one : g.1.0 ≡ x ∷ [] = g.1.1.1.0 in
      (m.0, (g.1.1.0 ∙ ap (λ t. t ++ tokens_of c.tokens) one ∙ ap (λ t. x ∷ t) m.1.0, (g.1.1.1.1, m.1.1)))

  -- after them the parser of one more backtracks
  tokens-stop : (least n : ℕ) (b : Ahead T) → ((None ≡ Some n)
      ⊎ (⊤ × OneMore least n (Taking (IsOneOf holds)) false b (Gives None b)))
      → (c : Ahead T) × IsOneOf holds false b (Fails (Backtracks c))
  tokens-stop least n b (inl e) = absurd (none-some _ e)
  tokens-stop least n b (inr k) = k.1.2

  one-lacks : (a b : Ahead T) → HasPositiveWidths a.tokens
      → IsOneOf holds false a (Fails (Backtracks b))
      → StopsAt (tokens_of a.tokens)
  one-lacks a b w h c cs e is = (IsExact-IsOneOf holds).none a b w h c (c ∷ []) cs e (refl, is)

  module _ (least : ℕ) where
    list-gives : (a b : Ahead T) (xs : List T) → HasPositiveWidths a.tokens
        → Repeats least None (IsOneOf holds) false a (Gives xs b)
        → Leaves (AreTokens least holds) xs a.tokens b.tokens
    list-gives a b xs w (turns, enough, stop) =
        let t = tokens-taken xs a b w turns in (t.0, (xs, (t.1.0, (refl, enough, t.1.1))))

    list-ends : (a b : Ahead T) (xs : List T) → HasPositiveWidths a.tokens
        → Repeats least None (IsOneOf holds) false a (Gives xs b)
        → Ends (AreTokens least holds) holds (tokens_of a.tokens) (tokens_of b.tokens)
    list-ends a b xs w (turns, enough, stop) ys p rest e l =
        let t = tokens-taken xs a b w turns in
        let end = tokens-stop least (length xs) b stop in
        run-ends p rest xs (tokens_of b.tokens) l.2 (sym e ∙ t.1.0) t.1.1 (one-lacks b end.0 t.0 end.1)

    list-none : (a b : Ahead T) → HasPositiveWidths a.tokens
        → Repeats least None (IsOneOf holds) false a (Fails (Backtracks b))
        → Lacks (AreTokens least holds) (tokens_of a.tokens)
    list-none a b w (xs, (c, (turns, below, (few, h)))) ys p rest e l =
        let t = tokens-taken xs a c w turns in
        let short = run-short p rest xs (tokens_of c.tokens) l.2 (sym e ∙ t.1.0) (one-lacks c b t.0 h) in
        omega (arith, few, l.1, short)

    -- a run, of which the value is the list of its tokens
    pub IsExact-Repeats : IsExact (AreTokens least holds) holds (Repeats least None (IsOneOf holds))
    IsExact-Repeats = record { gives = list-gives; ends = list-ends; none = list-none }
