-- A value that passes a test, or for which a function gives a value.
use Rattle.std.proofs.Common.{◌≡◌, Bool, true, false, List, ◌++◌, Option, Some, None, inl, inr, ap, sym, ◌∙◌, subst, append_assoc}
use Rattle.std.proofs.lemmas.List.{append_cancel_right}
use Rattle.winnow_stream.specs.Source.{HasPositiveWidths}
use Rattle.winnow_parser.specs.Outcome.{Ahead, Backtracks, Gives, Fails, Meaning}
use Rattle.winnow_parser.specs.Meanings.{Verifies, VerifyMaps}
use Rattle.winnow_grammar.specs.Spelling.{tokens_of, Spelling}
use Rattle.winnow_exact.specs.Exact.{Lacks, Ends, Leaves, IsExact}

module _ {O T : Type 0} {L : Spelling O T} {goes : T → Bool} {means : Meaning O T} (r : IsExact L goes means) where
  -- what a parser takes begins with each part in the language that its input begins with
  taken-more : (a b : Ahead T) (x : O) → HasPositiveWidths a.tokens → means false a (Gives x b)
      → (y : O) (p rest : List T) → tokens_of a.tokens ≡ p ++ rest → L y p
      → (more : List T) × L x (p ++ more)
  taken-more a b x w h y p rest e l =
      let taken = r.gives a b x w h in
      let front = taken.1.0 in
      let end = r.ends a b x w h y p rest e l in
      let whole : front ++ tokens_of b.tokens ≡ (p ++ end.0) ++ tokens_of b.tokens =
      sym taken.1.1.0 ∙ e ∙ ap (λ t. p ++ t) end.1.0 ∙ sym (append_assoc p end.0 (tokens_of b.tokens)) in
      (end.0, subst (L x) (append_cancel_right front (p ++ end.0) (tokens_of b.tokens) whole) taken.1.1.1)

  module _ {P : Type 0} (K : Spelling P T) (gives : O → Option P → Type 0) (sound : (x : O) (y : P) (p : List T) → gives x (Some y) → L x p → K y p) (back : (y : P) (p : List T) → K y p → (x : O) × L x p) (shut : (x : O) (y : P) (p more : List T) → L x (p ++ more) → gives x None → K y p → ⊥) where
    verified-gives : (a b : Ahead T) (y : P) → HasPositiveWidths a.tokens
        → VerifyMaps gives means false a (Gives y b) → Leaves K y a.tokens b.tokens
    verified-gives a b y w (x, (m, h)) =
        let g = r.gives a b x w h in (g.0, (g.1.0, (g.1.1.0, sound x y g.1.0 m g.1.1.1)))

    verified-ends : (a b : Ahead T) (y : P) → HasPositiveWidths a.tokens
        → VerifyMaps gives means false a (Gives y b)
        → Ends K goes (tokens_of a.tokens) (tokens_of b.tokens)
    verified-ends a b y w (x, (m, h)) z p rest e k =
        let l = back z p k in r.ends a b x w h l.0 p rest e l.1

    verified-none : (a b : Ahead T) → HasPositiveWidths a.tokens
        → VerifyMaps gives means false a (Fails (Backtracks b)) → Lacks K (tokens_of a.tokens)
    verified-none a b w (inl h) z p rest e k = let l = back z p k in r.none a b w h l.0 p rest e l.1
    verified-none a b w (inr (same, (x, (c, (h, none))))) z p rest e k =
        let l = back z p k in
        let more = taken-more a c x w h l.0 p rest e l.1 in
        shut x z p more.0 more.1 none k

    -- what a function gives for the value, where it gives nothing for a value only if it gives
    -- nothing for those of its fronts
    pub IsExact-VerifyMaps : IsExact K goes (VerifyMaps gives means)
    IsExact-VerifyMaps = record { gives = verified-gives; ends = verified-ends; none = verified-none }

  module _ (answers : O → Bool → Type 0) (shut : (x y : O) (p more : List T) → L x (p ++ more) → answers x false → L y p → answers y true → ⊥) where
    -- the values of the language that pass the test
    abbrev pub Passing : Spelling O T
    Passing x p = L x p × answers x true

    passing-gives : (a b : Ahead T) (x : O) → HasPositiveWidths a.tokens
        → Verifies answers means false a (Gives x b) → Leaves Passing x a.tokens b.tokens
    passing-gives a b x w (h, told) =
        let g = r.gives a b x w h in (g.0, (g.1.0, (g.1.1.0, (g.1.1.1, told))))

    passing-ends : (a b : Ahead T) (x : O) → HasPositiveWidths a.tokens
        → Verifies answers means false a (Gives x b)
        → Ends Passing goes (tokens_of a.tokens) (tokens_of b.tokens)
    passing-ends a b x w (h, told) y p rest e k = r.ends a b x w h y p rest e k.0

    passing-none : (a b : Ahead T) → HasPositiveWidths a.tokens
        → Verifies answers means false a (Fails (Backtracks b)) → Lacks Passing (tokens_of a.tokens)
    passing-none a b w (inl h) y p rest e k = r.none a b w h y p rest e k.0
    passing-none a b w (inr (same, (x, (c, (h, told))))) y p rest e k =
        let more = taken-more a c x w h y p rest e k.0 in
        shut x y p more.0 more.1 told k.0 k.1

    -- the value, where a test fails of a value only if it fails of those of its fronts
    pub IsExact-Verifies : IsExact Passing goes (Verifies answers means)
    IsExact-Verifies = record { gives = passing-gives; ends = passing-ends; none = passing-none }
