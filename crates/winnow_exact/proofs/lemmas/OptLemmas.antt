-- A value that may be missing, a failure that cuts, and one value of two.
use Rattle.std.proofs.Common.{◌≡◌, Bool, true, false, List, [], ◌++◌, Option, Some, None, ap, sym, ◌∙◌, subst, refl}
use Rattle.winnow_stream.specs.Source.{HasPositiveWidths}
use Rattle.winnow_parser.specs.Outcome.{Ahead, Backtracks, Gives, Fails, Meaning}
use Rattle.winnow_parser.specs.Meanings.{IsOpt, CutsErr, First, Second, Pair, IsPreceded, IsTerminated}
use Rattle.winnow_grammar.specs.Spelling.{tokens_of, Spelling}
use Rattle.winnow_grammar.specs.Spellings.{Perhaps, Then, After, Before}
use Rattle.winnow_exact.specs.Exact.{StartsIn, Lacks, Ends, Leaves, IsExact}
use Rattle.winnow_exact.proofs.lemmas.ListLemmas.{starts-on}
use Rattle.winnow_exact.proofs.lemmas.ValueLemmas.{IsExact-Maps}

module _ {O T : Type 0} {L : Spelling O T} {goes : T → Bool} {means : Meaning O T} (h : T → Bool) (r : IsExact L goes means) (on : (c : T) → goes c ≡ true → h c ≡ true) (starts : (x : O) (p : List T) → L x p → StartsIn h p) where
  opt-gives : (a b : Ahead T) (z : Option O) → HasPositiveWidths a.tokens
      → IsOpt means false a (Gives z b) → Leaves (Perhaps L) z a.tokens b.tokens
  opt-gives a b (Some x) w k = r.gives a b x w k
  opt-gives a b None w (e, n) =
      (subst (λ q. HasPositiveWidths q.tokens) e w, ([], (ap (λ q. tokens_of q.tokens) e, refl)))

  opt-ends : (a b : Ahead T) (z : Option O) → HasPositiveWidths a.tokens
      → IsOpt means false a (Gives z b)
      → Ends (Perhaps L) h (tokens_of a.tokens) (tokens_of b.tokens)
  opt-ends a b (Some x) w k None p rest e l =
      let n = r.gives a b x w k in
      (n.1.0, (sym (e ∙ ap (λ t. t ++ rest) l) ∙ n.1.1.0, starts x n.1.0 n.1.1.1))
  opt-ends a b (Some x) w k (Some y) p rest e l =
      let n = r.ends a b x w k y p rest e l in (n.0, (n.1.0, starts-on goes h on n.0 n.1.1))
  opt-ends a b None w (s, n) None p rest e l =
      ([], (sym (e ∙ ap (λ t. t ++ rest) l) ∙ ap (λ q. tokens_of q.tokens) s, tt))
  opt-ends a b None w (s, n) (Some y) p rest e l = absurd (r.none a n.0 w n.1 y p rest e l)

  opt-none : (a b : Ahead T) → HasPositiveWidths a.tokens
      → IsOpt means false a (Fails (Backtracks b)) → Lacks (Perhaps L) (tokens_of a.tokens)
  opt-none a b w k = absurd k

  -- a value, or none
  pub IsExact-IsOpt : IsExact (Perhaps L) h (IsOpt means)
  IsExact-IsOpt = record { gives = opt-gives; ends = opt-ends; none = opt-none }

-- a parser that never backtracks takes the same
pub IsExact-CutsErr : {O T : Type 0} {L : Spelling O T} {goes : T → Bool} {means : Meaning O T}
    → IsExact L goes means → IsExact L goes (CutsErr means)
IsExact-CutsErr r = record { gives = r.gives; ends = r.ends; none = λ a b w k. absurd k }

module _ {O P T : Type 0} {L : Spelling O T} {K : Spelling P T} {f : T → Bool} (first : Meaning O T) (second : Meaning P T) (r : IsExact (Then L K) f (Pair first second)) where
  -- the second of two values
  pub IsExact-IsPreceded : IsExact (After L K) f (IsPreceded first second)
  IsExact-IsPreceded = IsExact-Maps r (After L K) Second
      (λ x y p e l. (x.0, subst (λ z. Then L K (x.0, z) p) e l)) (λ y p l. ((l.0, y), l.1))

  -- the first of two values
  pub IsExact-IsTerminated : IsExact (Before L K) f (IsTerminated first second)
  IsExact-IsTerminated = IsExact-Maps r (Before L K) First
      (λ x y p e l. (x.1, subst (λ z. Then L K (z, x.1) p) e l)) (λ y p l. ((y, l.0), l.1))
