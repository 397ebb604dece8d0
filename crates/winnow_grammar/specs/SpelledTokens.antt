-- What parsers of tokens take for a value spells it.
use Rattle.std.specs.Prelude.{◌≡◌, ℕ, zero, suc, ◌≤◌, Bool, true, not, List, [], ◌∷◌, ◌++◌, map, length, take, drop, Option, Some, None}
use Rattle.std.proofs.Common.{refl, ap, sym, ◌∙◌, subst, arith, append_assoc, take-append-drop}
use Rattle.std.proofs.lemmas.Option.{none-some, same_Some}
use Rattle.winnow_stream.specs.Source.{Source, width, first_token, held_front, HoldsAll, HasPositiveWidths}
use Rattle.winnow_stream.specs.Front.{back}
use Rattle.winnow_stream.proofs.lemmas.FrontLemmas.{count_to-seam}
use Rattle.winnow_stream.proofs.lemmas.HeldLemmas.{HoldsAll-held_front, append-held_front}
use Rattle.winnow_parser.specs.Outcome.{Ahead, Gives, Meaning}
use Rattle.winnow_token.specs.OneOf.{IsOneOf}
use Rattle.winnow_token.specs.TakeWhile.{up_to, held_within, TakesWhile}
use Rattle.winnow_combinator.specs.Counts.{IsUpTo}
use Rattle.winnow_grammar.specs.Spelling.{Spelling, tokens_of, IsSpelled}
use Rattle.winnow_grammar.specs.Spellings.{OneToken, AreHeld, IsSliceOf, Run}

module _ {T : Type 0} where
  -- a first token and what follows it
  first-split : (r : Source T) (x : T) → first_token r ≡ Some x
      → (y : T × ℕ) × ((r ≡ y ∷ drop 1 r) × (y.0 ≡ x))
  first-split [] x e = absurd (none-some _ e)
  first-split (y ∷ ys) x e = (y, (refl, same_Some _ _ e))

  -- one token that a set holds
  pub spelled-OneToken : (holds : T → Bool) → IsSpelled (OneToken holds) (IsOneOf holds)
  spelled-OneToken holds partial a b x wide (first, held, place) =
      let s = first-split a.tokens x first in
      (s.0 ∷ [], (s.1.0 ∙ ap (λ r. s.0 ∷ r) (sym (ap (λ p. p.tokens) place)), (ap (λ t. t ∷ []) s.1.1, held)))

  -- the tokens of a front have positive widths
  wide-front : (front rest : Source T) → HasPositiveWidths (front ++ rest) → HasPositiveWidths front
  wide-front [] rest h = tt
  wide-front (x ∷ front) rest h = (h.0, wide-front front rest h.1)

  -- what follows a front
  drop-seam : (front rest : Source T) → drop (length front) (front ++ rest) ≡ rest
  drop-seam [] rest = refl
  drop-seam (x ∷ front) rest = drop-seam front rest

  back-seam : (front rest : Source T) → HasPositiveWidths front
      → back (front ++ rest) (width front) ≡ rest
  back-seam front rest h = ap (λ n. drop n (front ++ rest)) (count_to-seam front rest h) ∙ drop-seam front rest

  -- there are as many tokens
  pub length-tokens : (r : Source T) → length (tokens_of r) ≡ length r
  length-tokens [] = refl
  length-tokens (x ∷ xs) = ap suc (length-tokens xs)

  module _ (holds : T → Bool) where
    -- the first tokens of those that a set holds
    held-take : (n : ℕ) (r : Source T) → HoldsAll holds r → AreHeld holds (tokens_of (take n r))
    held-take zero [] h = tt
    held-take zero (x ∷ xs) h = tt
    held-take (suc n) [] h = tt
    held-take (suc n) (x ∷ xs) h = (h.0, held-take n xs h.1)

    held-all : (r : Source T) → HoldsAll holds r → AreHeld holds (tokens_of r)
    held-all [] h = tt
    held-all (x ∷ xs) h = (h.0, held-all xs h.1)

    held-within : (greatest : Option ℕ) (r : Source T) → HoldsAll holds r
        → AreHeld holds (tokens_of (up_to greatest r))
    held-within None r h = held-all r h
    held-within (Some n) r h = held-take n r h

    -- at most that many are taken
    take-short : (n : ℕ) (r : Source T) → length (take n r) ≤ n
    take-short zero [] = omega arith
    take-short zero (x ∷ xs) = omega arith
    take-short (suc n) [] = omega arith
    take-short (suc n) (x ∷ xs) = let l = take-short n xs in omega (arith, l)

    within-short : (greatest : Option ℕ) (r : Source T)
        → IsUpTo greatest (length (up_to greatest r))
    within-short None r = tt
    within-short (Some n) r = take-short n r

    -- what follows the held tokens
    abbrev rest-within : Option ℕ → Source T → Source T
    rest-within None r = drop (length (held_front holds r)) r
    rest-within (Some n) r = drop n (held_front holds r) ++ drop (length (held_front holds r)) r

    whole-within : (greatest : Option ℕ) (r : Source T)
        → r ≡ held_within greatest holds r ++ rest-within greatest r
    whole-within None r = sym (append-held_front holds r)
    whole-within (Some n) r =
        let all = held_front holds r in
        let rest = drop (length all) r in
        sym (append-held_front holds r) ∙ ap (λ t. t ++ rest) (sym (take-append-drop n all)) ∙ append_assoc (take n all) (drop n all) rest

    -- a run of tokens that a set holds
    pub spelled-Run : {S : Type 0} (is_slice : S → Source T → ℕ → Type 0) (least : ℕ)
        (greatest : Option ℕ)
        → IsSpelled (Run is_slice holds least greatest) (TakesWhile is_slice holds least greatest)
    spelled-Run is_slice least greatest partial a b s wide (is, place, enough, ends) =
        let held = held_within greatest holds a.tokens in
        let rest = rest-within greatest a.tokens in
        let whole = whole-within greatest a.tokens in
        let left : b.tokens ≡ rest =
        ap (λ p. p.tokens) place ∙ ap (λ r. back r (width held)) whole ∙ back-seam held rest (wide-front held rest (subst HasPositiveWidths whole wide)) in
        let count = length-tokens held in (
          held,
          (
            whole ∙ ap (λ r. held ++ r) (sym left),
            (
              (held, (rest, (refl, subst (λ r. is_slice s r (width held)) whole is))),
              held-within greatest (held_front holds a.tokens) (HoldsAll-held_front holds a.tokens),
              subst (λ n. least ≤ n) (sym count) enough,
              subst (IsUpTo greatest) (sym count) (within-short greatest (held_front holds a.tokens)),
            ),
          ),
        )
