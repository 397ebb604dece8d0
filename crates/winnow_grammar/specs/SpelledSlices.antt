-- The slices that parsers take are spelled by the tokens that they cover.
use Rattle.std.specs.Prelude.{◌≡◌, ℕ, ◌+◌, ◌≤◌, nat_le, Bool, true, ◌&&◌, List, ◌++◌, length, take, drop, Option, Some, None}
use Rattle.std.specs.declared.ops.Range.{Range}
use Rattle.std.proofs.Common.{refl, ap, sym, ◌∙◌, subst, arith, take-append-drop, length-take-le, leb-true}
use Rattle.std.proofs.lemmas.Bool.{and_parts}
use Rattle.winnow_stream.specs.Source.{Source, width, HasPositiveWidths}
use Rattle.winnow_stream.specs.Front.{is_offset, count_to, front, back}
use Rattle.winnow_stream.proofs.lemmas.FrontLemmas.{width-front, width-back, width-append, front-place}
use Rattle.winnow_match.specs.declared.compare.CompareResult.{CompareResult}
use Rattle.winnow_match.specs.declared.compare.CompareResult.TheVariants as compared
use Rattle.winnow_count.specs.CountRange.{is_up_to}
use Rattle.winnow_parser.specs.Outcome.{Ahead, Meaning, after}
use Rattle.winnow_parser.specs.Taken.{IsFrontTaken, Taken, WithTaken}
use Rattle.winnow_parser.specs.Literal.{IsLiteral}
use Rattle.winnow_token.specs.Take.{Takes}
use Rattle.winnow_token.specs.TakeUntil.{TakesUntil}
use Rattle.winnow_combinator.specs.Counts.{IsUpTo}
use Rattle.winnow_grammar.specs.Spelling.{Spelling, tokens_of, TakesFor, IsSpelled}
use Rattle.winnow_grammar.specs.Spellings.{IsSliceOf, IsSliceWhere, Covered, Exactly, FindsAt, UntilHit, SliceOver, WithSlice}
use Rattle.winnow_grammar.specs.Spelled.{takes-on}
use Rattle.winnow_grammar.specs.SpelledTokens.{length-tokens}

-- a test of a greatest count holds
up_to-holds : (greatest : Option ℕ) (n : ℕ) → is_up_to greatest n ≡ true → IsUpTo greatest n
up_to-holds None n h = tt
up_to-holds (Some m) n h = leb-true _ _ h

module _ {S T : Type 0} (is_slice : S → Source T → ℕ → Type 0) where
  -- what is taken up to the place after a front is that front
  takes-front : (spells : Spelling S T) (s : S) (a b : Ahead T) (n : ℕ) → after a n ≡ b
      → spells s (tokens_of (front a.tokens n)) → TakesFor spells s a b
  takes-front spells s a b n e k =
      let left : back a.tokens n ≡ b.tokens = ap (λ p. p.tokens) e in (
        front a.tokens n,
        (sym (take-append-drop (count_to a.tokens n) a.tokens) ∙ ap (λ r. front a.tokens n ++ r) left, k),
      )

  -- a slice of a front is that of its tokens
  slice-front : (holds : Source T → ℕ → Type 0) (s : S) (r : Source T) (n : ℕ)
      → is_offset r n ≡ true → is_slice s r n → holds r n
      → IsSliceWhere is_slice holds s (tokens_of (front r n))
  slice-front holds s r n h is k =
      let whole : r ≡ front r n ++ back r n = sym (take-append-drop (count_to r n) r) in
      let w : n ≡ width (front r n) = sym (width-front r n h) in
      let P : Source T → Type 0 = λ t. is_slice s t (width (front r n)) in
      let Q : Source T → Type 0 = λ t. holds t (width (front r n)) in (
        front r n,
        (
          back r n,
          (refl, subst P whole (subst (λ m. is_slice s r m) w is), subst Q whole (subst (λ m. holds r m) w k)),
        ),
      )

  -- the slice of a literal
  pub spelled-Covered : (compare : Source T → CompareResult)
      → IsSpelled (Covered is_slice compare) (IsLiteral is_slice compare)
  spelled-Covered compare partial a b s wide (n, (same, at, is, place)) =
      takes-front (Covered is_slice compare) s a b n (sym place) (slice-front (λ r m. compare r ≡ compared.Ok m) s a.tokens n at is same)

  -- the slice of so many tokens
  pub spelled-Exactly : (counts_shortage : Bool) (n : ℕ)
      → IsSpelled (Exactly is_slice n) (Takes counts_shortage is_slice n)
  spelled-Exactly counts_shortage n partial a b s wide (enough, at, is, place) =
      let w = width (take n a.tokens) in
      let k = slice-front (λ r m. Unit {0}) s a.tokens w at is tt in
      let count : length (tokens_of (front a.tokens w)) ≡ n =
      length-tokens (front a.tokens w) ∙ ap length (front-place a.tokens n wide enough) ∙ length-take-le n a.tokens enough in
      takes-front (Exactly is_slice n) s a b w (sym place) ((k.0, (k.1.0, (k.1.1.0, k.1.1.1))), count)

  -- the slice of the tokens before a hit
  pub spelled-UntilHit : (find : Source T → Option (Range ℕ)) (least : ℕ) (greatest : Option ℕ)
      → IsSpelled (UntilHit is_slice find least greatest) (TakesUntil is_slice find least greatest)
  spelled-UntilHit find least greatest partial a b s wide (stay, (hit, ((found, at), (is, place, counts)))) =
      let n = hit.start in
      let count = length-tokens (front a.tokens n) in
      let parts = and_parts (nat_le least (length (front a.tokens n))) (is_up_to greatest (length (front a.tokens n))) counts in
      takes-front (UntilHit is_slice find least greatest) s a b n (sym place) (
        slice-front (FindsAt find) s a.tokens n at is (hit, (found, refl)),
        subst (λ m. least ≤ m) (sym count) (leb-true _ _ parts.0),
        subst (IsUpTo greatest) (sym count) (up_to-holds greatest _ parts.1),
      )

  module _ {O : Type 0} (p : Spelling O T) (inner : Meaning O T) (one : IsSpelled p inner) where
    -- a value, and the slice of what is taken for it
    takes-slice : (partial : Bool) (x : O) (s : S) (a b : Ahead T) → HasPositiveWidths a.tokens
        → TakesFor p x a b → IsFrontTaken is_slice s a b
        → TakesFor (WithSlice is_slice p) (x, s) a b
    takes-slice partial x s a b wide (taken, (whole, k)) (n, (at, is, place)) =
        let left : back a.tokens n ≡ b.tokens = ap (λ q. q.tokens) place in
        let sum : n + width (back a.tokens n) ≡ width a.tokens = width-back a.tokens n at in
        let all : width a.tokens ≡ width taken + width b.tokens = ap width whole ∙ width-append taken b.tokens in
        let rest : width (back a.tokens n) ≡ width b.tokens = ap width left in
        let same : n ≡ width taken = omega (arith, sum, all, rest) in
        let P : Source T → Type 0 = λ t. is_slice s t (width taken) in
        (taken, (whole, (k, (taken, (b.tokens, (refl, subst P whole (subst (λ m. is_slice s a.tokens m) same is)))))))

    pub spelled-WithSlice : IsSpelled (WithSlice is_slice p) (WithTaken is_slice inner)
    spelled-WithSlice partial a b both wide (h, taken) =
        takes-slice partial both.0 both.1 a b wide (one partial a b both.0 wide h) taken

    -- the slice of what is taken
    pub spelled-SliceOver : IsSpelled (SliceOver is_slice p) (Taken is_slice inner)
    spelled-SliceOver partial a b s wide ((x, h), taken) =
        takes-on (WithSlice is_slice p) (SliceOver is_slice p) (x, s) s a b (λ ts k. ((x, k.0), k.1))
        (takes-slice partial x s a b wide (one partial a b x wide h) taken)
