-- The range of tokens in a row, by those of the first and of the last ones.
use Rattle.std.proofs.Common.{◌≡◌, ℕ, suc, ◌-◌, List, [], ◌∷◌, ◌++◌, length, Option, Some, None, refl, ap, sym, ◌∙◌, arith, length-append}
use Rattle.std.specs.Prelude.{slice_get}
use Rattle.std.specs.declared.ops.Range.{Range}
use Rattle.std.proofs.lemmas.Option.{none-some, same_Some}
use Rattle.winnow_spans.specs.TokenSpan.{range_between, span_of, IsSpan}
use Rattle.example_lexer.specs.declared.token.Token.{Token}
use Rattle.example_two_stages.specs.Formulas.{Part, Covers, Writes, term, factor, operation, number, name, parens, minus}
use Rattle.example_two_stages.specs.Trees.{Shape, range_of, IsTree}
use Rattle.example_two_stages.specs.declared.tree.Tree.{Tree}

module _ {T : Type 0} where
  -- the last token
  abbrev last_of : List T → Option T
  last_of tokens = slice_get tokens (length tokens - 1)

  -- the last token after others is that of the last ones
  last-append : (ls : List T) (y : T) (rs : List T) → last_of (ls ++ y ∷ rs) ≡ last_of (y ∷ rs)
  last-append [] y rs = refl
  last-append (a ∷ ls) y rs =
      let n : length (a ∷ (ls ++ y ∷ rs)) - 1 ≡ suc (length (ls ++ y ∷ rs) - 1) = omega (arith, length-append ls (y ∷ rs)) in
      ap (slice_get (a ∷ (ls ++ y ∷ rs))) n ∙ last-append ls y rs

module _ {T : Type 0} (starts ends : T → ℕ) where
  -- the range from the first of some tokens to the last of others
  between : (x y : T) (l m : Option T) (one other : Range ℕ)
      → range_between starts ends (Some x) l ≡ Some one
      → range_between starts ends (Some y) m ≡ Some other
      → range_between starts ends (Some x) m ≡ Some (record { start = one.start; end = other.end })
  between x y None m one other h k = absurd (none-some _ h)
  between x y (Some l) None one other h k = absurd (none-some _ k)
  between x y (Some l) (Some m) one other h k =
      ap (λ n. Some (record { start = n; end = ends m })) (ap (λ r. r.start) (same_Some _ _ h))
      ∙ ap (λ n. Some (record { start = one.start; end = n })) (ap (λ r. r.end) (same_Some _ _ k))

  -- the range of two lists with a token between them
  span-around : (ls rs : List T) (s : T) (one other : Range ℕ)
      → span_of starts ends ls ≡ Some one → span_of starts ends rs ≡ Some other
      → span_of starts ends (ls ++ s ∷ rs) ≡ Some (record { start = one.start; end = other.end })
  span-around [] rs s one other h k = absurd (none-some _ h)
  span-around (x ∷ ls) [] s one other h k = absurd (none-some _ k)
  span-around (x ∷ ls) (y ∷ rs) s one other h k =
      ap (range_between starts ends (Some x)) (last-append (x ∷ ls) s (y ∷ rs) ∙ last-append (s ∷ []) y rs)
      ∙ between x y (last_of (x ∷ ls)) (last_of (y ∷ rs)) one other h k

  -- the range of a token and those after it
  span-after : (s : T) (rs : List T) (one other : Range ℕ)
      → span_of starts ends (s ∷ []) ≡ Some one → span_of starts ends rs ≡ Some other
      → span_of starts ends (s ∷ rs) ≡ Some (record { start = one.start; end = other.end })
  span-after s [] one other h k = absurd (none-some _ k)
  span-after s (y ∷ rs) one other h k =
      ap (range_between starts ends (Some s)) (last-append (s ∷ []) y rs)
      ∙ between s y (Some s) (last_of (y ∷ rs)) one other h k

  -- a list that is not empty has a last token
  last-some : (x : T) (xs : List T) → (y : T) × (last_of (x ∷ xs) ≡ Some y)
  last-some x [] = (x, refl)
  last-some x (y ∷ ys) = let r = last-some y ys in (r.0, last-append (x ∷ []) y ys ∙ r.1)

  -- a range that tokens have, if they have one, is theirs, since they are not none
  pub span-is : (x : T) (xs : List T) (range : Range ℕ)
      → IsSpan (span_of starts ends (x ∷ xs)) range → span_of starts ends (x ∷ xs) ≡ Some range
  span-is x xs range is = by (last_of (x ∷ xs)) (last-some x xs).0 (last-some x xs).1 is
    where
      by : (last : Option T) (y : T) → last ≡ Some y
          → IsSpan (range_between starts ends (Some x) last) range → range_between starts ends (Some x) last ≡ Some range
      by None y e h = absurd (none-some _ e)
      by (Some z) y e h = ap Some h

-- an operator between two formulas covers its tokens
pub covers-operation : (tree left right : Tree) (shape : Shape) (sign : Token) (ls rs : List Token)
    → Covers left ls → Covers right rs
    → IsTree (record { start = (range_of left).start; end = (range_of right).end }) shape tree
    → Covers tree (ls ++ sign ∷ rs)
covers-operation tree left right shape sign ls rs h k is =
    span-around (λ token. token.span.start) (λ token. token.span.end) ls rs sign (range_of left) (range_of right) h k ∙ ap Some (sym is.0)

-- a sign and a formula after it cover their tokens
pub covers-minus : (tree inside : Tree) (shape : Shape) (sign : Token)
    (range : Range ℕ) (ts : List Token)
    → span_of (λ token. token.span.start) (λ token. token.span.end) (sign ∷ []) ≡ Some range
    → Covers inside ts
    → IsTree (record { start = range.start; end = (range_of inside).end }) shape tree
    → Covers tree (sign ∷ ts)
covers-minus tree inside shape sign range ts h k is =
    span-after (λ token. token.span.start) (λ token. token.span.end) sign ts range (range_of inside) h k ∙ ap Some (sym is.0)

-- the tokens that write a formula have its range
pub writes-covers : (source : List ℕ) {part : Part} {tree : Tree} {ts : List Token}
    → Writes source part tree ts → Covers tree ts
writes-covers source (term h) = writes-covers source h
writes-covers source (factor h) = writes-covers source h
writes-covers source (operation t left right operator sign ls rs h s k shape covers) = covers
writes-covers source (number t token k shape covers) = covers
writes-covers source (name t token k shape covers) = covers
writes-covers source (parens t inside opening closing ts s h c shape covers) = covers
writes-covers source (minus t inside sign ts s h shape covers) = covers
