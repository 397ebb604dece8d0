-- From the meaning of the parser of trees to the words of trees.
use Rattle.std.proofs.Common.{◌≡◌, ℕ, zero, suc, ◌<◌, ◌≤◌, ◌==◌, Bool, true, false, List, [], ◌∷◌, ◌++◌, length, inl, inr, map, drop, Some, ap, sym, ◌∙◌, subst, refl, arith, append_assoc}
use Rattle.std.specs.Prelude.{⊤, IfSome, Result, Ok, Err}
use Rattle.std.proofs.lemmas.Bool.Decides.{nat_tests}
use Rattle.std.proofs.lemmas.List.{map-append, append-nil}
use Rattle.std.proofs.lemmas.Option.{none-some, same_Some}
use Rattle.std.specs.declared.vec.Vec.{Vec}
use Rattle.std.specs.declared.alloc.Global.{Global}
use Rattle.winnow_stream.specs.Source.{Source, width, first_token, HasPositiveWidths}
use Rattle.winnow_stream.specs.declared.needed.Needed.{Needed}
use Rattle.winnow_stream.proofs.lemmas.FrontLemmas.{width-append}
use Rattle.winnow_parser.specs.Outcome.{Ahead, Failed, Backtracks, Cuts, Needs, Refuses, Gives, Fails, Meaning}
use Rattle.winnow_parser.specs.Meanings.{Returns}
use Rattle.winnow_parser.specs.Answer.{outcome}
use Rattle.winnow_error.specs.declared.failure.Failure.{Failure}
use Rattle.winnow_error.specs.declared.failure.Failure.TheVariants.{Incomplete, Backtrack, Cut, Refused}
use Rattle.winnow_token.specs.OneOf.{IsOneOf}
use Rattle.winnow_combinator.specs.Repeat.{Taking, InTurn, OneMore}
use Rattle.example_nested.specs.Trees.{branches_of, written, written_all, above_all, depth_of}
use Rattle.example_nested.specs.Nested.{Opens, Closes, Bracketed, Branches, Nested}
use Rattle.example_nested.specs.Answers.{StartsWith, text_of, StandsAhead, AreOpen, EndsBefore, IsBegun, IsAnswer, MissesNone}
use Rattle.example_nested.specs.declared.tree.Tree.{Tree}
use Rattle.example_nested.proofs.lemmas.TreeLemmas.{written-out, written-before, depth-out}
use Rattle.example_nested.proofs.lemmas.GrammarLemmas.{begins, none-ahead}

module _ {T : Type 0} (code : T → ℕ) where
  -- ---- One bracket

  -- a first token that passes the test of a character has that character
  bracket : (n : ℕ) (r : Source T) (x : T) → first_token r ≡ Some x → (n == code x) ≡ true
      → (y : T × ℕ) × ((r ≡ y ∷ drop 1 r) × (code y.0 ≡ n))
  bracket n [] x first is = absurd (none-some _ first)
  bracket n (y ∷ ys) x first is =
      let same : code y.0 ≡ code x = ap code (same_Some _ _ first) in (y, (refl, grind (arith, nat_tests, same, is)))

  -- the token that was taken is the bracket, and the rest follows it
  taken : (n : ℕ) (partial : Bool) (a b : Ahead T) (x : T)
      → IsOneOf (λ token. n == code token) partial a (Gives x b)
      → (y : T × ℕ) × ((a.tokens ≡ y ∷ b.tokens) × (code y.0 ≡ n))
  taken n partial a b x h =
      let at = bracket n a.tokens x h.0 h.1 in
      (at.0, (at.1.0 ∙ ap (λ s. at.0 ∷ s) (sym (ap (λ s. s.tokens) h.2)), at.1.1))

  -- a source whose first token fails the test does not begin with that character
  other : (n : ℕ) (r : Source T) → IfSome (first_token r) (λ x. (n == code x) ≡ false)
      → ¬ (StartsWith n (text_of code r))
  other n [] h e = e
  other n (y ∷ ys) h e = absurd (grind (arith, nat_tests, h, e))

  -- ---- Trees in a row

  -- the source is trees of at most this depth, and then the rest
  abbrev Row : ℕ → Source T → List Tree → Source T → Type 0
  Row depth r trees s = (front : Source T) × ((r ≡ front ++ s) × (text_of code front ≡ written_all trees) × (above_all (map depth_of trees) ≤ depth))

  -- a tree before a row makes a longer row
  row-first : (depth : ℕ) (r s t : Source T) (tree : Tree) (trees : List Tree)
      → StandsAhead code depth r tree s → Row (suc depth) s trees t
      → Row (suc depth) r (tree ∷ trees) t
  row-first depth r s t tree trees first rest = (
    first.0 ++ rest.0,
    (
      first.1.0 ∙ ap (λ x. first.0 ++ x) rest.1.0 ∙ sym (append_assoc first.0 rest.0 t),
      map-append (λ x. code x.0) first.0 rest.0 ∙ ap (λ x. x ++ text_of code rest.0) first.1.1 ∙ ap (λ x. written tree ++ x) rest.1.1,
      omega (arith, first.1.2, rest.1.2),
    ),
  )

  -- brackets around a row are a tree with these branches
  between : (depth : ℕ) (a b c d : Source T) (x y : T × ℕ) (trees : List Tree) (tree : Tree)
      → a ≡ x ∷ b → code x.0 ≡ 91 → Row depth b trees c → c ≡ y ∷ d → code y.0 ≡ 93
      → branches_of tree ≡ trees → StandsAhead code depth a tree d
  between depth a b c d x y trees tree begun opens row close closes is = (
    x ∷ (row.0 ++ y ∷ []),
    (
      begun ∙ ap (λ s. x ∷ s) (row.1.0 ∙ ap (λ s. row.0 ++ s) close ∙ sym (append_assoc row.0 (y ∷ []) d)),
      ap (λ n. n ∷ text_of code (row.0 ++ y ∷ [])) opens
          ∙ ap (λ s. 91 ∷ s) (map-append (λ x. code x.0) row.0 (y ∷ []) ∙ ap (λ s. s ++ code y.0 ∷ []) row.1.1 ∙ ap (λ n. written_all trees ++ n ∷ []) closes)
          ∙ sym (written-out tree ∙ ap (λ s. 91 ∷ (written_all s ++ 93 ∷ [])) is),
      subst (λ n. n ≤ depth) (sym (depth-out tree ∙ ap (λ s. above_all (map depth_of s)) is)) row.1.2,
    ),
  )

  -- trees that the parser gives in turn are a row
  in_turn-row : (depth : ℕ) (partial : Bool)
      → ((tree : Tree) (a b : Ahead T) → Nested code depth partial a (Gives tree b)
      → StandsAhead code depth a.tokens tree b.tokens) → (xs : List Tree) (a b : Ahead T)
      → InTurn (Taking (Nested code depth)) partial xs a b → Row (suc depth) a.tokens xs b.tokens
  in_turn-row depth partial given [] a b e = ([], (ap (λ s. s.tokens) e, refl, omega arith))
  in_turn-row depth partial given (x ∷ xs) a b t =
      row-first depth a.tokens t.0.tokens b.tokens x xs (given x a t.0 t.1.0.0) (in_turn-row depth partial given xs t.0 b t.1.1)

  -- ---- Ends inside a bracket

  -- trees, and then n open brackets
  abbrev Opened : ℕ → List ℕ → Type 0
  Opened n text = (trees : List Tree) × ((more : List ℕ) × ((text ≡ written_all trees ++ more) × AreOpen n more))

  -- as `EndsBefore`, inside a bracket
  abbrev EndsWithin : ℕ → Source T → Source T → Type 0
  EndsWithin depth r s = (n : ℕ) × ((front : Source T) × ((r ≡ front ++ s) × Opened n (text_of code front) × (n ≤ depth) × ¬ (StartsWith 93 (text_of code s)) × (n < depth → ¬ (StartsWith 91 (text_of code s)))))

  -- as `IsBegun`, inside a bracket
  abbrev IsBegunWithin : ℕ → Source T → Type 0
  IsBegunWithin depth r = (n : ℕ) × ((n ≤ depth) × Opened n (text_of code r))

  -- with its bracket, an end inside it is an end of the tree
  ends-before : (a b : Source T) (x : T × ℕ) → a ≡ x ∷ b → code x.0 ≡ 91
      → (depth : ℕ) (s : Source T) → EndsWithin depth b s → EndsBefore code depth a s
  ends-before a b x begun opens depth s (n, (front, (whole, (trees, (more, (text, are))), within, closes, deep))) = (
    n,
    (
      x ∷ front,
      (
        begun ∙ ap (λ r. x ∷ r) whole,
        (trees, (more, (ap (λ n. n ∷ text_of code front) opens ∙ ap (λ s. 91 ∷ s) text, are))),
        within,
        closes,
        deep,
      ),
    ),
  )

  -- with its bracket, what is begun inside it is a begun tree
  is-begun : (a b : Source T) (x : T × ℕ) → a ≡ x ∷ b → code x.0 ≡ 91 → (depth : ℕ)
      → IsBegunWithin depth b → IsBegun code depth a
  is-begun a b x begun opens depth (n, (within, (trees, (more, (text, are))))) =
      (suc n, (omega (arith, within), (trees, (more, (ap (text_of code) begun ∙ ap (λ n. n ∷ text_of code b) opens ∙ ap (λ s. 91 ∷ s) text, are)))))

  -- the text of a row is its trees and then the rest
  row-text : (depth : ℕ) (r s : Source T) (trees : List Tree) → Row depth r trees s
      → text_of code r ≡ written_all trees ++ text_of code s
  row-text depth r s trees row = ap (text_of code) row.1.0 ∙ map-append (λ x. code x.0) row.0 s ∙ ap (λ t. t ++ text_of code s) row.1.1

  -- a row breaks off where no bracket closes and none opens that may
  ends-here : (depth : ℕ) (r s : Source T) (trees : List Tree) → Row depth r trees s
      → ¬ (StartsWith 93 (text_of code s)) → (0 < depth → ¬ (StartsWith 91 (text_of code s)))
      → EndsWithin depth r s
  ends-here depth r s trees row closes opens =
      (0, (row.0, (row.1.0, (trees, ([], (row.1.1 ∙ sym (append-nil (written_all trees)), refl))), omega arith, closes, opens)))

  -- a row breaks off where the tree after it does
  ends-further : (depth : ℕ) (r s t : Source T) (trees : List Tree) → Row (suc depth) r trees s
      → EndsBefore code depth s t → EndsWithin (suc depth) r t
  ends-further depth r s t trees row (n, (front, (whole, are, within, closes, deep))) = (
    suc n,
    (
      row.0 ++ front,
      (
        row.1.0 ∙ ap (λ s. row.0 ++ s) whole ∙ sym (append_assoc row.0 front t),
        (trees, (text_of code front, (map-append (λ x. code x.0) row.0 front ∙ ap (λ t. t ++ text_of code front) row.1.1, are))),
        omega (arith, within),
        closes,
        λ l. deep (omega (arith, l)),
      ),
    ),
  )

  -- ---- Failures

  -- the failure is one that `IsAnswer` allows
  abbrev IsFailure : ℕ → Bool → Ahead T → Failed T → Type 0
  IsFailure depth partial a (Backtracks b) = ¬ (StartsWith 91 (text_of code a.tokens)) × (a ≡ b)
  IsFailure depth partial a (Cuts b) = EndsBefore code depth a.tokens b.tokens
  IsFailure depth partial a (Needs n) = (partial ≡ true) × IsBegun code depth a.tokens
  IsFailure depth partial a Refuses = ⊤

  -- the failure is one inside a bracket
  abbrev IsFailureWithin : ℕ → Bool → Ahead T → Failed T → Type 0
  IsFailureWithin depth partial a (Backtracks b) = ⊥
  IsFailureWithin depth partial a (Cuts b) = EndsWithin depth a.tokens b.tokens
  IsFailureWithin depth partial a (Needs n) = (partial ≡ true) × IsBegunWithin depth a.tokens
  IsFailureWithin depth partial a Refuses = ⊤

  -- a failure of the opening bracket is a failure of the tree
  opens-fails : (depth : ℕ) (partial : Bool) (f : Failed T) (a : Ahead T)
      → Opens code partial a (Fails f) → IsFailure depth partial a f
  opens-fails depth partial (Backtracks b) a h = (other 91 a.tokens h.0, sym h.2)
  opens-fails depth partial (Cuts b) a h = absurd h
  opens-fails depth partial (Needs n) a h = (h.1, (0, (omega arith, ap (text_of code) h.0)))
  opens-fails depth partial Refuses a h = tt

  -- a failure after the opening bracket is a failure of the tree
  opened-fails : (depth : ℕ) (partial : Bool) (f : Failed T) (a b : Ahead T) (x : T)
      → Opens code partial a (Gives x b) → IsFailureWithin depth partial b f
      → IsFailure depth partial a f
  opened-fails depth partial (Backtracks c) a b x h k = absurd k
  opened-fails depth partial (Cuts c) a b x h k =
      let begun = taken 91 partial a b x h in ends-before a.tokens b.tokens begun.0 begun.1.0 begun.1.1 depth c.tokens k
  opened-fails depth partial (Needs n) a b x h k =
      let begun = taken 91 partial a b x h in (k.0, is-begun a.tokens b.tokens begun.0 begun.1.0 begun.1.1 depth k.1)
  opened-fails depth partial Refuses a b x h k = tt

  -- a failure of the closing bracket is a failure inside the bracket
  closes-fails : (depth : ℕ) (partial : Bool) (trees : List Tree) (b c : Ahead T) (f : Failed T)
      → Row depth b.tokens trees c.tokens → (0 < depth → ¬ (StartsWith 91 (text_of code c.tokens)))
      → Closes code partial c (Fails f) → IsFailureWithin depth partial b f
  closes-fails depth partial trees b c (Backtracks d) row opens h = h
  closes-fails depth partial trees b c (Cuts d) row opens (inl h) =
      subst (λ s. EndsWithin depth b.tokens s.tokens) (sym h.2) (ends-here depth b.tokens c.tokens trees row (other 93 c.tokens h.0) opens)
  closes-fails depth partial trees b c (Cuts d) row opens (inr h) = absurd h
  closes-fails depth partial trees b c (Needs n) row opens h =
      (h.1, (0, (omega arith, (trees, (text_of code c.tokens, (row-text depth b.tokens c.tokens trees row, ap (text_of code) h.0))))))
  closes-fails depth partial trees b c Refuses row opens h = tt

-- the tokens after a front have positive widths too
positive-behind : {T : Type 0} (front s : Source T) → HasPositiveWidths (front ++ s)
    → HasPositiveWidths s
positive-behind [] s h = h
positive-behind (x ∷ xs) s h = positive-behind xs s h.1

-- the rest after a tree is narrower
narrower : {T : Type 0} (code : T → ℕ) (r front s : Source T) (tree : Tree) → HasPositiveWidths r
    → r ≡ front ++ s → text_of code front ≡ written tree → width s < width r
narrower code r [] s tree h e is = absurd (let f = is ∙ written-out tree in cc)
narrower code r (x ∷ xs) s tree h e is =
    let wide : HasPositiveWidths (x ∷ (xs ++ s)) = subst HasPositiveWidths e h in
    omega (arith, wide.0, ap width e, width-append xs s)

-- ---- One level: brackets and what is between them

module _ {T : Type 0} (code : T → ℕ) (depth : ℕ) (partial : Bool) {O : Type 0} (trees : O → List Tree) (inner : Meaning O T) (row : (x : O) (b c : Ahead T) → inner partial b (Gives x c) → Row code depth b.tokens (trees x) c.tokens) where
  -- brackets around a row give a tree
  bracketed-given : (tree : Tree) (x : O) (a d : Ahead T) → branches_of tree ≡ trees x
      → Bracketed code inner partial a (Gives x d) → StandsAhead code depth a.tokens tree d.tokens
  bracketed-given tree x a d is h =
      let first = h.1.1 in
      let second = first.1.1.1.1 in
      let begun = taken code 91 partial a first.0 h.0.0 first.1.0 in
      let close = taken code 93 partial second.0 d first.1.1.0.1 second.1.1 in
      between code depth a.tokens first.0.tokens second.0.tokens d.tokens begun.0 close.0 (trees first.1.1.0.0) tree begun.1.0 begun.1.1 (row first.1.1.0.0 first.0 second.0 second.1.0) close.1.0 close.1.1 (is ∙ ap trees (sym (first.1.1.1.0 ∙ h.1.0)))

  -- a failure of the brackets, or between them, is a failure of the tree
  bracketed-fails : ((x : O) (b c : Ahead T) → HasPositiveWidths b.tokens
      → inner partial b (Gives x c) → 0 < depth → ¬ (StartsWith 91 (text_of code c.tokens)))
      → ((f : Failed T) (b : Ahead T) → HasPositiveWidths b.tokens → inner partial b (Fails f)
      → IsFailureWithin code depth partial b f) → (f : Failed T) (a : Ahead T)
      → HasPositiveWidths a.tokens → Bracketed code inner partial a (Fails f)
      → IsFailure code depth partial a f
  bracketed-fails ended within f a wide (inl h) = opens-fails code depth partial f a h
  bracketed-fails ended within f a wide (inr (x, (b, (h, k)))) =
      let begun = taken code 91 partial a b x h in
      let wide_b = positive-behind (begun.0 ∷ []) b.tokens (subst HasPositiveWidths begun.1.0 wide) in
      opened-fails code depth partial f a b x h
      (elim k [
        | inl l ↦ within f b wide_b l
        | inr l ↦ closes-fails code depth partial (trees l.0) b l.1.0 f (row l.0 b l.1.0 l.1.1.0) (ended l.0 b l.1.0 wide_b l.1.1.0) l.1.1.1
      ])

-- ---- All levels

module _ {T : Type 0} (code : T → ℕ) (partial : Bool) where
  -- nothing between brackets is the empty row
  leaf-row : (x : Unit {0}) (b c : Ahead T) → Returns tt partial b (Gives x c)
      → Row code 0 b.tokens [] c.tokens
  leaf-row x b c h = ([], (ap (λ s. s.tokens) h.1, refl, omega arith))

  -- the branches that are read are a row, if each tree is one
  branches-row : (depth : ℕ)
      → ((tree : Tree) (a b : Ahead T) → Nested code depth partial a (Gives tree b)
      → StandsAhead code depth a.tokens tree b.tokens) → (v : Vec Tree Global) (b c : Ahead T)
      → Branches code (Nested code depth) partial b (Gives v c)
      → Row code (suc depth) b.tokens v.items c.tokens
  branches-row depth given v b c h =
      subst (λ xs. Row code (suc depth) b.tokens xs c.tokens) (sym h.1.0) (in_turn-row code depth partial given h.0 b c h.1.1.0)

  -- the parser gives trees of at most its depth
  given : (depth : ℕ) (tree : Tree) (a b : Ahead T) → Nested code depth partial a (Gives tree b)
      → StandsAhead code depth a.tokens tree b.tokens
  given zero tree a b h = bracketed-given code 0 partial (λ u. []) (Returns tt) leaf-row tree h.0 a b h.1.0 h.1.1
  given (suc depth) tree a b h =
      bracketed-given code (suc depth) partial (λ v. v.items) (Branches code (Nested code depth)) (branches-row depth (given depth)) tree h.0 a b h.1.0 h.1.1

  module _ (depth : ℕ) (within : (f : Failed T) (a : Ahead T) → HasPositiveWidths a.tokens → Nested code depth partial a (Fails f) → IsFailure code depth partial a f) where
    -- the branches that are read are a row
    rows : (v : Vec Tree Global) (b c : Ahead T)
        → Branches code (Nested code depth) partial b (Gives v c)
        → Row code (suc depth) b.tokens v.items c.tokens
    rows = branches-row depth (given depth)

    -- after the branches no bracket opens
    branches-end : (v : Vec Tree Global) (b c : Ahead T) → HasPositiveWidths b.tokens
        → Branches code (Nested code depth) partial b (Gives v c) → 0 < suc depth
        → ¬ (StartsWith 91 (text_of code c.tokens))
    branches-end v b c wide (xs, (e, (turn, enough, inl full))) l = absurd (none-some _ full)
    branches-end v b c wide (xs, (e, (turn, enough, inr (below, more)))) l =
        let row = in_turn-row code depth partial (given depth) xs b c turn in
        (within (Backtracks more.2.0) c (positive-behind row.0 c.tokens (subst HasPositiveWidths row.1.0 wide)) more.2.1).0

    -- a failure of one more tree after a row is a failure inside the bracket
    more-fails : (f : Failed T) (xs : List Tree) (a b : Ahead T)
        → Row code (suc depth) a.tokens xs b.tokens → HasPositiveWidths b.tokens
        → OneMore 0 (length xs) (Taking (Nested code depth)) partial b (Fails f)
        → IsFailureWithin code (suc depth) partial a f
    more-fails (Backtracks c) xs a b row wide h = omega (arith, h.0)
    more-fails (Cuts c) xs a b row wide (t, inl h) =
        ends-further code depth a.tokens b.tokens c.tokens xs row (within (Cuts c) b wide h)
    more-fails (Cuts c) xs a b row wide (t, inr h) =
        let stands = given depth h.0 b c h.1.0 in
        absurd (omega (arith, h.1.1, narrower code b.tokens stands.0 c.tokens h.0 wide stands.1.0 stands.1.1))
    more-fails (Needs n) xs a b row wide h =
        let told = within (Needs n) b wide h.1 in
        (told.0, (told.1.0, (told.1.1.0, (xs, (text_of code b.tokens, (row-text code (suc depth) a.tokens b.tokens xs row, told.1.1.1))))))
    more-fails Refuses xs a b row wide h = tt

    -- the same after trees in turn
    row-fails : (f : Failed T) (xs : List Tree) (a b : Ahead T) → HasPositiveWidths a.tokens
        → InTurn (Taking (Nested code depth)) partial xs a b
        → OneMore 0 (length xs) (Taking (Nested code depth)) partial b (Fails f)
        → IsFailureWithin code (suc depth) partial a f
    row-fails f xs a b wide turn h =
        let row = in_turn-row code depth partial (given depth) xs a b turn in
        more-fails f xs a b row (positive-behind row.0 b.tokens (subst HasPositiveWidths row.1.0 wide)) h

    -- a failure of the branches is a failure inside the bracket
    branches-fail : (f : Failed T) (a : Ahead T) → HasPositiveWidths a.tokens
        → Branches code (Nested code depth) partial a (Fails f)
        → IsFailureWithin code (suc depth) partial a f
    branches-fail (Backtracks c) a wide h = row-fails (Backtracks c) h.0 a h.1.0 wide h.1.1.0 h.1.1.2
    branches-fail (Cuts c) a wide h = row-fails (Cuts c) h.0 a h.1.0 wide h.1.1.0 h.1.1.2
    branches-fail (Needs n) a wide h = row-fails (Needs n) h.0 a h.1.0 wide h.1.1.0 h.1.1.2
    branches-fail Refuses a wide h = tt

  -- each failure of the parser is one that `IsAnswer` allows
  fails : (depth : ℕ) (f : Failed T) (a : Ahead T) → HasPositiveWidths a.tokens
      → Nested code depth partial a (Fails f) → IsFailure code depth partial a f
  fails zero f a wide h =
      bracketed-fails code 0 partial (λ u. []) (Returns tt) leaf-row (λ x b c w k l. absurd (omega (arith, l))) (λ f b w k. absurd k) f a wide h
  fails (suc depth) f a wide h =
      bracketed-fails code (suc depth) partial (λ v. v.items) (Branches code (Nested code depth)) (rows depth (fails depth)) (branches-end depth (fails depth)) (branches-fail depth (fails depth)) f a wide h

  -- ---- The answer

  -- each answer of the parser is one that `IsAnswer` allows
  pub answers : {E : Type 0} (depth : ℕ) (a b : Ahead T) (result : Result Tree (Failure E Needed))
      → HasPositiveWidths a.tokens → Nested code depth partial a (outcome result b)
      → IsAnswer code depth partial a.tokens result b.tokens
  answers depth a b (Ok tree) wide h = given depth tree a b h
  answers depth a b (Err (Backtrack e)) wide h =
      let told = fails depth (Backtracks b) a wide h in (told.0, ap (λ s. s.tokens) told.1)
  answers depth a b (Err (Cut e)) wide h = fails depth (Cuts b) a wide h
  answers depth a b (Err (Incomplete n)) wide h = fails depth (Needs n) a wide h
  answers depth a b (Err (Refused e)) wide h = tt

module _ {T : Type 0} (code : T → ℕ) where
  -- the text of a source that begins with a tree begins with the tree as it is written
  stands-text : (depth : ℕ) (whole : Source T) (tree : Tree) (rest : Source T)
      → StandsAhead code depth whole tree rest
      → text_of code whole ≡ written tree ++ text_of code rest
  stands-text depth whole tree rest (front, (e, is, deep)) =
      ap (text_of code) e ∙ map-append (λ x. code x.0) front rest ∙ ap (λ s. s ++ text_of code rest) is

  -- a text that ends while brackets are open does not begin with a tree
  begun-misses : (n depth : ℕ) (whole : Source T) (tree : Tree) (rest : Source T)
      → AreOpen n (text_of code whole) → ¬ (StandsAhead code depth whole tree rest)
  begun-misses zero depth whole tree rest begun stands =
      let e = sym begun ∙ stands-text depth whole tree rest stands ∙ written-before tree (text_of code rest) in cc
  begun-misses (suc n) depth whole tree rest begun stands =
      none-ahead n depth tree (text_of code whole) [] (text_of code rest) begun (λ h. h) (λ l h. h) stands.1.2 (append-nil (text_of code whole) ∙ stands-text depth whole tree rest stands)

  -- where an answer that `IsAnswer` allows is a failure, there was no tree
  pub misses_none : {E : Type 0} (depth : ℕ) (partial : Bool) (whole rest : Source T)
      (result : Result Tree (Failure E Needed)) → IsAnswer code depth partial whole result rest
      → MissesNone code depth whole result
  misses_none depth partial whole rest (Ok tree) h = tt
  misses_none depth partial whole rest (Err (Backtrack e)) h = λ t behind stands.
      h.0 (begins 91 (text_of code whole) _ (stands-text depth whole t behind stands ∙ written-before t (text_of code behind)))
  misses_none depth partial whole rest (Err (Cut e)) (n, (front, (is, begun, within, closes, deep))) = λ t behind stands.
      none-ahead n depth t (text_of code front) (text_of code rest) (text_of code behind) begun closes deep stands.1.2
      (sym (ap (text_of code) is ∙ map-append (λ x. code x.0) front rest) ∙ stands-text depth whole t behind stands)
  misses_none depth partial whole rest (Err (Incomplete n)) h = λ t behind stands. begun-misses h.1.0 depth whole t behind h.1.1.1 stands
  misses_none depth partial whole rest (Err (Refused e)) h = tt
