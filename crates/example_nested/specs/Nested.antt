-- The meaning of the parser of trees, as it is written with the combinators.
use Rattle.std.specs.Prelude.{◌≡◌, ℕ, zero, suc, ◌-◌, ◌<◌, ◌==◌, [], None, ⊤}
use Rattle.std.proofs.Common.{ap, sym, arith}
use Rattle.std.specs.declared.vec.Vec.{Vec}
use Rattle.std.specs.declared.alloc.Global.{Global}
use Rattle.winnow_parser.specs.Outcome.{Meaning}
use Rattle.winnow_parser.specs.Laws.{IsParser}
use Rattle.winnow_parser.specs.Meanings.{Returns, Maps, IsPreceded, IsTerminated, CutsErr}
use Rattle.winnow_parser.specs.Parts.{IsParser-Returns, IsParser-Maps, IsParser-IsPreceded, IsParser-IsTerminated, IsParser-CutsErr}
use Rattle.winnow_token.specs.OneOf.{IsOneOf, IsParser-IsOneOf}
use Rattle.winnow_combinator.specs.Repeat.{Repeats, IsParser-Repeats}
use Rattle.winnow_combinator.specs.Gathering.{Gathered, IsParser-Gathered}
use Rattle.example_nested.specs.Trees.{branches_of}
use Rattle.example_nested.specs.declared.tree.Tree.{Tree}

-- the tree has no branches
abbrev pub IsLeaf : Unit {0} → Tree → Type 0
IsLeaf nothing tree = branches_of tree ≡ []

-- the tree has the branches in the vector
abbrev pub HasBranches : Vec Tree Global → Tree → Type 0
HasBranches vector tree = branches_of tree ≡ vector.items

module _ {T : Type 0} (code : T → ℕ) where
  -- the opening bracket
  abbrev pub Opens : Meaning T T
  Opens = IsOneOf (λ token. 91 == code token)

  -- the closing bracket; the parser cuts where it is missing
  abbrev pub Closes : Meaning T T
  Closes = CutsErr (IsOneOf (λ token. 93 == code token))

  -- what the inner parser means, between brackets
  abbrev pub Bracketed : {O : Type 0} → Meaning O T → Meaning O T
  Bracketed inner = IsPreceded Opens (IsTerminated inner Closes)

  -- trees in a row, gathered in a vector
  abbrev pub Branches : Meaning Tree T → Meaning (Vec Tree Global) T
  Branches inner = Gathered ⊤ (λ trees vector. vector.items ≡ trees) (Repeats 0 None inner)

  -- brackets with nothing between them
  abbrev pub Leaf : Meaning Tree T
  Leaf = Maps IsLeaf (Bracketed (Returns tt))

  -- brackets around the trees that the inner meaning gives
  abbrev pub Around : Meaning Tree T → Meaning Tree T
  Around inner = Maps HasBranches (Bracketed (Branches inner))

  -- a tree of at most this depth
  abbrev pub Nested : ℕ → Meaning Tree T
  Nested zero = Leaf
  Nested (suc depth) = Around (Nested depth)

  -- `Bracketed` keeps the laws of a parser
  IsParser-Bracketed : {O : Type 0} (inner : Meaning O T) → IsParser inner
      → IsParser (Bracketed inner)
  IsParser-Bracketed inner p =
      let closes = IsOneOf (λ token. 93 == code token) in
      IsParser-IsPreceded Opens (IsTerminated inner Closes) (IsParser-IsOneOf (λ token. 91 == code token))
      (IsParser-IsTerminated inner Closes p (IsParser-CutsErr closes (IsParser-IsOneOf (λ token. 93 == code token))))

  -- `Nested` keeps the laws of a parser
  pub IsParser-Nested : (depth : ℕ) → IsParser (Nested depth)
  IsParser-Nested zero = IsParser-Maps IsLeaf (Bracketed (Returns tt)) (IsParser-Bracketed (Returns tt) (IsParser-Returns tt))
  IsParser-Nested (suc depth) =
      let inner = Branches (Nested depth) in
      IsParser-Maps HasBranches (Bracketed inner)
      (IsParser-Bracketed inner (IsParser-Gathered ⊤ (λ trees vector. vector.items ≡ trees) (IsParser-Repeats 0 None (IsParser-Nested depth))))

  -- `Nested` at depth 0 is `Leaf`
  pub Nested-zero : (depth : ℕ) → depth ≡ 0 → Leaf ≡ Nested depth
  Nested-zero depth e = ap Nested (sym e)

  -- `Nested` at another depth is `Around` the one below
  pub Nested-suc : (depth : ℕ) → 0 < depth → Around (Nested (depth - 1)) ≡ Nested depth
  Nested-suc zero l = absurd (omega (arith, l))
  Nested-suc (suc depth) l = ap (λ n. Around (Nested n)) (omega arith)
