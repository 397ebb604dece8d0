-- Trees, and how they are written.
use Rattle.std.specs.Prelude.{ℕ, suc, List, [], ◌∷◌, ◌++◌, max}
use Rattle.std.specs.List.{flat_map}
use Rattle.example_nested.specs.declared.tree.Tree.{Tree}
use Rattle.example_nested.specs.declared.tree.Tree.TheFolds.{fold-Tree}
use Rattle.example_nested.specs.declared.tree.Tree.TheViews.{out-Tree}

-- the branches of a tree
abbrev pub branches_of : Tree → List Tree
branches_of tree = (out-Tree tree).branches.items

-- a tree is written as its branches are, one after the other, between brackets
abbrev pub written : Tree → List ℕ
written = fold-Tree (List ℕ) (λ tree. 91 ∷ (flat_map (λ text. text) tree.branches.items ++ 93 ∷ []))

-- several trees are written one after the other
abbrev pub written_all : List Tree → List ℕ
written_all trees = flat_map written trees

-- one more than the largest of some numbers, or 0 where there is none
abbrev pub above_all : List ℕ → ℕ
above_all [] = 0
above_all (n ∷ ns) = max (suc n) (above_all ns)

-- the depth of a tree: one more than that of its deepest branch, or 0 without branches
abbrev pub depth_of : Tree → ℕ
depth_of = fold-Tree ℕ (λ tree. above_all tree.branches.items)
