-- The equations of `written` and `depth_of`.
use Rattle.std.proofs.Common.{◌≡◌, ℕ, List, [], ◌∷◌, ◌++◌, map, ap, ◌∙◌, append_assoc}
use Rattle.std.specs.List.{flat_map}
use Rattle.std.proofs.lemmas.List.Folds.{flat_map-map}
use Rattle.example_nested.specs.Trees.{branches_of, written, written_all, above_all, depth_of}
use Rattle.example_nested.specs.declared.tree.Tree.{Tree}
use Rattle.example_nested.specs.declared.tree.Tree.TheOpen.{Tree-F}
use Rattle.example_nested.specs.declared.tree.Tree.TheViews.{roll-Tree}
use Rattle.example_nested.specs.declared.tree.Tree.TheFolds.{fold-roll-Tree, fold_out-Tree}

-- a tree is written as its branches between brackets
pub written-out : (tree : Tree) → written tree ≡ 91 ∷ (written_all (branches_of tree) ++ 93 ∷ [])
written-out tree =
    fold_out-Tree (List ℕ) (λ tree. 91 ∷ (flat_map (λ text. text) tree.branches.items ++ 93 ∷ [])) tree
    ∙ ap (λ text. 91 ∷ (text ++ 93 ∷ [])) (flat_map-map (λ text. text) written (branches_of tree))

-- the depth of a tree, by those of its branches
pub depth-out : (tree : Tree) → depth_of tree ≡ above_all (map depth_of (branches_of tree))
depth-out = fold_out-Tree ℕ (λ tree. above_all tree.branches.items)

-- a tree with more text after it begins with a bracket and its branches
pub written-before : (tree : Tree) (more : List ℕ)
    → written tree ++ more ≡ 91 ∷ (written_all (branches_of tree) ++ 93 ∷ more)
written-before tree more =
    ap (λ text. text ++ more) (written-out tree) ∙ ap (λ text. 91 ∷ text) (append_assoc (written_all (branches_of tree)) (93 ∷ []) more)

-- `written-out` for a tree that is made of its parts
pub written-roll : (tree : Tree-F Tree)
    → written (roll-Tree tree) ≡ 91 ∷ (written_all tree.branches.items ++ 93 ∷ [])
written-roll tree =
    fold-roll-Tree (List ℕ) (λ tree. 91 ∷ (flat_map (λ text. text) tree.branches.items ++ 93 ∷ [])) tree
    ∙ ap (λ text. 91 ∷ (text ++ 93 ∷ [])) (flat_map-map (λ text. text) written tree.branches.items)
