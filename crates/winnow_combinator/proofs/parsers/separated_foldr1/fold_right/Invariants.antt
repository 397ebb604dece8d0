use Rattle.std.specs.Prelude.{◌≡◌, ◌∷◌, ◌++◌, List, length}
use Rattle.winnow_combinator.specs.SeparatedFoldr1.{FoldsRight}
use Rattle.winnow_combinator.proofs.parsers.separated_foldr1.fold_right.Given as goal

-- the pairs are those that are left, the current separator with some value, and later ones that
-- were folded into the result to the right
abbrev pub invariant-pairs : goal.invariant-pairs
invariant-pairs g l =
    (later : List (g.row.T.Denot × g.row.O.Denot)) × ((value : g.row.O.Denot) × record {
      all : l.fn.pairs.items ≡ l.pairs.items ++ (l.separator, value) ∷ later;
      folds : FoldsRight
          (λ left separator right new. g.F.Fn.post l.op (left, (separator, (right, tt))) new)
          value later l.right;
    })

-- each turn leaves one pair fewer
abbrev pub decreases-pairs : goal.decreases-pairs
decreases-pairs g l = length l.pairs.items
