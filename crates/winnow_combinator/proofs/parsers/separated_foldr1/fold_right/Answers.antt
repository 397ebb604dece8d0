use Rattle.std.proofs.Common.{[], ◌∷◌, ◌++◌, ◌∙◌, refl, ap, append_assoc}
use Rattle.winnow_combinator.proofs.parsers.separated_foldr1.fold_right.Goals as goal

pub pairs-init : goal.pairs-init
pairs-init g c = ([], (c.in-Some.value, record { all = c.in-Some.ensures.items; folds = refl }))

pub pairs-preserved : goal.pairs-preserved
pairs-preserved g c =
    let so_far = c.pairs.invariant.1.1 in
    let later = (c.pairs.separator, c.pairs.invariant.1.0) ∷ c.pairs.invariant.0 in (
      later,
      (
        c.in-Some-pop.left,
        record {
          all = so_far.all ∙ ap (λ l. l ++ later) c.in-Some-pop.ensures.items ∙ append_assoc c.pop-in-pairs.new.self.items ((c.in-Some-pop.before, c.in-Some-pop.left) ∷ []) later;
          folds = (c.pairs.right, (so_far.folds, c.op-right.ensures));
        },
      ),
    )
