use Rattle.winnow_parser.specs.Determined.{Shows}
use Rattle.winnow_expression.proofs.lemmas.AgreeingThenLemmas.{agree-yields}
use Rattle.winnow_expression.proofs.laws.determined_fold_law.Goals as goal

pub returns-clause-prefix : goal.returns-clause-prefix
returns-clause-prefix g c = λ view v f respects p q x y e h. agree-yields (Shows view) (λ k. g.F.Fn.post f (p, (x, tt)) k) (λ k. g.F.Fn.post f (q, (y, tt)) k) (λ k l. respects p q x y k l e h)

pub returns-clause-postfix : goal.returns-clause-postfix
returns-clause-postfix g c = λ view v f respects p q x y e h. agree-yields (Shows view) (λ k. g.G.Fn.post f (x, (p, tt)) k) (λ k. g.G.Fn.post f (y, (q, tt)) k) (λ k l. respects p q x y k l e h)

pub returns-clause-infixed : goal.returns-clause-infixed
returns-clause-infixed g c = λ view v f respects x y p q z w e h i. agree-yields (Shows view) (λ k. g.H.Fn.post f (x, (p, (z, tt))) k) (λ k. g.H.Fn.post f (y, (q, (w, tt))) k) (λ k l. respects x y p q z w k l e h i)
