use Rattle.std.proofs.Common.{arith}
use Rattle.winnow_token.proofs.lemmas.CountLemmas.{enough, enough_back, all, all_back, length-front_le}
use Rattle.winnow_token.proofs.laws.count_law.Goals as goal

pub returns-clause-enough : goal.returns-clause-enough
returns-clause-enough g c = λ r n w h o. (
  (λ p. enough r n w h o p.0 p.1),
  (λ l. (omega (arith, l, length-front_le r w), enough_back r n w o l)),
)

pub returns-clause-all : goal.returns-clause-all
returns-clause-all g c = λ r w h o. (all r w h o, all_back r w o)
