use Rattle.wb_base.proofs.lemmas.ExchangeLemmas.{twice, same}
use Rattle.wb_base.proofs.exchanging.exchange_law.Goals as goal

pub returns-clause-twice : goal.returns-clause-twice
returns-clause-twice c = twice

pub returns-clause-same : goal.returns-clause-same
returns-clause-same c = same
