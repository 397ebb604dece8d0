use Rattle.std.proofs.Common.{arith, refl}
use Rattle.winnow_views.proofs.lemmas.BitLemmas.{IsBitSource-units}
use Rattle.winnow_views.proofs.bit_laws.bit_source_law.Goals as goal

pub returns-clause-start : goal.returns-clause-start
returns-clause-start c = λ bytes fits. IsBitSource-units bytes 0 (omega arith) (λ e. refl) (omega (arith, fits))

pub returns-clause-inside : goal.returns-clause-inside
returns-clause-inside c = λ bytes place below some fits. IsBitSource-units bytes place below (λ e. absurd (omega (arith, e, some))) fits
