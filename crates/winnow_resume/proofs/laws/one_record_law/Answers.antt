use Rattle.winnow_resume.proofs.lemmas.RecordLemmas.{added-one}
use Rattle.winnow_resume.proofs.laws.one_record_law.Goals as goal

pub returns : goal.returns
returns g c = λ p r partial s t one.
    added-one g.I.Stream.keeps g.F.FromRecoverableError.recovered s one.left one.recorded.ended t one.start one.at one.error one.kept one.recorded.kept one.recorded.recorded
