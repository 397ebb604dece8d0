use Rattle.winnow_resume.proofs.lemmas.PlainLemmas.{RetriesAfter-plain, ResumesAfter-plain}
use Rattle.winnow_resume.proofs.laws.without_recovery_law.Goals as goal

pub returns-clause-retry : goal.returns-clause-retry
returns-clause-retry g c = λ none p r.
    RetriesAfter-plain g.I.Recover.supports_recovery none (g.P.Parser.means p) (g.R.Parser.means r)

pub returns-clause-resume : goal.returns-clause-resume
returns-clause-resume g c = λ none p r.
    ResumesAfter-plain g.I.Recover.supports_recovery none (g.P.Parser.means p) (g.R.Parser.means r)
