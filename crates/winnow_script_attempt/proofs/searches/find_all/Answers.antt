use Rattle.winnow_match.specs.Search.{bytes_of_needles}
use Rattle.winnow_match.proofs.lemmas.AnswerLemmas.{AreOffsets-bytes}
use Rattle.winnow_script_attempt.proofs.lemmas.LookLemmas.{hit-fits}
use Rattle.winnow_script_attempt.proofs.searches.find_all.Goals as goal

pub returns-then-resumes-clause-fits : goal.returns-then-resumes-clause-fits
returns-then-resumes-clause-fits c =
    hit-fits _ c.args.bytes.now (AreOffsets-bytes (bytes_of_needles c.args.needles.now) c.args.bytes.now c.find_on.result c.find_on.ensures)

pub returns-else-resumes-clause-fits : goal.returns-else-resumes-clause-fits
returns-else-resumes-clause-fits c =
    hit-fits _ c.args.bytes.now (AreOffsets-bytes (bytes_of_needles c.args.needles.now) c.args.bytes.now c.find_once.result c.find_once.ensures)
