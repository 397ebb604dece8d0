use Rattle.winnow_script_feed.proofs.lemmas.InputLemmas.{joined-push}
use Rattle.winnow_script_feed.proofs.lemmas.PieceLemmas.{taken-more}
use Rattle.winnow_script_feed.proofs.laws.pieces_law.Goals as goal

pub returns-clause-joined : goal.returns-clause-joined
returns-clause-joined c = λ pieces piece. joined-push pieces piece

pub returns-clause-taken : goal.returns-clause-taken
returns-clause-taken c = λ pieces i other h. taken-more pieces i other h
