use Rattle.std.proofs.Common.{◌∙◌}
use Rattle.winnow_match.proofs.lemmas.MoveLemmas.{find-stable}
use Rattle.winnow_match.proofs.lemmas.TailLemmas.{one-length}
use Rattle.winnow_match.proofs.laws.find_more_law.Goals as goal

pub returns : goal.returns
returns c = λ needles bytes more r one h. (find-stable needles bytes more (one-length needles bytes r one h)).0 ∙ h
