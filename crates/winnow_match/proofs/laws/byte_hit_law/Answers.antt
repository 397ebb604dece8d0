use Rattle.winnow_match.proofs.lemmas.HitLemmas.{hit-byte}
use Rattle.winnow_match.proofs.laws.byte_hit_law.Goals as goal

pub returns : goal.returns
returns c = λ byte bytes. hit-byte byte bytes
