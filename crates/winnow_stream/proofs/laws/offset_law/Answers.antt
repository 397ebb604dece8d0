use Rattle.winnow_stream.proofs.lemmas.FrontLemmas.{is_offset-whole}
use Rattle.winnow_stream.proofs.lemmas.OffsetLemmas.{is_offset-offset_at, is_offset-first_offset}
use Rattle.winnow_stream.proofs.laws.offset_law.Goals as goal

pub returns-clause-at : goal.returns-clause-at
returns-clause-at g c = λ counts_shortage r n w h e. is_offset-offset_at counts_shortage r n w h e

pub returns-clause-first : goal.returns-clause-first
returns-clause-first g c = λ holds r w h e. is_offset-first_offset holds r w h e

pub returns-clause-end : goal.returns-clause-end
returns-clause-end g c = λ r h. is_offset-whole r h
