use Rattle.winnow_stream.proofs.lemmas.FrontLemmas.{HasFront-is_offset, is_offset-HasFront, width-front, width-back, is_offset-on, back-on, width-append}
use Rattle.winnow_stream.proofs.laws.front_law.Goals as goal

pub returns-clause-offset : goal.returns-clause-offset
returns-clause-offset g c = λ r n w. (HasFront-is_offset r n, is_offset-HasFront r n w)

pub returns-clause-width : goal.returns-clause-width
returns-clause-width g c = λ r n h. width-front r n h

pub returns-clause-sum : goal.returns-clause-sum
returns-clause-sum g c = λ r n h. width-back r n h

pub returns-clause-further : goal.returns-clause-further
returns-clause-further g c = λ r m n h l. is_offset-on r m n h l

pub returns-clause-on : goal.returns-clause-on
returns-clause-on g c = λ r m n h k l. back-on r m n h k l

pub returns-clause-append : goal.returns-clause-append
returns-clause-append g c = λ p q. width-append p q
