use Rattle.winnow_stream.proofs.lemmas.FrontLemmas.{front-place, back-place, front-whole, back-whole, nil_from_width}
use Rattle.winnow_stream.proofs.lemmas.OffsetLemmas.{offset_at-within, offset_at-place}
use Rattle.winnow_stream.proofs.laws.taken_law.Goals as goal

pub returns-clause-front : goal.returns-clause-front
returns-clause-front g c = λ r k h l. front-place r k h l

pub returns-clause-back : goal.returns-clause-back
returns-clause-back g c = λ r k h l. back-place r k h l

pub returns-clause-fits : goal.returns-clause-fits
returns-clause-fits g c = λ counts_shortage r n w e. offset_at-within counts_shortage r n w e

pub returns-clause-at : goal.returns-clause-at
returns-clause-at g c = λ counts_shortage r n w e. offset_at-place counts_shortage r n w e

pub returns-clause-whole : goal.returns-clause-whole
returns-clause-whole g c = λ r h. front-whole r h

pub returns-clause-end : goal.returns-clause-end
returns-clause-end g c = λ r h. back-whole r h

pub returns-clause-none : goal.returns-clause-none
returns-clause-none g c = λ r h e. nil_from_width r h e
