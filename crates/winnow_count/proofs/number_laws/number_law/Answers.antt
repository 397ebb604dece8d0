use Rattle.winnow_count.proofs.Numbers.{unsigned_law, unsigned_text, signed_law, signed_text}
use Rattle.winnow_count.proofs.number_laws.number_law.Goals as goal

pub returns-clause-unsigned_text : goal.returns-clause-unsigned_text
returns-clause-unsigned_text c = λ bits n text reads. unsigned_text bits n text reads

pub returns-clause-unsigned_only : goal.returns-clause-unsigned_only
returns-clause-unsigned_only c = λ bits m n text one other. unsigned_law bits m n text one other

pub returns-clause-signed_text : goal.returns-clause-signed_text
returns-clause-signed_text c = λ width z text reads. signed_text width z text reads

pub returns-clause-signed_only : goal.returns-clause-signed_only
returns-clause-signed_only c = λ width y z text one other. signed_law width y z text one other
