use Rattle.winnow_binary.proofs.lemmas.JoinedLemmas.{length-fields, fields-below, joined-fields, fields-tell}
use Rattle.winnow_binary.proofs.bit_laws.bit_fields_law.Goals as goal

pub returns-clause-count : goal.returns-clause-count
returns-clause-count c = length-fields

pub returns-clause-widths : goal.returns-clause-widths
returns-clause-widths c = fields-below

pub returns-clause-joined : goal.returns-clause-joined
returns-clause-joined c = joined-fields

pub returns-clause-told : goal.returns-clause-told
returns-clause-told c = fields-tell
