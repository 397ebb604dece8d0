use Rattle.winnow_error_context.proofs.lemmas.RefusedLemmas.{not-both}
use Rattle.winnow_error_context.proofs.str_context.QuotedDisplay.fmt.Goals as goal

-- if a text could not be written, nothing is promised
pub returns-in_err-write_str-clause-writes : goal.returns-in_err-write_str-clause-writes
returns-in_err-write_str-clause-writes g c = λ _ ok. absurd (not-both _ c.from_residual.ensures.0 ok)

pub returns-in_err-write_escaped-clause-writes : goal.returns-in_err-write_escaped-clause-writes
returns-in_err-write_escaped-clause-writes g c = λ _ ok. absurd (not-both _ c.from_residual-in_err-write_escaped.ensures.0 ok)
