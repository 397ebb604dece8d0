use Rattle.winnow_error_context.proofs.lemmas.RefusedLemmas.{displays-refused}
use Rattle.winnow_error_context.proofs.variants.write_variant.Goals as goal

-- if a text could not be written, nothing is promised
pub returns-in_err-write_str : goal.returns-in_err-write_str
returns-in_err-write_str g c = displays-refused _ _ _ _ _ c.from_residual.ensures.0

pub returns-in_err-write_str-2 : goal.returns-in_err-write_str-2
returns-in_err-write_str-2 g c = displays-refused _ _ _ _ _ c.from_residual-in_err-write_str-2.ensures.0

pub returns-in_err-fmt : goal.returns-in_err-fmt
returns-in_err-fmt g c = displays-refused _ _ _ _ _ c.from_residual-in_err-fmt.ensures.0
