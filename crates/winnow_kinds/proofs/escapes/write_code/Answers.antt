use Rattle.std.proofs.Common.{refl}
use Rattle.std.proofs.Output.{has_written_styled_append}
use Rattle.winnow_kinds.proofs.escapes.write_code.Goals as goal

pub returns-clause-styled : goal.returns-clause-styled
returns-clause-styled g c = λ flush ok.
    let front = c.in_ok-write_str.ensures.styled flush refl in
    let code = c.in_ok-write_digits.ensures.styled front.flush refl in
    let shut = c.write_str-2.ensures.styled code.flush ok in
    has_written_styled_append _ _ _ _ _ _ front (has_written_styled_append _ _ _ _ _ _ code shut)
