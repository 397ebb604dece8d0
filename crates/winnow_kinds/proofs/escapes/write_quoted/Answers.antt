use Rattle.std.proofs.Common.{refl}
use Rattle.std.proofs.Output.{has_written_styled_append}
use Rattle.winnow_kinds.proofs.escapes.write_quoted.Goals as goal

pub returns : goal.returns
returns g c = λ ascii flush ok.
    let quote = c.in_ok-write_str.ensures.styled flush refl in
    let text = c.in_ok-write_bytes.ensures ascii quote.flush refl in
    let shut = c.write_str-2.ensures.styled text.flush ok in
    has_written_styled_append _ _ _ _ _ _ quote (has_written_styled_append _ _ _ _ _ _ text shut)
