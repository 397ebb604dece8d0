use Rattle.std.specs.Int.{w64}
use Rattle.winnow_count.proofs.Numbers.{signed_text}
use Rattle.format_json_scalars.proofs.numbers.integer_in.Goals as goal

pub returns : goal.returns
returns c = λ v. (λ e. ((c.parse_slice.ensures v).0 e).1, λ r. (c.parse_slice.ensures v).1 (signed_text w64 v c.args.text.now r, r))
