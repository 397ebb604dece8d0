use Rattle.std.proofs.Common.{◌≡◌, ap, ◌∙◌, length, arith}
use Rattle.std.proofs.lemmas.List.{length-take-le}
use Rattle.std.specs.Str.{valid_up_to}
use Rattle.format_json_scalars.proofs.characters.text_front.Goals as goal

pub returns-in-Ok-from_utf8-clause-longest : goal.returns-in-Ok-from_utf8-clause-longest
returns-in-Ok-from_utf8-clause-longest c =
    let found = c.in-Err.ensures.cases.1 in
    let short = found.short in
    let len : length c.in-Ok-from_utf8.text.now ≡ valid_up_to c.in-Err.error =
    ap length c.in-Ok-from_utf8.ensures.cases.0 ∙ length-take-le c.valid_up_to.result c.args.bytes.now (omega (arith, short, c.valid_up_to.ensures)) ∙ c.valid_up_to.ensures in
    rw len (omega (arith, short), found.front, λ m more inside. found.longest m more)
