use Rattle.std.proofs.Common.{ap, sym, ◌∙◌, length, arith, take_all}
use Rattle.std.specs.Str.Lossy.{utf8_valid_len}
use Rattle.std.proofs.lemmas.Str.{utf8_valid_len-IsUtf8}
use Rattle.winnow_reader.proofs.lemmas.Utf8Lemmas.{whole-undamaged}
use Rattle.winnow_reader.proofs.asking_text.text_front.Goals as goal

pub returns-in-Ok-clause-text : goal.returns-in-Ok-clause-text
returns-in-Ok-clause-text c =
    let all = utf8_valid_len-IsUtf8 c.args.bytes.now c.in-Ok.ensures.cases.1 in
    c.in-Ok.ensures.cases.0 ∙ sym (take_all (utf8_valid_len c.args.bytes.now) c.args.bytes.now (omega (arith, all)))

pub returns-in-Ok-clause-len : goal.returns-in-Ok-clause-len
returns-in-Ok-clause-len c =
    ap length c.in-Ok.ensures.cases.0 ∙ sym (utf8_valid_len-IsUtf8 c.args.bytes.now c.in-Ok.ensures.cases.1)

pub returns-in-Ok-clause-damaged : goal.returns-in-Ok-clause-damaged
returns-in-Ok-clause-damaged c =
    sym (whole-undamaged c.args.partial c.args.bytes.now c.in-Ok.ensures.cases.1)
