use Rattle.std.proofs.Common.{◌≡◌, ap, sym, ◌∙◌, subst}
use Rattle.std.specs.Prelude.{FitsSigned}
use Rattle.std.specs.Int.{w64}
use Rattle.std.specs.Fmt.{signed_decimal}
use Rattle.std.proofs.lemmas.Int.{to_z-of_z}
use Rattle.std.specs.Str.{IsAscii}
use Rattle.std.proofs.lemmas.Bool.Decides.{Decides-eqb}
use Rattle.std.proofs.lemmas.Slice.Eq.{slice_eq-Decides}
use Rattle.std.proofs.lemmas.Str.{IsUtf8-from_ascii}
use Rattle.itoa.proofs.Decimal.{IsAscii-signed_decimal}
use Rattle.winnow_codec.proofs.lemmas.SignedLemmas.{parse-integer}
use Rattle.winnow_codec.proofs.signed_decimals.integer_in.Goals as goal

pub returns-in-Err : goal.returns-in-Err
returns-in-Err c = λ n small e.
    c.in-Err.ensures.cases.0 (IsUtf8-from_ascii c.args.digits.now (subst IsAscii (sym e) (IsAscii-signed_decimal n small)))

pub returns-else-eq : goal.returns-else-eq
returns-else-eq c = λ n small e.
    let ok = parse-integer n c.in-Ok.text.now c.parse.result small (c.in-Ok.ensures.cases.0 ∙ e) c.parse.ensures.value.0 in
    let read = c.in-Ok-parse.is in
    let same : c.in-Ok-parse.number ≡ n = cc in
    let back = to_z-of_z w64 c.in-Ok-parse.number (subst (FitsSigned w64) (sym same) small) in
    let written = c.as_bytes.ensures.value ∙ c.format.ensures.text ∙ ap signed_decimal (back ∙ same) ∙ sym e in
    let yes = (slice_eq-Decides Decides-eqb c.as_bytes.result.now c.args.digits.now c.eq.result c.eq.ensures).1 written in
    let no = c.if-eq.false in
    cc

pub returns-in-Err-parse : goal.returns-in-Err-parse
returns-in-Err-parse c = λ n small e.
    let ok = parse-integer n c.in-Ok.text.now c.parse.result small (c.in-Ok.ensures.cases.0 ∙ e) c.parse.ensures.value.0 in
    let err = c.in-Err-parse.is in
    cc
