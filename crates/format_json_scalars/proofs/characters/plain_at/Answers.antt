use Rattle.std.specs.Prelude.{encode_utf8_all}
use Rattle.std.proofs.Common.{◌≡◌, length, ◌∙◌, subst, sym, refl, arith, length-take}
use Rattle.std.proofs.lemmas.Bool.Decides.{nat_tests}
use Rattle.std.proofs.lemmas.List.{take_all}
use Rattle.format_json_scalars.specs.CutChars.{is_cut_char}
use Rattle.format_json_scalars.proofs.lemmas.PlainLemmas.{plain-taken, plain-begun}
use Rattle.format_json_scalars.proofs.characters.plain_at.Goals as goal

pub returns-then-not-is_empty : goal.returns-then-not-is_empty
returns-then-not-is_empty c =
    let count = c.plain_count-count.result in
    let text = c.text_front-text.result.now in
    let longest = c.text_front-text.ensures.longest in
    let on = plain-taken c.args.bytes.now count (length text) c.plain_count-count.ensures.within c.plain_count-count.ensures.plain longest.0 longest.1 in (
      encode_utf8_all on.0,
      (
        grind (arith, nat_tests, c.is_empty.ensures, c.if-not-is_empty.true),
        omega (arith, longest.0, length-take count c.args.bytes.now),
        (on.0, (on.1.0, refl)),
      ),
    )

pub returns-then-is_cut_char : goal.returns-then-is_cut_char
returns-then-is_cut_char c =
    let bytes = c.args.bytes.now in
    plain-begun bytes (length bytes) (omega arith)
    (subst (λ l. is_cut_char l ≡ _) (sym (take_all (length bytes) bytes (omega arith))) (sym c.is_cut_char.ensures ∙ c.if-is_cut_char.true))
