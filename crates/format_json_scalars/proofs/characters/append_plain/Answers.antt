use Rattle.std.proofs.Common.{◌≡◌, ◌++◌, ap, sym, ◌∙◌, length, arith, length-drop, length-take}
use Rattle.std.proofs.lemmas.Bool.Decides.{nat_tests}
use Rattle.std.specs.String.{string_bytes}
use Rattle.format_json_scalars.proofs.lemmas.PlainLemmas.{plain-taken, plain-wrong, plain-begun}
use Rattle.format_json_scalars.proofs.characters.append_plain.Goals as goal

pub returns-then-not-is_empty : goal.returns-then-not-is_empty
returns-then-not-is_empty c =
    let count = c.plain_count-count.result in
    let text = c.text_front-text.result.now in
    let longest = c.text_front-text.ensures.longest in
    let on = plain-taken c.args.bytes.now count (length text) c.plain_count-count.ensures.within c.plain_count-count.ensures.plain longest.0 longest.1 in (
      grind (arith, nat_tests, c.is_empty.ensures, c.if-not-is_empty.true),
      omega (arith, longest.0, length-take count c.args.bytes.now),
      (on.0, (on.1.0, c.in_ok-push_str.ensures.bytes ∙ ap (λ l. string_bytes c.args.value.now ++ l) (c.text_front-text.ensures.text ∙ sym on.1.1))),
    )

pub returns-then-count-bytes : goal.returns-then-count-bytes
returns-then-count-bytes c =
    let count = c.plain_count-count.result in
    let none : length c.text_front-text.result.now ≡ 0 = grind (arith, nat_tests, c.is_empty.ensures, c.if-not-is_empty.false) in (
      c.requires.no_quote,
      plain-wrong c.args.bytes.now count c.requires.some c.requires.no_slash c.plain_count-count.ensures.ends
          (λ m some inside. c.text_front-text.ensures.longest.2 m (omega (arith, none, some)) inside)
          (λ e. absurd (omega (arith, ap length e, length-drop count c.args.bytes.now, c.if-count-bytes.true, c.plain_count-count.ensures.within))),
    )

pub returns-then-is_cut_char : goal.returns-then-is_cut_char
returns-then-is_cut_char c =
    (c.requires.no_quote, plain-begun c.args.bytes.now c.plain_count-count.result (omega (arith, c.if-count-bytes.false)) (sym c.is_cut_char.ensures ∙ c.if-is_cut_char.true))

pub returns : goal.returns
returns c =
    let none : length c.text_front-text.result.now ≡ 0 = grind (arith, nat_tests, c.is_empty.ensures, c.if-not-is_empty.false) in (
      c.requires.no_quote,
      plain-wrong c.args.bytes.now c.plain_count-count.result c.requires.some c.requires.no_slash c.plain_count-count.ensures.ends
          (λ m some inside. c.text_front-text.ensures.longest.2 m (omega (arith, none, some)) inside)
          (λ e. sym c.is_cut_char.ensures ∙ c.if-is_cut_char.false),
    )
