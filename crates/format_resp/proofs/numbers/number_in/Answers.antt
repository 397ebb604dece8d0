use Rattle.std.proofs.Common.{sym, ◌∙◌}
use Rattle.format_resp.proofs.lemmas.NumberLemmas.{number-digits, number_none}
use Rattle.format_resp.proofs.numbers.number_in.Goals as goal

pub returns : goal.returns
returns c = number-digits c.args.text.now c.digits_in.result (sym c.is_plain.ensures ∙ c.if-not-is_plain.false) c.digits_in.ensures

pub returns-then-not-is_plain : goal.returns-then-not-is_plain
returns-then-not-is_plain c = number_none c.args.text.now (sym c.is_plain.ensures ∙ c.if-not-is_plain.true)
