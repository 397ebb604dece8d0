use Rattle.std.proofs.Common.{◌-◌, ◌∙◌, ap, sym, length}
use Rattle.std.specs.Str.{chars}
use Rattle.winnow_error_parse.proofs.lemmas.PositionLemmas.{last_column-text, last_column-bytes}
use Rattle.winnow_error_parse.proofs.position.last_column.Goals as goal

pub returns-in-Ok-clause-column : goal.returns-in-Ok-clause-column
returns-in-Ok-clause-column c =
    let is = c.in-Ok.ensures.cases in
    ap (λ n. n - 1) (c.count_chars.ensures.count ∙ ap (λ text. length (chars text)) is.0) ∙ sym (last_column-text c.args.part.now is.1)

pub returns-in-Err-clause-column : goal.returns-in-Err-clause-column
returns-in-Err-clause-column c = sym (last_column-bytes c.args.part.now c.in-Err.ensures.cases.0)
