use Rattle.std.proofs.Common.{sym, ◌∙◌, ap, length, ◌∷◌}
use Rattle.std.specs.Char.{len_utf8}
use Rattle.winnow_stream.specs.Text.{text_source}
use Rattle.winnow_stream.proofs.lemmas.TextLemmas.{text_source-nil, first-text_source}
use Rattle.winnow_stream.proofs.texts.split_first_char.Goals as goal

pub returns-in_err-first : goal.returns-in_err-first
returns-in_err-first c =
    rw c.from_residual.ensures (text_source-nil c.args.text.now (ap length (sym c.chars-chars.ensures.rest) ∙ c.in_err-first.ensures.steps.0.0))

pub returns : goal.returns
returns c =
    first-text_source c.args.text.now c.next.new.self.rest.now c.in_ok-first.first c.utf8.text (sym c.chars-chars.ensures.rest ∙ c.in_ok-first.ensures.steps.0)
    ∙ ap (λ r. (c.in_ok-first.first, len_utf8 c.in_ok-first.first) ∷ text_source r) (sym c.as_str.ensures)
