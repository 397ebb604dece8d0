use Rattle.std.proofs.Common.{◌≡◌, Some, sym, subst}
use Rattle.winnow_grammar.specs.Spellings.{MadeOf}
use Rattle.winnow_grammar.specs.Texts.{SpelledText-on}
use Rattle.example_arithmetic_spelled.specs.Expressions.{Expression, Writes, WritesPart}
use Rattle.example_arithmetic_spelled.proofs.parse_expr.Goals as goal

pub returns : goal.returns
returns c =
    SpelledText-on (MadeOf (λ value x. Some x ≡ value) (WritesPart Expression)) (Writes Expression)
    (λ x text (value, (is, writes)). subst (λ v. WritesPart Expression v text) (sym is) writes)
    c.args.input.now c.ask_text.new.input c.ask_text.result c.ask_text.ensures
