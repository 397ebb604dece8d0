use Rattle.std.proofs.Common.{◌≡◌, Some, None}
use Rattle.std.specs.Prelude.{pos, IfSome}
use Rattle.std.specs.Char.{is_ascii_digit}
use Rattle.winnow_combinator.specs.Gathering.{Folds}
use Rattle.winnow_grammar.specs.Spellings.{OneToken, Counted}
use Rattle.winnow_grammar.specs.Spelt.{Spelt-on}
use Rattle.example_arithmetic_spelled.specs.Expressions.{WritesValue}
use Rattle.example_arithmetic_spelled.specs.Steps.{HasDigit}
use Rattle.example_arithmetic_spelled.proofs.ExpressionLemmas.{number-within}
use Rattle.example_arithmetic_spelled.proofs.NumberReadsAs.read.Goals as goal

pub returns-clause-answer : goal.returns-clause-answer
returns-clause-answer g c =
    Spelt-on (Counted 1 None (Folds (λ x. x ≡ Some (pos 0)) (λ m digit r. IfSome r (HasDigit m digit))) (OneToken is_ascii_digit)) WritesValue _ _ _
    (rw (c.fold-digits.ensures, c.repeat.ensures.counts.0, c.repeat.ensures.counts.1, c.repeat.ensures.inner, c.one_of-digit.ensures) at c.ask_as.ensures.answer)
    (number-within is_ascii_digit)
