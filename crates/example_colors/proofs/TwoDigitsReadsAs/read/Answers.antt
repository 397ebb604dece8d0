use Rattle.std.proofs.Common.{true, ◌++◌, ◌∷◌, ap, ◌∙◌}
use Rattle.winnow_grammar.specs.Spellings.{OneToken, Then, MadeOf}
use Rattle.winnow_grammar.specs.Spelt.{Spelt-on}
use Rattle.example_colors.specs.Colors.{IsByteOf, WritesByte}
use Rattle.example_colors.proofs.TwoDigitsReadsAs.read.Goals as goal

pub returns-clause-answer : goal.returns-clause-answer
returns-clause-answer g c =
    Spelt-on (MadeOf (λ digits n. IsByteOf digits.0 digits.1 n) (Then (OneToken (λ t. true)) (OneToken (λ t. true)))) WritesByte _ _ _ c.ask_as.ensures.answer
    (λ n ts (digits, (made, (one, (other, (whole, (high, held), (low, kept)))))).
    (digits.0, (digits.1, (whole ∙ ap (λ t. t ++ other) high ∙ ap (λ t. digits.0 ∷ t) low, made))))
