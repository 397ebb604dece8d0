use Rattle.std.proofs.Common.{◌≡◌, ◌==◌, ◌++◌, ◌∷◌, ap, sym, ◌∙◌, subst, arith}
use Rattle.std.proofs.lemmas.Bool.Decides.{nat_tests}
use Rattle.winnow_grammar.specs.SpellingRows.{Then3}
use Rattle.winnow_grammar.specs.Spellings.{OneToken, After, MadeOf}
use Rattle.winnow_grammar.specs.Spelt.{Spelt-on}
use Rattle.example_colors.specs.Colors.{WritesByte, WritesColor}
use Rattle.example_colors.proofs.HexColorReadsAs.read.Goals as goal

pub returns-clause-answer : goal.returns-clause-answer
returns-clause-answer g c =
    Spelt-on (After (OneToken (λ t. 35 == t)) (MadeOf (λ bytes color. color ≡ record { red = bytes.0; green = bytes.1; blue = bytes.2 }) (Then3 WritesByte WritesByte WritesByte))) WritesColor _ _ _
    (rw (c.preceded.ensures, c.one_of.ensures) at c.ask_as.ensures.answer)
    (λ color ts (sign, (one, (other, (whole, (first, held), (bytes, (made, (red, (rest, (left, r, (green, (blue, (right, g, b)))))))))))). (
      red,
      (
        green,
        (
          blue,
          (
            whole ∙ ap (λ t. t ++ other) first ∙ ap (λ c. c ∷ other) (grind (arith, nat_tests, held)) ∙ ap (λ t. 35 ∷ t) (left ∙ ap (λ t. red ++ t) right),
            subst (λ c. WritesByte c.red red) (sym made) r,
            subst (λ c. WritesByte c.green green) (sym made) g,
            subst (λ c. WritesByte c.blue blue) (sym made) b,
          ),
        ),
      ),
    ))
