use Rattle.std.proofs.Common.{false, refl, sym, rules}
use Rattle.std.proofs.Output.{has_written_styled_append, has_written_styled_of_eq}
use Rattle.std.proofs.lemmas.Fmt.{hex_one_digit, hex_two_digits}
use Rattle.winnow_kinds.proofs.lemmas.WriteLemmas.{WritesOnOk-from_styled}
use Rattle.winnow_kinds.proofs.escapes.write_digits.Goals as goal

pub returns-then-code-lt16-clause-styled : goal.returns-then-code-lt16-clause-styled
returns-then-code-lt16-clause-styled g c = λ flush ok.
    has_written_styled_of_eq _ _ _ _ _ (sym (hex_one_digit false c.args.code c.if-code-lt16.true)) (c.write_digit.ensures flush ok)

pub returns-then-code-lt16-clause-writes : goal.returns-then-code-lt16-clause-writes
returns-then-code-lt16-clause-writes g c = WritesOnOk-from_styled _ _ _ _ _ (returns-then-code-lt16-clause-styled g c)

pub returns-clause-styled : goal.returns-clause-styled
returns-clause-styled g c = λ flush ok.
    let first = c.in_ok-write_digit.ensures flush refl in
    let second = c.write_digit-3.ensures first.flush ok in
    let both = hex_two_digits false c.args.code (search rules) (search rules) in
    has_written_styled_of_eq _ _ _ _ _ (sym both) (has_written_styled_append _ _ _ _ _ _ first second)

pub returns-clause-writes : goal.returns-clause-writes
returns-clause-writes g c = WritesOnOk-from_styled _ _ _ _ _ (returns-clause-styled g c)
