use Rattle.std.proofs.Common.{◌≡◌, ap, ◌∙◌, refl}
use Rattle.std.specs.Prelude.{◌==◌, ◌||◌}
use Rattle.std.specs.Int.{is_in_range}
use Rattle.std.specs.Char.{is_ascii_alphabetic, is_ascii_digit}
use Rattle.example_lexer.specs.Tokens.{is_blank}
use Rattle.example_lexer.proofs.lemmas.LexerLemmas.{lexer}
use Rattle.example_lexer.proofs.lexer.lex.Goals as goal

pub lex_kinds-requires-clause-lexer : goal.lex_kinds-requires-clause-lexer
lex_kinds-requires-clause-lexer g c =
    let is = c.alt-kind.ensures in
    let first = ap (λ a. a.list.0.inner) is ∙ c.value.ensures.inner in
    let second = ap (λ a. a.list.1.inner) is ∙ c.value-2.ensures.inner in
    let blanks : (λ byte. c.take_while-blanks.result.set.0 == byte || (c.take_while-blanks.result.set.1 == byte || (c.take_while-blanks.result.set.2 == byte || c.take_while-blanks.result.set.3 == byte))) ≡ is_blank = rw c.take_while-blanks.ensures.set refl in
    let letters : (λ byte. is_in_range c.alt-kind.result.list.0.inner.set.0.start c.alt-kind.result.list.0.inner.set.0.end byte || is_in_range c.alt-kind.result.list.0.inner.set.1.start c.alt-kind.result.list.0.inner.set.1.end byte) ≡ is_ascii_alphabetic = rw (first, c.take_while-letters.ensures.set, c.new.ensures.start, c.new.ensures.end, c.new-2.ensures.start, c.new-2.ensures.end) refl in
    let digits : (λ byte. is_in_range c.alt-kind.result.list.1.inner.set.start c.alt-kind.result.list.1.inner.set.end byte) ≡ is_ascii_digit = rw (second, c.take_while-digits.ensures.set, c.new-3.ensures.start, c.new-3.ensures.end) refl in
    lexer g.I.Stream.is_slice c.take_while-blanks.ensures.counts (rw first c.take_while-letters.ensures.counts) (rw second c.take_while-digits.ensures.counts) blanks letters digits
    (ap (λ a. a.list.0.value) is ∙ c.value.ensures.value) (ap (λ a. a.list.1.value) is ∙ c.value-2.ensures.value) (ap (λ a. a.list.2.value) is ∙ c.value-3.ensures.value)
