use Rattle.std.proofs.Common.{refl}
use Rattle.winnow_script_lines.specs.Literals.{DenotesLiteral}
use Rattle.winnow_script_lines.specs.Readings.{DenotesNothing}
use Rattle.winnow_script_lines.specs.Words.{first_word, later_words}
use Rattle.winnow_script_lines.proofs.lemmas.WordLemmas.{DenotesNeedles-first, DenotesNeedles-second, DenotesNeedles-third}
use Rattle.winnow_script_lines.proofs.words.read_needles.Goals as goal

pub returns-in_default-2 : goal.returns-in_default-2
returns-in_default-2 g c =
    let words = c.in-Some.ensures in
    DenotesNeedles-first g.L.Contents.bytes c.args.words.now (words.found.0 refl)
    (rw (words.first, c.in_default-2.is) at c.in_ok-first.ensures)

pub returns-in-None-2 : goal.returns-in-None-2
returns-in-None-2 g c =
    let words = c.in-Some.ensures in
    let alone = rw words.later at c.in_default-split_word.ensures.found in
    DenotesNeedles-second g.L.Contents.bytes c.args.words.now (words.found.0 refl) (λ spaced. cc (alone.1 spaced))
    (rw (words.later, c.in-None-2.is) at c.in_ok-second.ensures)

pub returns-in_default-3 : goal.returns-in_default-3
returns-in_default-3 g c =
    let words = c.in-Some.ensures in
    let later = rw words.later at c.in-Some-split_word.ensures in
    let none : DenotesNothing (DenotesLiteral g.L.Contents.bytes) (first_word (later_words c.args.words.now)) =
    rw (later.first, c.in_default-3.is) at c.in_ok-second-2.ensures in
    DenotesNeedles-third g.L.Contents.bytes c.args.words.now (words.found.0 refl) (later.found.0 refl) (λ b d second third. none b second)

pub returns-in-None-3 : goal.returns-in-None-3
returns-in-None-3 g c =
    let words = c.in-Some.ensures in
    let later = rw words.later at c.in-Some-split_word.ensures in
    let none : DenotesNothing (DenotesLiteral g.L.Contents.bytes) (later_words (later_words c.args.words.now)) =
    rw (later.later, c.in-None-3.is) at c.in_ok-third.ensures in
    DenotesNeedles-third g.L.Contents.bytes c.args.words.now (words.found.0 refl) (later.found.0 refl) (λ b d second third. none d third)

pub returns-in-Some-4 : goal.returns-in-Some-4
returns-in-Some-4 g c =
    let words = c.in-Some.ensures in (
      rw (words.first, c.in-Some-3.is) at c.in_ok-first.ensures,
      rw (words.later, c.in-Some-4.is) at c.in_ok-second.ensures,
    )

pub returns-in-Some-6 : goal.returns-in-Some-6
returns-in-Some-6 g c =
    let words = c.in-Some.ensures in
    let later = c.in-Some-split_word.ensures in (
      rw (words.first, c.in-Some-3.is) at c.in_ok-first.ensures,
      rw (later.first, words.later, c.in-Some-5.is) at c.in_ok-second-2.ensures,
      rw (later.later, words.later, c.in-Some-6.is) at c.in_ok-third.ensures,
    )
