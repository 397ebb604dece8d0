-- What words mean, and which words mean nothing.
use Rattle.std.proofs.Common.{◌≡◌, ◌+◌, ℕ, true, false, List, [], ◌∷◌, length, get_or, Some, inl, inr, refl, ap, arith}
use Rattle.std.specs.List.{position_or_len}
use Rattle.std.specs.Str.{bytes_eq}
use Rattle.std.proofs.lemmas.List.{drop_all, take_all}
use Rattle.std.proofs.lemmas.List.Sums.{passes_at_first}
use Rattle.winnow_match.specs.declared.needles.Needles.TheVariants.{One, Two, Three}
use Rattle.winnow_script_lines.specs.Inputs.{DenotesNamed}
use Rattle.winnow_script_lines.specs.Literals.{DenotesBytes, DenotesLiteral}
use Rattle.winnow_script_lines.specs.Readings.{DenotesNothing}
use Rattle.winnow_script_lines.specs.Steps.{entry}
use Rattle.winnow_script_lines.specs.Words.{is_space, first_word, later_words, HasSpace, DenotesNeedles}

-- a line without a space is its first word, and has no later one
pub first_word-alone : (line : List ℕ) → ¬ (HasSpace line) → first_word line ≡ line
first_word-alone line alone = take_all (position_or_len is_space line) line (omega (arith, alone))

pub later_words-alone : (line : List ℕ) → ¬ (HasSpace line) → later_words line ≡ []
later_words-alone line alone = drop_all (position_or_len is_space line + 1) line (omega (arith, alone))

-- a word for bytes is not empty, and has no space
pub DenotesBytes-filled : (bytes : List ℕ) → ¬ (DenotesBytes [] bytes)
DenotesBytes-filled bytes told =
    elim told [
      | inl dash ↦ omega (arith, ap length dash.0)
      | inr digits ↦ omega (arith, digits.0.0)
    ]

pub DenotesBytes-alone : (word bytes : List ℕ) → DenotesBytes word bytes → ¬ (HasSpace word)
DenotesBytes-alone word bytes told spaced =
    elim told [
      | inl dash ↦ omega (arith, rw dash.0 at spaced)
      | inr digits ↦
          let at = position_or_len is_space word in
          let digit = digits.0.2 at 0 spaced in
          let space : get_or word at 0 ≡ 32 = grind (arith, passes_at_first is_space word 0 spaced) in
          cc (rw space at digit)
    ]

-- words mean no needles if they do so neither as one word nor as two nor as three
pub DenotesNeedles-nothing : {L : Type 0} (bytes : L → List ℕ) (words : List ℕ)
    → DenotesNothing (DenotesLiteral bytes) words
    → ((a b : L) → DenotesBytes (first_word words) (bytes a) → ¬ (DenotesBytes (later_words words) (bytes b)))
    → ((a b c : L) → DenotesBytes (first_word words) (bytes a) → DenotesBytes (first_word (later_words words)) (bytes b) → ¬ (DenotesBytes (later_words (later_words words)) (bytes c)))
    → DenotesNothing (DenotesNeedles bytes) words
DenotesNeedles-nothing bytes words one two three (One a) told = one a told
DenotesNeedles-nothing bytes words one two three (Two a b) told = two a b told.0 told.1
DenotesNeedles-nothing bytes words one two three (Three a b c) told = three a b c told.0 told.1 told.2

module _ {L : Type 0} (bytes : L → List ℕ) (words : List ℕ) where
  -- a single word that means no literal means no needles
  pub DenotesNeedles-alone : ¬ (HasSpace words) → DenotesNothing (DenotesLiteral bytes) words
      → DenotesNothing (DenotesNeedles bytes) words
  DenotesNeedles-alone alone one =
      let later = later_words-alone words alone in
      DenotesNeedles-nothing bytes words one
      (λ a b first second. DenotesBytes-filled (bytes b) (rw later at second))
      (λ a b c first second third. DenotesBytes-filled (bytes b) (rw later at second))

  module _ (spaced : HasSpace words) where
    -- nor do several words if the first means no literal
    pub DenotesNeedles-first : DenotesNothing (DenotesLiteral bytes) (first_word words)
        → DenotesNothing (DenotesNeedles bytes) words
    DenotesNeedles-first none =
        DenotesNeedles-nothing bytes words (λ a one. DenotesBytes-alone words (bytes a) one spaced)
        (λ a b first second. none a first) (λ a b c first second third. none a first)

    -- nor do two words if the second means no literal
    pub DenotesNeedles-second : ¬ (HasSpace (later_words words))
        → DenotesNothing (DenotesLiteral bytes) (later_words words)
        → DenotesNothing (DenotesNeedles bytes) words
    DenotesNeedles-second alone none =
        let later = later_words-alone (later_words words) alone in
        DenotesNeedles-nothing bytes words (λ a one. DenotesBytes-alone words (bytes a) one spaced)
        (λ a b first second. none b second)
        (λ a b c first second third. DenotesBytes-filled (bytes c) (rw later at third))

    -- nor do more words if the second, or what follows it, means no literal
    pub DenotesNeedles-third : HasSpace (later_words words)
        → ((b c : L) → DenotesBytes (first_word (later_words words)) (bytes b)
        → ¬ (DenotesBytes (later_words (later_words words)) (bytes c)))
        → DenotesNothing (DenotesNeedles bytes) words
    DenotesNeedles-third spaced_later none =
        DenotesNeedles-nothing bytes words (λ a one. DenotesBytes-alone words (bytes a) one spaced)
        (λ a b first second. DenotesBytes-alone (later_words words) (bytes b) second spaced_later)
        (λ a b c first second third. none b c second third)

-- a single word is no name with a word after it
pub DenotesNamed-alone : {L : Type 0} (bytes : L → List ℕ) (name line : List ℕ) → ¬ (HasSpace line)
    → DenotesNothing (DenotesNamed bytes name) line
DenotesNamed-alone bytes name line alone literal told =
    DenotesBytes-filled (bytes literal) (rw (later_words-alone line alone) at told.1)
