-- Only UTF-8 lines mean anything.
use Rattle.std.proofs.Common.{◌≡◌, ◌<◌, ◌&&◌, ℕ, Bool, true, List, [], ◌∷◌, ◌++◌, codes, length, get_or, Some, inl, inr, refl, sym, ◌∙◌, subst, lit<, arith, IsAscii, IsUtf8, nat_lt}
use Rattle.std.specs.List.{list_all, position_or_len, join_with_byte, slice_split, AllZip}
use Rattle.std.specs.Str.{bytes_eq}
use Rattle.std.specs.Str.Parse.{AllDigits}
use Rattle.std.proofs.lemmas.Bool.{and_parts, cases_Bool, true≢false, ltb-true, lt-ltb}
use Rattle.std.proofs.lemmas.Bool.Decides.{nat_tests}
use Rattle.std.proofs.lemmas.List.Sums.{split_at_first, passes_at_first, AllPass-from_list_all}
use Rattle.std.proofs.lemmas.List.Splits.{join_with_byte-slice_split}
use Rattle.std.proofs.lemmas.Slice.Eq.{bytes_eq-Decides}
use Rattle.std.proofs.lemmas.Str.{IsUtf8-append, IsUtf8-from_ascii}
use Rattle.std.proofs.lemmas.Str.Ascii.{IsAscii-nil, IsAscii-cons, IsAscii-from_all}
use Rattle.hex.specs.Hex.{is_hex_digit}
use Rattle.winnow_match.specs.declared.needles.Needles.{Needles}
use Rattle.winnow_match.specs.declared.needles.Needles.TheVariants.{One, Two, Three}
use Rattle.winnow_script_run.specs.declared.script.Step.{Step}
use Rattle.winnow_sets.specs.declared.char_set.CharSet.{CharSet}
use Rattle.winnow_script_lines.specs.Inputs.{kind_word, DenotesKind, DenotesNamed, DenotesFed}
use Rattle.winnow_script_lines.specs.Literals.{DenotesBytes}
use Rattle.winnow_script_lines.specs.Newline.{first_line}
use Rattle.winnow_script_lines.specs.Readings.{DenotesNothing}
use Rattle.winnow_script_lines.specs.Steps.{entry, plain_calls, numbered_calls, DenotesCall, DenotesStep}
use Rattle.winnow_script_lines.specs.Words.{is_comma, is_space, first_word, later_words, DenotesRange, DenotesRanges, DenotesNeedles}
use Rattle.winnow_script_lines.specs.declared.fed_lines.FedLine.{FedLine}
use Rattle.winnow_script_lines.specs.declared.fed_lines.FedLine.TheVariants.{Piece, Waits}
use Rattle.winnow_script_lines.specs.declared.inputs.Kind.{Kind}
use Rattle.winnow_script_lines.specs.declared.inputs.Kind.TheVariants.{Bytes, Text, BytePieces, TextPieces}
use Rattle.winnow_script_lines.specs.declared.steps.ScriptStep.{ScriptStep}
use Rattle.winnow_script_lines.specs.declared.steps.ScriptStep.TheVariants.{Call, First, Compare, Find}
use Rattle.winnow_script_lines.proofs.lemmas.WordLemmas.{first_word-alone}

-- a byte below 128 is text
IsUtf8-byte : (byte : ℕ) → byte < 128 → IsUtf8 (byte ∷ [])
IsUtf8-byte byte small = IsUtf8-from_ascii (byte ∷ []) (IsAscii-cons byte [] small IsAscii-nil)

-- whether all bytes of a word are ASCII, as those of the lines' own words are
abbrev is_ascii : List ℕ → Bool
is_ascii word = list_all (λ byte. nat_lt byte 128) word

-- a word of ASCII is text
IsUtf8-from_is_ascii : (word : List ℕ) → is_ascii word ≡ true → IsUtf8 word
IsUtf8-from_is_ascii word ascii =
    IsUtf8-from_ascii word (IsAscii-from_all word (λ k d lt. ltb-true (get_or word k d) 128 (AllPass-from_list_all (λ byte. nat_lt byte 128) word ascii k d lt)))

-- a line is text if its first word and its later words are
IsUtf8-words : (line : List ℕ) → IsUtf8 (first_word line) → IsUtf8 (later_words line) → IsUtf8 line
IsUtf8-words line first later =
    elim (cases_Bool (nat_lt (position_or_len is_space line) (length line))) [
      | inl e ↦
          let spaced = ltb-true (position_or_len is_space line) (length line) e in
          let space = get_or line (position_or_len is_space line) 0 in
          let small : space < 128 = grind (arith, nat_tests, passes_at_first is_space line 0 spaced) in
          subst IsUtf8 (sym (split_at_first is_space line 0 spaced))
          (IsUtf8-append (first_word line) (space ∷ later_words line) first (IsUtf8-append (space ∷ []) (later_words line) (IsUtf8-byte space small) later))
      | inr e ↦
          subst IsUtf8 (first_word-alone line (λ spaced. true≢false (sym (lt-ltb (position_or_len is_space line) (length line) spaced) ∙ e))) first
    ]

-- digits are ASCII
IsAscii-digits : (word : List ℕ) → AllDigits 10 word → IsAscii word
IsAscii-digits [] digits = IsAscii-nil
IsAscii-digits (digit ∷ word) digits =
    IsAscii-cons digit word (grind (arith, nat_tests, digits.0)) (IsAscii-digits word digits.1)

-- digits are text
IsUtf8-digits : (word : List ℕ) → AllDigits 10 word → IsUtf8 word
IsUtf8-digits word digits = IsUtf8-from_ascii word (IsAscii-digits word digits)

-- a hexadecimal digit is ASCII
hex_digit-small : (byte : ℕ) → is_hex_digit byte ≡ true → byte < 128
hex_digit-small byte digit = grind (arith, nat_tests)

-- a word that means bytes is text
DenotesBytes-text : (word bytes : List ℕ) → DenotesBytes word bytes → IsUtf8 word
DenotesBytes-text word bytes told =
    elim told [
      | inl dash ↦ subst IsUtf8 (sym dash.0) (IsUtf8-from_is_ascii (codes "-") refl)
      | inr digits ↦
          IsUtf8-from_ascii word (IsAscii-from_all word (λ k d lt. hex_digit-small (get_or word k d) (digits.0.2 k d lt)))
    ]

-- a word that means a range is text
DenotesRange-text : (word : List ℕ) (range : ℕ × ℕ) → DenotesRange word range → IsUtf8 word
DenotesRange-text word range told =
    subst IsUtf8 (sym told.2)
    (IsUtf8-append (told.0 ++ codes "..") told.1 (IsUtf8-append told.0 (codes "..") (IsUtf8-digits told.0 told.3.0.0.1) (IsUtf8-from_is_ascii (codes "..") refl)) (IsUtf8-digits told.1 told.4.0.0.1))

-- ranges with commas between them are text
ranges-text : (parts : List (List ℕ)) (ranges : List (ℕ × ℕ)) → AllZip DenotesRange parts ranges
    → IsUtf8 (join_with_byte 44 parts)
ranges-text [] ranges told = IsUtf8-from_is_ascii [] refl
ranges-text (part ∷ parts) [] told = absurd told
ranges-text (part ∷ []) (range ∷ ranges) told = DenotesRange-text part range told.0
ranges-text (part ∷ next ∷ parts) (range ∷ ranges) told =
    let later = join_with_byte 44 (next ∷ parts) in
    IsUtf8-append part (44 ∷ later) (DenotesRange-text part range told.0)
    (IsUtf8-append (44 ∷ []) later (IsUtf8-byte 44 (lit< tt)) (ranges-text (next ∷ parts) ranges told.1))

-- a word that means ranges is text
DenotesRanges-text : (word : List ℕ) (ranges : List (ℕ × ℕ)) → DenotesRanges word ranges
    → IsUtf8 word
DenotesRanges-text word ranges told =
    elim told [
      | inl dash ↦ subst IsUtf8 (sym dash.0) (IsUtf8-from_is_ascii (codes "-") refl)
      | inr parts ↦
          subst IsUtf8 (join_with_byte-slice_split 44 word) (ranges-text (slice_split is_comma word) ranges parts)
    ]

-- whether all words of a table are ASCII
abbrev are_ascii : {T : Type 0} → List (List ℕ × T) → Bool
are_ascii [] = true
are_ascii (row ∷ rows) = is_ascii row.0 && are_ascii rows

-- a word of a table of ASCII words is text
entry-text : {T : Type 0} (rows : List (List ℕ × T)) (word : List ℕ) (found : T)
    → are_ascii rows ≡ true → entry rows word ≡ Some found → IsUtf8 word
entry-text [] word found ascii is = cc is
entry-text (row ∷ rows) word found ascii is =
    let both = and_parts (is_ascii row.0) (are_ascii rows) ascii in
    elim (cases_Bool (bytes_eq word row.0)) [
      | inl same ↦ subst IsUtf8 (sym ((bytes_eq-Decides word row.0).0 same)) (IsUtf8-from_is_ascii row.0 both.0)
      | inr other ↦ entry-text rows word found both.1 (rw other at is)
    ]

-- a line that means a call is text
DenotesCall-text : (line : List ℕ) (call : Step CharSet) → DenotesCall line call → IsUtf8 line
DenotesCall-text line call told =
    elim told [
      | inl word ↦ entry-text plain_calls line call refl word
      | inr words ↦
          IsUtf8-words line (entry-text (numbered_calls words.0) (first_word line) call refl words.2) (IsUtf8-digits (later_words line) words.1.0.1)
    ]

-- a line is text if its first word is an ASCII name and its later words are text
IsUtf8-named : (name line : List ℕ) → is_ascii name ≡ true → first_word line ≡ name
    → IsUtf8 (later_words line) → IsUtf8 line
IsUtf8-named name line text is later =
    IsUtf8-words line (subst IsUtf8 (sym is) (IsUtf8-from_is_ascii name text)) later

-- a line that means a kind is text
pub DenotesKind-text : (line : List ℕ) (kind : Kind) → DenotesKind line kind → IsUtf8 line
DenotesKind-text line Bytes told = subst IsUtf8 (sym told) (IsUtf8-from_is_ascii (kind_word Bytes) refl)
DenotesKind-text line Text told = subst IsUtf8 (sym told) (IsUtf8-from_is_ascii (kind_word Text) refl)
DenotesKind-text line BytePieces told = subst IsUtf8 (sym told) (IsUtf8-from_is_ascii (kind_word BytePieces) refl)
DenotesKind-text line TextPieces told = subst IsUtf8 (sym told) (IsUtf8-from_is_ascii (kind_word TextPieces) refl)

module _ {L : Type 0} (bytes : L → List ℕ) where
  -- words that mean needles are text
  DenotesNeedles-text : (words : List ℕ) (needles : Needles L) → DenotesNeedles bytes words needles
      → IsUtf8 words
  DenotesNeedles-text words (One a) told = DenotesBytes-text words (bytes a) told
  DenotesNeedles-text words (Two a b) told =
      IsUtf8-words words (DenotesBytes-text (first_word words) (bytes a) told.0) (DenotesBytes-text (later_words words) (bytes b) told.1)
  DenotesNeedles-text words (Three a b c) told =
      let later = later_words words in
      IsUtf8-words words (DenotesBytes-text (first_word words) (bytes a) told.0)
      (IsUtf8-words later (DenotesBytes-text (first_word later) (bytes b) told.1) (DenotesBytes-text (later_words later) (bytes c) told.2))

  -- a line that means a step is text
  pub DenotesStep-text : (line : List ℕ) (step : ScriptStep L) → DenotesStep bytes line step
      → IsUtf8 line
  DenotesStep-text line (Call call) told = DenotesCall-text line call told
  DenotesStep-text line (First ranges) told =
      IsUtf8-named (codes "first") line refl told.0 (DenotesRanges-text (later_words line) ranges.items told.1)
  DenotesStep-text line (Compare literal) told =
      IsUtf8-named (codes "compare") line refl told.0 (DenotesBytes-text (later_words line) (bytes literal) told.1)
  DenotesStep-text line (Find needles) told =
      IsUtf8-named (codes "find") line refl told.0 (DenotesNeedles-text (later_words line) needles told.1)

  -- a line that means a named literal is text
  pub DenotesNamed-text : (name line : List ℕ) (literal : L) → IsUtf8 name
      → DenotesNamed bytes name line literal → IsUtf8 line
  DenotesNamed-text name line literal text told =
      IsUtf8-words line (subst IsUtf8 (sym told.0) text) (DenotesBytes-text (later_words line) (bytes literal) told.1)

  -- a line that means a piece or a question is text
  pub DenotesFed-text : (line : List ℕ) (told : FedLine L) → DenotesFed bytes line told
      → IsUtf8 line
  DenotesFed-text line (Piece piece) told =
      DenotesNamed-text (codes "piece") line piece (IsUtf8-from_is_ascii (codes "piece") refl) told
  DenotesFed-text line Waits told = subst IsUtf8 (sym told) (IsUtf8-from_is_ascii (codes "waits") refl)

-- a line that is missing or is no text means nothing, if each line with a meaning is text and an
-- empty line has no meaning
pub DenotesNothing-unread : {T : Type 0} (Denotes : List ℕ → T → Type 0) (text : List ℕ)
    → ¬ ((0 < length text) × IsUtf8 (first_line text))
    → ((item : T) → Denotes (first_line text) item → IsUtf8 (first_line text)) → DenotesNothing Denotes []
    → DenotesNothing Denotes (first_line text)
DenotesNothing-unread Denotes [] unread texts empty = empty
DenotesNothing-unread Denotes (byte ∷ text) unread texts empty = λ item told. unread (omega arith, texts item told)
