-- A text as a source: its characters, each with its length in UTF-8.
use Rattle.std.specs.Prelude.{ℕ, List, [], ◌∷◌, map}
use Rattle.std.specs.Char.{len_utf8}
use Rattle.std.specs.Str.{chars}
use Rattle.std.proofs.lemmas.Str.{len_utf8_bounds}
use Rattle.winnow_stream.specs.Source.{Source, HasPositiveWidths}

-- characters with their widths
abbrev pub char_source : List ℕ → Source ℕ
char_source cs = map (λ c. (c, len_utf8 c)) cs

-- the characters of the text of these bytes, with their widths
abbrev pub text_source : List ℕ → Source ℕ
text_source bytes = char_source (chars bytes)

-- each character has at least one byte, so texts meet the law of positive widths
pub HasPositiveWidths-char_source : (cs : List ℕ) → HasPositiveWidths (char_source cs)
HasPositiveWidths-char_source [] = tt
HasPositiveWidths-char_source (c ∷ cs) = ((len_utf8_bounds c).0, HasPositiveWidths-char_source cs)
