-- The bytes of the sources of slices and of texts.
use Rattle.std.proofs.Common.{◌≡◌, ℕ, List, [], ◌∷◌, ◌++◌, refl, ap, ◌∙◌}
use Rattle.std.specs.Char.{encode_utf8}
use Rattle.std.specs.Str.{chars, IsUtf8, encode_utf8_all}
use Rattle.std.proofs.lemmas.Str.{encodes-chars}
use Rattle.winnow_stream.specs.Source.{units}
use Rattle.winnow_stream.specs.Text.{char_source, text_source}
use Rattle.winnow_match.specs.Bytes.{bytes_of, utf8_of}

-- the bytes of a slice, as a source, are its bytes
pub bytes_of-units : (xs : List ℕ) → bytes_of (units xs) ≡ xs
bytes_of-units [] = refl
bytes_of-units (x ∷ xs) = ap (λ ys. x ∷ ys) (bytes_of-units xs)

-- the bytes of characters are their UTF-8
pub utf8_of-char_source : (cs : List ℕ) → utf8_of (char_source cs) ≡ encode_utf8_all cs
utf8_of-char_source [] = refl
utf8_of-char_source (c ∷ cs) = ap (λ ys. encode_utf8 c ++ ys) (utf8_of-char_source cs)

-- the bytes of a text, as a source, are its bytes
pub utf8_of-text_source : (bytes : List ℕ) → IsUtf8 bytes → utf8_of (text_source bytes) ≡ bytes
utf8_of-text_source bytes u = utf8_of-char_source (chars bytes) ∙ encodes-chars bytes u

-- the rules for the bytes of sources
pub ruleset source_bytes = (bytes_of-units, utf8_of-text_source)
