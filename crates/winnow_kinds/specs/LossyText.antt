-- The text of bytes that are text by convention, under format options.
use Rattle.std.specs.Prelude.{ℕ, List, take, Option, Some, None, encode_utf8_all}
use Rattle.std.specs.Str.Lossy.{utf8_lossy}
use Rattle.bstr.specs.Utf8.{lossy_chars}

-- the text with U+FFFD for each maximal damaged part: all of it, or only as many characters as a
-- precision names
abbrev pub lossy_text : Option ℕ → List ℕ → List ℕ
lossy_text None bytes = utf8_lossy bytes
lossy_text (Some count) bytes = encode_utf8_all (take count (lossy_chars bytes))
