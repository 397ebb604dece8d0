-- The meaning of a `BStr`: the bytes that remain. Contracts name this, and never a field.
use Rattle.std.specs.Prelude.{ℕ, List}
use Rattle.winnow_stream_window.specs.Contents.{contents_of}
use Rattle.winnow_kinds.specs.declared.text.BStr.{BStr}

abbrev pub bstr_contents : BStr → List ℕ
bstr_contents s = contents_of s.window
