-- The meaning of the types around a slice of bytes: the bytes that remain. Contracts name these,
-- and never a field.
use Rattle.std.specs.Prelude.{ℕ, List}
use Rattle.winnow_stream_window.specs.Contents.{contents_of}
use Rattle.winnow_stream_bytes.specs.declared.bytes.Bytes.{Bytes}
use Rattle.winnow_stream_bytes.specs.declared.hex.UpperBytes.{UpperBytes}
use Rattle.winnow_stream_bytes.specs.declared.hex.LowerBytes.{LowerBytes}

abbrev pub bytes_contents : Bytes → List ℕ
bytes_contents s = contents_of s.window

abbrev pub upper_contents : UpperBytes → List ℕ
upper_contents s = s.bytes.now

abbrev pub lower_contents : LowerBytes → List ℕ
lower_contents s = s.bytes.now
