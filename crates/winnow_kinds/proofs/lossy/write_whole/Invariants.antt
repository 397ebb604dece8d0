-- What was written, and then the text of the bytes that are left, is the text of all bytes.
use Rattle.std.proofs.Common.{◌≡◌, ℕ, List, ◌++◌}
use Rattle.std.specs.Fmt.{HasWrittenStyled, IsFlush}
use Rattle.std.specs.Str.Lossy.{utf8_lossy}
use Rattle.bstr.specs.Chunks.{chunks_rest}
use Rattle.winnow_kinds.proofs.lossy.write_whole.Given as goal

abbrev pub invariant-loop-chunk : goal.invariant-loop-chunk
invariant-loop-chunk g l =
    IsFlush l.initial.f
    → (done : List ℕ) × HasWrittenStyled g.W.Write.write_str_gives l.initial.f done l.f
    × (done ++ utf8_lossy (chunks_rest l.chunk-iterator) ≡ utf8_lossy l.fn.bytes)
