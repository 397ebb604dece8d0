use Rattle.std.proofs.Common.{◌≡◌, ◌<◌, vec_len}
use Rattle.std.specs.Io.KnownBytes.{Consumes}
use Rattle.wb_csv.proofs.program.copy_bytes.Given as goal

-- the bytes so far were taken of the input, and nothing is written
abbrev pub invariant-loop : goal.invariant-loop
invariant-loop g l = record {
  took : Consumes (g.R.Read.remaining l.fn.input) (g.R.Read.remaining l.input) l.start.items;
  wrote : g.W.Write.contents l.output ≡ g.W.Write.contents l.fn.output;
  room : 0 < vec_len l.buffer;
}
