use Rattle.std.specs.Io.KnownBytes.{Keeps}
use Rattle.example_base.proofs.driving.read_piece.Given as goal

-- nothing is taken so far
abbrev pub invariant-loop : goal.invariant-loop
invariant-loop g l = Keeps (g.R.Read.remaining l.fn.input) (g.R.Read.remaining l.input)
