use Rattle.std.proofs.Common.{◌<◌}
use Rattle.std.specs.Prelude.{length}
use Rattle.example_base.specs.Driving.{FollowsOn}
use Rattle.example_base.proofs.driving.drive.Given as goal

-- it follows the bytes that were read
abbrev pub invariant-loop : goal.invariant-loop
invariant-loop g l = record {
  ready : g.D.Driven.ready l.driven;
  room : 0 < length l.buffer;
  follows : FollowsOn g.D.Driven.follows
      l.fn.driven (g.R.Read.remaining l.fn.input) (g.W.Write.contents l.fn.output)
      l.driven (g.R.Read.remaining l.input) (g.W.Write.contents l.output);
}
