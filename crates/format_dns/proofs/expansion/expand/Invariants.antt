use Rattle.std.proofs.Common.{◌+◌, ◌≤◌}
use Rattle.format_dns.specs.Pointers.{Reaches}
use Rattle.format_dns.proofs.expansion.expand.Given as goal

abbrev pub invariant-loop-k : goal.invariant-loop-k
invariant-loop-k l = record {
  back : l.limit + l._k ≤ 16384;
  reaches : Reaches l.message l.name l.ending l.limit l.text.items;
}
