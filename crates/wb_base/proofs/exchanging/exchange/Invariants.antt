use Rattle.std.proofs.Common.{◌≡◌, ◌++◌, take, drop}
use Rattle.wb_base.specs.Exchanging.{exchanged}
use Rattle.wb_base.proofs.exchanging.exchange.Given as goal

-- the bytes so far are exchanged
abbrev pub invariant-loop-index : goal.invariant-loop-index
invariant-loop-index l =
    l.bytes ≡ exchanged l.one l.other (take l.index l.fn.bytes) ++ drop l.index l.fn.bytes
