use Rattle.std.proofs.Common.{◌≡◌, ◌++◌, replicate}
use Rattle.wb_replies.proofs.lines.append_spaces.Given as goal

-- the spaces so far are appended
abbrev pub invariant-loop-turn : goal.invariant-loop-turn
invariant-loop-turn l = l.text.items ≡ l.initial.text.items ++ replicate l._turn 32
