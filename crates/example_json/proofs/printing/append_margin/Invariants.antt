use Rattle.std.proofs.Common.{◌≡◌, ◌*◌, ◌++◌, replicate}
use Rattle.example_json.proofs.printing.append_margin.Given as goal

-- the spaces so far are appended
abbrev pub invariant-loop-turn : goal.invariant-loop-turn
invariant-loop-turn l = l.text.items ≡ l.initial.text.items ++ replicate (2 * l._turn) 32
