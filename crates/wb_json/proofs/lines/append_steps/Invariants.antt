use Rattle.std.proofs.Common.{◌≡◌, ◌++◌, take}
use Rattle.std.specs.List.{flat_map}
use Rattle.wb_json.specs.Lines.{step_text}
use Rattle.wb_json.proofs.lines.append_steps.Given as goal

-- the steps so far are appended
abbrev pub invariant-loop-step : goal.invariant-loop-step
invariant-loop-step l =
    l.text.items ≡ l.initial.text.items ++ flat_map step_text (take l.step-index l.steps)
