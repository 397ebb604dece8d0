use Rattle.std.proofs.Common.{◌≡◌, ◌++◌, None}
use Rattle.format_json_events.specs.Reading.{KeepsLimits}
use Rattle.example_json.specs.Taking.{PrintsOn}
use Rattle.example_json.proofs.program.take_events.Given as goal

-- the events so far were taken, and their lines are appended
abbrev pub invariant-loop-turn : goal.invariant-loop-turn
invariant-loop-turn l = record {
  going : l.reader.stopped ≡ None;
  keeps : KeepsLimits l.initial.reader l.reader;
  prints : PrintsOn l.initial.reader l.initial.level l.reader l.level
      (λ lines. l.text.items ≡ l.initial.text.items ++ lines);
}
