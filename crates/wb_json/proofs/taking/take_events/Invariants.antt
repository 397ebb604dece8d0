use Rattle.std.proofs.Common.{◌≡◌, None}
use Rattle.format_json_events.specs.Reading.{KeepsLimits}
use Rattle.format_json_events.specs.Lengths.{KeepsShort}
use Rattle.wb_json.specs.Taking.{PrintsOn}
use Rattle.wb_json.proofs.taking.take_events.Given as goal

-- the events so far were taken, and their lines are written
abbrev pub invariant-loop-turn : goal.invariant-loop-turn
invariant-loop-turn g l = record {
  going : l.reader.stopped ≡ None;
  keeps : KeepsLimits l.fn.reader l.reader;
  short : KeepsShort l.fn.settings.limit l.fn.reader l.reader;
  prints : PrintsOn l.fn.settings.layout l.fn.reader l.fn.path l.reader l.path
      (g.W.Write.contents l.fn.output) (g.W.Write.contents l.output);
}
