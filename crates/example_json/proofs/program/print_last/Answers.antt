use Rattle.std.proofs.Common.{[], ap}
use Rattle.std.specs.Io.KnownBytes.{Appends}
use Rattle.format_json_events.specs.Reading.{EventState, events_ended, KeepsLimits}
use Rattle.example_json.proofs.lemmas.FollowLemmas.{also-none, fails-piece, prints-ended}
use Rattle.example_json.proofs.program.print_last.Goals as goal

pub returns-in-Err-clause-failed : goal.returns-in-Err-clause-failed
returns-in-Err-clause-failed g c =
    let held = g.W.Write.contents c.args.output.now in
    let now = g.W.Write.contents c.print_ready.new.output in
    let keeps : KeepsLimits (events_ended c.args.reader.now) c.end.new.self = (ap (λ (r : EventState). r.text.depth) c.end.ensures.state, ap (λ (r : EventState). r.tokens.ended) c.end.ensures.state) in
    fails-piece c.args.reader.now c.end.new.self (events_ended c.args.reader.now) c.args.progress.now [] c.in-Err.failure (Appends held now)
    (also-none c.args.reader.now c.end.new.self c.end.ensures.read) keeps c.in-Err.ensures.failed

pub returns-clause-printed : goal.returns-clause-printed
returns-clause-printed g c =
    let held = g.W.Write.contents c.args.output.now in
    let now = g.W.Write.contents c.print_ready.new.output in
    prints-ended c.args.reader.now c.end.new.self c.print_ready.new.reader c.args.progress.now.level c.print_ready.new.progress.level (Appends held now)
    c.end.ensures.read c.in_default.ensures.printed
