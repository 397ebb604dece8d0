use Rattle.std.proofs.Common.{length}
use Rattle.format_json_events.proofs.lemmas.EventLemmas.{IsOnWay}
use Rattle.format_json_events.proofs.event_reader.EventReader.next_event.Given as goal

-- the tokens so far have no event
abbrev pub invariant-loop-event : goal.invariant-loop-event
invariant-loop-event l = IsOnWay l.initial.self l.self

abbrev pub decreases-loop-event : goal.decreases-loop-event
decreases-loop-event l = length l.self.tokens.ahead
