use Rattle.std.proofs.Common.{length}
use Rattle.format_json_events.specs.Lengths.{KeepsShort}
use Rattle.format_json_events.proofs.lemmas.EventLemmas.{IsOnWay}
use Rattle.format_json_events.proofs.event_reader.EventReader.next_within.Given as goal

-- the tokens so far have no event, and none is too long
abbrev pub invariant-loop-event : goal.invariant-loop-event
invariant-loop-event l = record {
  way : IsOnWay l.initial.self l.self;
  short : KeepsShort l.fn.limit l.initial.self l.self;
}

abbrev pub decreases-loop-event : goal.decreases-loop-event
decreases-loop-event l = length l.self.tokens.ahead
