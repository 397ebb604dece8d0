-- What was given stays given where bytes are dropped that tokens took.
use Rattle.std.specs.Prelude.{ℕ, List, ◌++◌}
use Rattle.format_json_events.specs.Reading.{EventState, HasGiven, events_unspent}
use Rattle.format_json_events.specs.declared.event_reader.Event.{Event}
use Rattle.format_json_events.proofs.lemmas.DroppedLemmas.{taken-unspent}

-- a reader that dropped those bytes has given the same
pub unspent_has : (r : EventState) (input : List ℕ) (events : List Event)
    → HasGiven r input events → HasGiven (events_unspent r) input events
unspent_has r input events g = record {
  taken = g.taken;
  others = g.others;
  read = taken-unspent r.tokens input (g.taken ++ g.others) g.read;
  going = g.going;
  takes = g.takes;
}
