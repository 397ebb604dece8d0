use Rattle.std.proofs.Common.{◌++◌, sym, subst, append-nil}
use Rattle.format_json_events.specs.Blanks.{HasTaken}
use Rattle.format_json_events.specs.Turns.{state_of, at_begin}
use Rattle.format_json_events.specs.Reading.{Takes, HasGiven}
use Rattle.format_json_events.proofs.lemmas.DroppedLemmas.{taken-ended}
use Rattle.format_json_events.proofs.event_reader.EventReader.end.Goals as goal

pub returns-clause-read : goal.returns-clause-read
returns-clause-read c = λ input before h.
    let g = subst (λ o. HasGiven o input before) (sym c.self.view_is) h in
    let text = state_of c.self.inside.syntax in
    record {
      taken = g.taken;
      others = g.others;
      read = subst (λ f. HasTaken f input (g.taken ++ g.others)) (sym c.end.ensures.state)
          (taken-ended c.self.inside.tokens input (g.taken ++ g.others) g.read);
      going = g.going;
      takes = subst (λ l. Takes (at_begin text.depth) g.taken l text) (sym (append-nil before)) g.takes;
    }
