use Rattle.std.proofs.Common.{◌≡◌, false, ◌++◌, sym, subst}
use Rattle.format_json_events.specs.Blanks.{HasTaken}
use Rattle.format_json_events.specs.Reading.{EventState, HasGiven}
use Rattle.format_json_events.proofs.lemmas.DroppedLemmas.{taken-pushed}
use Rattle.format_json_events.proofs.event_reader.EventReader.push.Goals as goal

pub returns-clause-read : goal.returns-clause-read
returns-clause-read c = λ input events h.
    let g = subst (λ o. HasGiven o input events) (sym c.self.view_is) h in
    let old = c.self.inside.tokens in
    let goes = subst (λ (o : EventState). o.tokens.ended ≡ false) (sym c.self.view_is) c.requires.goes_on in
    record {
      taken = g.taken;
      others = g.others;
      read = subst (λ f. HasTaken f (input ++ c.args.piece.now) (g.taken ++ g.others)) (sym c.in_ok-push.ensures.ok)
          (taken-pushed old c.args.piece.now goes input (g.taken ++ g.others) g.read);
      going = g.going;
      takes = g.takes;
    }
