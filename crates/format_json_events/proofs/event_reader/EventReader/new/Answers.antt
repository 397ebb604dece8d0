use Rattle.std.proofs.Common.{[], ap, sym, ◌∙◌, refl}
use Rattle.format_json_events.specs.Turns.{at_begin}
use Rattle.format_json_events.proofs.lemmas.DroppedLemmas.{taken-read}
use Rattle.format_json_events.proofs.event_reader.EventReader.new.Goals as goal

pub returns-clause-read : goal.returns-clause-read
returns-clause-read c = record {
  taken = [];
  others = [];
  read = taken-read c.new.result [] [] c.new.ensures.read;
  going = λ e. refl;
  takes = (refl, c.new-2.ensures ∙ ap at_begin (sym (ap (λ s. s.depth) c.new-2.ensures)));
}
