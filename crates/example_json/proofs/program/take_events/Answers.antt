use Rattle.std.proofs.Common.{refl, ◌∙◌}
use Rattle.std.specs.Prelude.{Ok, Err}
use Rattle.winnow_reader.specs.declared.next.Next.TheVariants as next
use Rattle.example_json.proofs.lemmas.TakenLemmas.{prints-still, prints-more, taken-more}
use Rattle.example_json.proofs.program.take_events.Goals as goal

pub loop-turn-init : goal.loop-turn-init
loop-turn-init c = record {
  going = c.requires;
  keeps = (refl, refl);
  prints = prints-still c.args.reader.now c.args.level.now c.args.text.now.items;
}

pub loop-turn-preserved : goal.loop-turn-preserved
loop-turn-preserved c =
    let taken = rw c.in-Ok-Value.field-0-is at c.in-Ok-Value.ensures.taken in
    record {
      going = taken.0;
      keeps = (
        c.take_event.ensures.keeps.0 ∙ c.loop-turn.invariant.keeps.0,
        c.take_event.ensures.keeps.1 ∙ c.loop-turn.invariant.keeps.1,
      );
      prints = prints-more c.args.reader.now c.loop-turn.reader c.take_event.new.reader c.args.level.now c.loop-turn.level c.take_event.new.level c.args.text.now.items c.loop-turn.text.items c.take_event.new.text.items
          c.loop-turn.invariant.prints taken.1;
    }

pub returns-in-Ok-NeedsMore-clause-taken : goal.returns-in-Ok-NeedsMore-clause-taken
returns-in-Ok-NeedsMore-clause-taken c =
    let taken = rw c.in-Ok-NeedsMore.field-0-is at c.in-Ok-NeedsMore.ensures.taken in
    taken-more c.args.reader.now c.loop-turn.reader c.take_event.new.reader c.args.level.now c.loop-turn.level c.take_event.new.level c.args.text.now.items c.loop-turn.text.items c.take_event.new.text.items
    (Ok next.NeedsMore) c.loop-turn.invariant.prints c.loop-turn.invariant.keeps taken

pub returns-in-Ok-Done-clause-taken : goal.returns-in-Ok-Done-clause-taken
returns-in-Ok-Done-clause-taken c =
    let taken = rw c.in-Ok-Done.field-0-is at c.in-Ok-Done.ensures.taken in
    taken-more c.args.reader.now c.loop-turn.reader c.take_event.new.reader c.args.level.now c.loop-turn.level c.take_event.new.level c.args.text.now.items c.loop-turn.text.items c.take_event.new.text.items
    (Ok next.Done) c.loop-turn.invariant.prints c.loop-turn.invariant.keeps taken

pub returns-in-Err-clause-taken : goal.returns-in-Err-clause-taken
returns-in-Err-clause-taken c =
    taken-more c.args.reader.now c.loop-turn.reader c.take_event.new.reader c.args.level.now c.loop-turn.level c.take_event.new.level c.args.text.now.items c.loop-turn.text.items c.take_event.new.text.items
    (Err c.in-Err.error) c.loop-turn.invariant.prints c.loop-turn.invariant.keeps c.in-Err.ensures.taken
