use Rattle.std.proofs.Common.{refl, ◌∙◌}
use Rattle.std.specs.Prelude.{Ok, Err}
use Rattle.winnow_reader.specs.declared.next.Next.TheVariants as next
use Rattle.wb_json.proofs.lemmas.TakenLemmas.{prints-still, prints-more, taken-more}
use Rattle.wb_json.proofs.taking.take_events.Goals as goal

pub loop-turn-init : goal.loop-turn-init
loop-turn-init g c = record {
  going = c.requires;
  keeps = (refl, refl);
  short = λ input h. h;
  prints = prints-still c.args.settings.layout c.args.reader.now c.args.path.now (g.W.Write.contents c.args.output.now);
}

pub loop-turn-preserved : goal.loop-turn-preserved
loop-turn-preserved g c =
    let contents = g.W.Write.contents in
    let taken = rw c.in-Ok-Value.field-0-is at c.in-Ok-Value.ensures.taken in
    record {
      going = taken.0;
      keeps = (
        c.take_event.ensures.keeps.0 ∙ c.loop-turn.invariant.keeps.0,
        c.take_event.ensures.keeps.1 ∙ c.loop-turn.invariant.keeps.1,
      );
      short = λ input h. c.in-Ok-Value.ensures.short input (c.loop-turn.invariant.short input h);
      prints = prints-more c.args.settings.layout c.args.reader.now c.loop-turn.reader c.take_event.new.reader c.args.path.now c.loop-turn.path c.take_event.new.path
          (contents c.args.output.now) (contents c.loop-turn.output) (contents c.take_event.new.output) c.loop-turn.invariant.prints taken.1;
    }

pub returns-in-Ok-NeedsMore-clause-taken : goal.returns-in-Ok-NeedsMore-clause-taken
returns-in-Ok-NeedsMore-clause-taken g c =
    let contents = g.W.Write.contents in
    let taken = rw c.in-Ok-NeedsMore.field-0-is at c.in-Ok-NeedsMore.ensures.taken in
    taken-more c.args.settings c.args.reader.now c.loop-turn.reader c.take_event.new.reader c.args.path.now c.loop-turn.path c.take_event.new.path
    (contents c.args.output.now) (contents c.loop-turn.output) (contents c.take_event.new.output)
    (Ok next.NeedsMore) c.loop-turn.invariant.prints c.loop-turn.invariant.keeps taken

pub returns-in-Ok-Done-clause-taken : goal.returns-in-Ok-Done-clause-taken
returns-in-Ok-Done-clause-taken g c =
    let contents = g.W.Write.contents in
    let taken = rw c.in-Ok-Done.field-0-is at c.in-Ok-Done.ensures.taken in
    taken-more c.args.settings c.args.reader.now c.loop-turn.reader c.take_event.new.reader c.args.path.now c.loop-turn.path c.take_event.new.path
    (contents c.args.output.now) (contents c.loop-turn.output) (contents c.take_event.new.output)
    (Ok next.Done) c.loop-turn.invariant.prints c.loop-turn.invariant.keeps taken

pub returns-in-Err-clause-taken : goal.returns-in-Err-clause-taken
returns-in-Err-clause-taken g c =
    let contents = g.W.Write.contents in
    taken-more c.args.settings c.args.reader.now c.loop-turn.reader c.take_event.new.reader c.args.path.now c.loop-turn.path c.take_event.new.path
    (contents c.args.output.now) (contents c.loop-turn.output) (contents c.take_event.new.output)
    (Err c.in-Err.stop) c.loop-turn.invariant.prints c.loop-turn.invariant.keeps c.in-Err.ensures.taken
