use Rattle.wb_json.proofs.lemmas.TakenLemmas.{prints-none, prints-event, waits-open, taken-error}
use Rattle.wb_json.proofs.taking.take_event.Goals as goal

pub returns-in-Ok-clause-taken : goal.returns-in-Ok-clause-taken
returns-in-Ok-clause-taken g c =
    let contents = g.W.Write.contents in
    let read = rw c.in-Ok-Value.field-0-is at c.in-Ok-Value.ensures.read in
    let answer = rw c.in-Ok-Value.field-0-is at c.in-Ok-Value.ensures.answer in (
      answer c.requires,
      prints-event c.args.settings.layout c.args.reader.now c.next_within.new.self c.args.path.now c.write_event.new.path
          (contents c.args.output.now) (contents c.write_event.new.output) c.in-Ok-Value.event read
          c.in-Ok.ensures.path c.in-Ok.ensures.wrote,
    )

pub returns-in-Ok-NeedsMore-clause-taken : goal.returns-in-Ok-NeedsMore-clause-taken
returns-in-Ok-NeedsMore-clause-taken g c =
    let read = rw c.in-Ok-NeedsMore.field-0-is at c.in-Ok-NeedsMore.ensures.read in
    let answer = (rw c.in-Ok-NeedsMore.field-0-is at c.in-Ok-NeedsMore.ensures.answer) c.requires in (
      answer.1.1.0,
      prints-none c.args.settings.layout c.args.reader.now c.next_within.new.self c.args.path.now (g.W.Write.contents c.args.output.now) read,
      waits-open answer.0 c.next_within.new.self answer.1.1.1 answer.1.1.2,
    )

pub returns-in-Ok-Done-clause-taken : goal.returns-in-Ok-Done-clause-taken
returns-in-Ok-Done-clause-taken g c =
    let read = rw c.in-Ok-Done.field-0-is at c.in-Ok-Done.ensures.read in
    let answer = (rw c.in-Ok-Done.field-0-is at c.in-Ok-Done.ensures.answer) c.requires in (
      answer.0,
      prints-none c.args.settings.layout c.args.reader.now c.next_within.new.self c.args.path.now (g.W.Write.contents c.args.output.now) read,
      answer.1,
    )

pub returns-in-Err-clause-taken : goal.returns-in-Err-clause-taken
returns-in-Err-clause-taken g c =
    let answer = (rw c.in-Err.error-is at c.in-Err.ensures.answer) c.requires in
    taken-error c.args.settings c.args.reader.now c.next_within.new.self c.args.path.now (g.W.Write.contents c.args.output.now) c.in-Err.error c.stop_of.result answer c.stop_of.ensures
