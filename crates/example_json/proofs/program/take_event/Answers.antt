use Rattle.example_json.proofs.lemmas.TakenLemmas.{prints-none, prints-event, waits-open, taken-error}
use Rattle.example_json.proofs.program.take_event.Goals as goal

pub returns-in-Ok-clause-taken : goal.returns-in-Ok-clause-taken
returns-in-Ok-clause-taken c =
    let read = rw c.in-Ok-Value.field-0-is at c.in-Ok-Value.ensures.read in
    let answer = rw c.in-Ok-Value.field-0-is at c.in-Ok-Value.ensures.answer in (
      answer c.requires,
      prints-event c.args.reader.now c.next_event.new.self c.args.level.now c.append_line.new.level c.args.text.now.items c.append_line.new.text.items c.in-Ok-Value.event read
          c.in-Ok.ensures.level c.in-Ok.ensures.line,
    )

pub returns-in-Ok-NeedsMore-clause-taken : goal.returns-in-Ok-NeedsMore-clause-taken
returns-in-Ok-NeedsMore-clause-taken c =
    let read = rw c.in-Ok-NeedsMore.field-0-is at c.in-Ok-NeedsMore.ensures.read in
    let answer = (rw c.in-Ok-NeedsMore.field-0-is at c.in-Ok-NeedsMore.ensures.answer) c.requires in (
      answer.1.1.0,
      prints-none c.args.reader.now c.next_event.new.self c.args.level.now c.args.text.now.items read,
      waits-open answer.0 c.next_event.new.self answer.1.1.1 answer.1.1.2,
    )

pub returns-in-Ok-Done-clause-taken : goal.returns-in-Ok-Done-clause-taken
returns-in-Ok-Done-clause-taken c =
    let read = rw c.in-Ok-Done.field-0-is at c.in-Ok-Done.ensures.read in
    let answer = (rw c.in-Ok-Done.field-0-is at c.in-Ok-Done.ensures.answer) c.requires in (
      answer.0,
      prints-none c.args.reader.now c.next_event.new.self c.args.level.now c.args.text.now.items read,
      answer.1,
    )

pub returns-clause-taken : goal.returns-clause-taken
returns-clause-taken c =
    let answer = (rw c.in-Err.error-is at c.in-Err.ensures.answer) c.requires in
    taken-error c.args.reader.now c.next_event.new.self c.args.level.now c.args.text.now.items c.in-Err.error answer
