use Rattle.std.proofs.Common.{refl}
use Rattle.wb_json.proofs.lemmas.InputLemmas.{no-both}
use Rattle.wb_json.proofs.lemmas.FailureLemmas.{stops-breaks}
use Rattle.wb_json.proofs.printing.Printing.print_ready.Goals as goal

pub returns-in-Ok-NeedsMore-clause-keeps : goal.returns-in-Ok-NeedsMore-clause-keeps
returns-in-Ok-NeedsMore-clause-keeps g c =
    let taken = rw c.in-Ok-NeedsMore.field-0-is at c.in-Ok-NeedsMore.ensures.taken in record {
      settings = refl;
      begun = refl;
      limits = c.in-Ok-NeedsMore.ensures.keeps;
      short = c.in-Ok-NeedsMore.ensures.short;
      going = taken.0;
      start = c.drop_before.ensures.start;
      window = c.drop_before.ensures.window;
    }

pub returns-in-Ok-NeedsMore-clause-whole : goal.returns-in-Ok-NeedsMore-clause-whole
returns-in-Ok-NeedsMore-clause-whole g c =
    let taken = rw c.in-Ok-NeedsMore.field-0-is at c.in-Ok-NeedsMore.ensures.taken in
    λ e. absurd (no-both _ e taken.2)

pub returns-in-Ok-NeedsMore-clause-printed : goal.returns-in-Ok-NeedsMore-clause-printed
returns-in-Ok-NeedsMore-clause-printed g c =
    let taken = rw c.in-Ok-NeedsMore.field-0-is at c.in-Ok-NeedsMore.ensures.taken in taken.1

pub returns-in-Ok-Done-clause-keeps : goal.returns-in-Ok-Done-clause-keeps
returns-in-Ok-Done-clause-keeps g c =
    let taken = rw c.in-Ok-Done.field-0-is at c.in-Ok-Done.ensures.taken in record {
      settings = refl;
      begun = refl;
      limits = c.in-Ok-Done.ensures.keeps;
      short = c.in-Ok-Done.ensures.short;
      going = taken.0;
      start = refl;
      window = λ input h. h;
    }

pub returns-in-Ok-Done-clause-whole : goal.returns-in-Ok-Done-clause-whole
returns-in-Ok-Done-clause-whole g c =
    let taken = rw c.in-Ok-Done.field-0-is at c.in-Ok-Done.ensures.taken in λ e. taken.2

pub returns-in-Ok-Done-clause-printed : goal.returns-in-Ok-Done-clause-printed
returns-in-Ok-Done-clause-printed g c =
    let taken = rw c.in-Ok-Done.field-0-is at c.in-Ok-Done.ensures.taken in taken.1

pub returns-in-Err-Faulty-clause-failed : goal.returns-in-Err-Faulty-clause-failed
returns-in-Err-Faulty-clause-failed g c =
    let contents = g.W.Write.contents in
    let taken = rw c.in-Err-Faulty.field-0-is at c.in-Err-Faulty.ensures.taken in
    stops-breaks c.args.self.now c.in-Err-Faulty.place c.in-Err-Faulty.fault c.failure.result
    (contents c.args.output.now) (contents c.take_events.new.output) taken c.failure.ensures
