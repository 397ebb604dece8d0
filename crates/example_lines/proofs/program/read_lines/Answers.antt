use Rattle.std.proofs.Common.{◌≡◌, [], ◌∷◌, ◌++◌, ap, sym, ◌∙◌, subst}
use Rattle.std.proofs.lemmas.List.{append-nil}
use Rattle.winnow.specs.Reading.{Lacks}
use Rattle.winnow.specs.Answering.{FailsAt-by}
use Rattle.example_lines.specs.Lines.{HasLines, OneLine}
use Rattle.example_lines.proofs.lemmas.ReadingLemmas.{never-fails, never-idles}
use Rattle.example_lines.proofs.program.read_lines.Goals as goal

pub returns-in_err-reserve-clause-read : goal.returns-in_err-reserve-clause-read
returns-in_err-reserve-clause-read c = λ input h.
    subst (λ ls. HasLines c.loop-reader.reader input ls) (sym c.in_err-reserve.ensures.items) (c.loop-reader.invariant.read input h)

pub loop-reader-preserved : goal.loop-reader-preserved
loop-reader-preserved c = record {
  goes_on =
      let value = rw c.in-Ok-Value.field-0-is at c.in-Ok-Value.ensures.next in
      ap (λ f. f.ended) value.1.3 ∙ c.loop-reader.invariant.goes_on;
  read = λ input h.
      let reads = rw c.in-Ok-Value.field-0-is at c.in-Ok-Value.ensures.read in
      let read = reads input c.loop-reader.lines.items (c.loop-reader.invariant.read input h) in
      let pushed : c.push.new.self.items ≡ c.loop-reader.lines.items ++ c.in-Ok-Value.line ∷ [] =
      c.in-Ok.ensures.items ∙ ap (λ ls. ls ++ c.in-Ok-Value.line ∷ []) c.reserve.ensures.items in
      subst (λ ls. HasLines c.read_next.new.self input ls) (sym pushed) read;
}

pub returns-in-Ok-NeedsMore-clause-read : goal.returns-in-Ok-NeedsMore-clause-read
returns-in-Ok-NeedsMore-clause-read c = λ input h.
    let reads = rw c.in-Ok-NeedsMore.field-0-is at c.in-Ok-NeedsMore.ensures.read in
    let read = reads input c.loop-reader.lines.items (c.loop-reader.invariant.read input h) in
    subst (λ ls. HasLines c.read_next.new.self input ls) (append-nil c.loop-reader.lines.items ∙ sym c.reserve.ensures.items) read

pub returns-in-Ok-NeedsMore-clause-all : goal.returns-in-Ok-NeedsMore-clause-all
returns-in-Ok-NeedsMore-clause-all c = λ input h.
    let waits = rw c.in-Ok-NeedsMore.field-0-is at c.in-Ok-NeedsMore.ensures.next in
    let lacks = waits.1 input c.loop-reader.lines.items (c.loop-reader.invariant.read input h) in
    subst (λ f. Lacks (λ r. OneLine) f) (sym waits.3) lacks

pub returns-in-Err-Refused-clause-read : goal.returns-in-Err-Refused-clause-read
returns-in-Err-Refused-clause-read c = λ input h.
    let read = c.in-Err-Refused.ensures.read input c.loop-reader.lines.items (c.loop-reader.invariant.read input h) in
    subst (λ ls. HasLines c.read_next.new.self input ls) (append-nil c.loop-reader.lines.items ∙ sym c.reserve.ensures.items) read

pub unreachable-requires-in-Err-Failed : goal.unreachable-requires-in-Err-Failed
unreachable-requires-in-Err-Failed c =
    let failed = (rw c.in-Err-Failed.field-0-is at c.in-Err-Failed.ensures.next).0 in
    never-fails c.loop-reader.reader c.loop-reader.invariant.goes_on _ (FailsAt-by (λ r. OneLine) c.loop-reader.reader _ _ failed)

pub unreachable-requires-in-Err-TakesNothing : goal.unreachable-requires-in-Err-TakesNothing
unreachable-requires-in-Err-TakesNothing c =
    let failed = (rw c.in-Err-TakesNothing.field-0-is at c.in-Err-TakesNothing.ensures.next).0 in
    never-idles c.loop-reader.reader c.loop-reader.invariant.goes_on _ failed
