use Rattle.std.proofs.Common.{◌≡◌, ℕ, ◌+◌, ◌-◌, ◌<◌, ◌^◌, List, length, take, drop, ap, sym, ◌∙◌, subst, arith}
use Rattle.winnow.specs.State.{ReaderState, fed_of}
use Rattle.winnow.specs.Answering.{FailsAt-by}
use Rattle.format_csv.specs.declared.grammar.Row.{Row}
use Rattle.std.specs.Io.KnownBytes.{Appends}
use Rattle.std.specs.Prelude.{Some}
use Rattle.example_csv.specs.Positions.{feeds_of}
use Rattle.example_csv.specs.Lines.{line_of}
use Rattle.example_csv.specs.Copying.{IsDamageAfter, IsOtherWidth, FitsWidth}
use Rattle.format_csv.specs.Writing.{values_in}
use Rattle.format_csv.specs.Reading.{RowInPieces}
use Rattle.example_csv.proofs.lemmas.CopyLemmas.{begun-now, row-fits, writes-row, writes-waiting}
use Rattle.example_csv.proofs.lemmas.DamageLemmas.{damage-some, damage-within, begun-fits, stops-damaged, stops-uneven}
use Rattle.example_csv.proofs.program.write_records.Goals as goal

pub count-requires : goal.count-requires
count-requires g c =
    let held = g.W.Write.contents c.args.output.now in
    let now = g.W.Write.contents c.loop-row.output in
    let begun = begun-now c.args.reader.now c.loop-row.reader c.args.progress.now c.loop-row.progress held now c.requires c.loop-row.invariant.writes in
    let reads = rw c.in-Ok-Value.field-0-is at c.in-Ok-Value.ensures.read in
    subst (λ (xs : List _). c.loop-row.progress.feeds + feeds_of xs < 2 ^ 64) (sym c.deref.ensures.value)
    (row-fits c.rows_in_pieces_law.ensures.records c.loop-row.reader c.read_next.new.self c.loop-row.progress begun.0 begun.1.0 c.in-Ok-Value.row begun.1.1 (reads begun.0 begun.1.0 begun.1.1.read))

pub returns-in-Ok-NeedsMore-clause-ok : goal.returns-in-Ok-NeedsMore-clause-ok
returns-in-Ok-NeedsMore-clause-ok g c =
    let held = g.W.Write.contents c.args.output.now in
    let now = g.W.Write.contents c.loop-row.output in
    let reads = rw c.in-Ok-NeedsMore.field-0-is at c.in-Ok-NeedsMore.ensures.read in
    let waits = rw c.in-Ok-NeedsMore.field-0-is at c.in-Ok-NeedsMore.ensures.next in
    writes-waiting c.args.reader.now c.loop-row.reader c.read_next.new.self c.args.progress.now c.loop-row.progress held now c.loop-row.invariant.writes (ap fed_of waits.3) reads

pub damage-requires-clause-from : goal.damage-requires-clause-from
damage-requires-clause-from g c =
    let old = c.loop-row.reader in
    let place = c.in-Err-Failed.place in
    let failed = FailsAt-by (λ (r : Row). RowInPieces) old _ place (rw c.in-Err-Failed.field-0-is at c.in-Err-Failed.ensures.next).0 in
    let finds = c.rows_in_pieces_law.ensures.damaged old place failed (λ through. let e = c.in-Err-Failed.ensures.done.1 through in cc) in
    omega (arith, (damage-within old place finds).0, ap (λ (f : ReaderState Row). f.place) c.in-Err-Failed.ensures.next.1, c.in-Err-Failed.place-is)

pub damage-requires-clause-to : goal.damage-requires-clause-to
damage-requires-clause-to g c =
    let old = c.loop-row.reader in
    let place = c.in-Err-Failed.place in
    let failed = FailsAt-by (λ (r : Row). RowInPieces) old _ place (rw c.in-Err-Failed.field-0-is at c.in-Err-Failed.ensures.next).0 in
    let finds = c.rows_in_pieces_law.ensures.damaged old place failed (λ through. let e = c.in-Err-Failed.ensures.done.1 through in cc) in
    omega (arith, (damage-within old place finds).1, ap (λ (f : ReaderState Row). fed_of f) c.in-Err-Failed.ensures.next.1, c.in-Err-Failed.place-is)

pub damage-requires-clause-counted : goal.damage-requires-clause-counted
damage-requires-clause-counted g c =
    let old = c.loop-row.reader in
    let place = c.in-Err-Failed.place in
    let held = g.W.Write.contents c.args.output.now in
    let now = g.W.Write.contents c.loop-row.output in
    let begun = begun-now c.args.reader.now old c.args.progress.now c.loop-row.progress held now c.requires c.loop-row.invariant.writes in
    let failed = FailsAt-by (λ (r : Row). RowInPieces) old _ place (rw c.in-Err-Failed.field-0-is at c.in-Err-Failed.ensures.next).0 in
    let finds = c.rows_in_pieces_law.ensures.damaged old place failed (λ through. let e = c.in-Err-Failed.ensures.done.1 through in cc) in
    let some = damage-some old place finds (λ through. let e = c.in-Err-Failed.ensures.done.1 through in cc) in
    omega (arith, begun-fits c.rows_in_pieces_law.ensures.records old c.loop-row.progress begun some, ap (λ (f : ReaderState Row). length f.ahead) c.in-Err-Failed.ensures.next.1)

pub returns-in-Err-Failed-clause-failed : goal.returns-in-Err-Failed-clause-failed
returns-in-Err-Failed-clause-failed g c =
    let old = c.loop-row.reader in
    let new = c.read_next.new.self in
    let place = c.in-Err-Failed.place in
    let feeds = c.loop-row.progress.feeds in
    let failure = c.damage.result in
    let held = g.W.Write.contents c.args.output.now in
    let now = g.W.Write.contents c.loop-row.output in
    let failed = FailsAt-by (λ (r : Row). RowInPieces) old _ place (rw c.in-Err-Failed.field-0-is at c.in-Err-Failed.ensures.next).0 in
    let finds = c.rows_in_pieces_law.ensures.damaged old place failed (λ through. let e = c.in-Err-Failed.ensures.done.1 through in cc) in
    let some = damage-some old place finds (λ through. let e = c.in-Err-Failed.ensures.done.1 through in cc) in
    let there = subst (λ (n : ℕ). IsDamageAfter feeds (take (n - new.place) new.ahead) (drop (n - new.place) new.ahead) failure) c.in-Err-Failed.place-is c.damage.ensures in
    let is = subst (λ (f : ReaderState Row). IsDamageAfter feeds (take (place - f.place) f.ahead) (drop (place - f.place) f.ahead) failure) c.in-Err-Failed.ensures.next.1 there in
    stops-damaged c.rows_in_pieces_law.ensures.records c.args.reader.now old c.args.progress.now c.loop-row.progress held now place failure c.loop-row.invariant.writes c.loop-row.invariant.ended finds some is

pub unreachable-requires : goal.unreachable-requires
unreachable-requires g c =
    c.rows_in_pieces_law.ensures.takes c.loop-row.reader c.in-Err-TakesNothing.field-0-0 (rw c.in-Err-TakesNothing.field-0-is at c.in-Err-TakesNothing.ensures.next).0

pub returns-in-Err-clause-failed : goal.returns-in-Err-clause-failed
returns-in-Err-clause-failed g c =
    let held = g.W.Write.contents c.args.output.now in
    let now = g.W.Write.contents c.loop-row.output in
    let reads = rw c.in-Ok-Value.field-0-is at c.in-Ok-Value.ensures.read in
    let value = rw c.in-Ok-Value.field-0-is at c.in-Ok-Value.ensures.next in
    let other = subst (λ (n : ℕ). IsOtherWidth c.loop-row.progress n c.in-Err.failure) c.deref.ensures.len c.in-Err.ensures.uneven in
    stops-uneven c.rows_in_pieces_law.ensures.records c.args.reader.now c.loop-row.reader c.read_next.new.self c.args.progress.now c.loop-row.progress held now c.in-Ok-Value.row c.in-Err.failure c.loop-row.invariant.writes (ap (λ (f : ReaderState Row). f.ended) value.1.3 ∙ c.loop-row.invariant.ended) reads other

pub loop-row-preserved : goal.loop-row-preserved
loop-row-preserved g c =
    let held = g.W.Write.contents c.args.output.now in
    let now = g.W.Write.contents c.loop-row.output in
    let new = g.W.Write.contents c.write_line.new.output in
    let row = c.in-Ok-Value.row in
    let reads = rw c.in-Ok-Value.field-0-is at c.in-Ok-Value.ensures.read in
    let value = rw c.in-Ok-Value.field-0-is at c.in-Ok-Value.ensures.next in
    let feeds = subst (λ (xs : List _). c.count.new.self.feeds ≡ c.loop-row.progress.feeds + feeds_of xs) c.deref.ensures.value c.in_default.ensures.feeds in
    let width = subst (λ (n : ℕ). c.count.new.self.width ≡ Some n) c.deref.ensures.len c.in_default.ensures.width in
    let even = subst (λ (n : ℕ). FitsWidth c.loop-row.progress.width n) c.deref.ensures.len c.in_default.ensures.even in
    let line = subst (λ (xs : List _). Appends now new (line_of (values_in xs))) c.deref-in-Ok-Value.ensures.value c.in_default-write_line.ensures.ok in
    record {
      writes = writes-row c.args.reader.now c.loop-row.reader c.read_next.new.self c.args.progress.now c.loop-row.progress c.count.new.self held now new row value.0 c.loop-row.invariant.writes reads value.1.1 value.1.3 feeds width even line;
      ended = ap (λ (f : ReaderState Row). f.ended) value.1.3 ∙ c.loop-row.invariant.ended;
    }
