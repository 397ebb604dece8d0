use Rattle.std.proofs.Common.{◌≡◌, ◌-◌, true, false, take, drop, refl, ap, sym, ◌∙◌, subst, arith, length}
use Rattle.winnow_reader.specs.State.{ReaderState, fed_of}
use Rattle.format_csv.specs.declared.grammar.Row.{Row}
use Rattle.csv.specs.Records.{fields_of}
use Rattle.wb_csv.specs.Copying.{IsDamageAfter}
use Rattle.wb_csv.proofs.lemmas.ReadLemmas.{begun-now, row-fits, reads-same, reads-row, reads-none}
use Rattle.wb_csv.proofs.lemmas.DamageLemmas.{damage-some, damage-within, begun-fits, line-fits, stops-damaged, stops-uneven, stops-long}
use Rattle.wb_csv.proofs.lemmas.LimitLemmas.{over-unfinished, over-value}
use Rattle.wb_csv.proofs.lemmas.CopiedLemmas.{any-ok, if-err}
use Rattle.wb_csv.proofs.reading.read_records.Goals as goal

pub loop-reader-init : goal.loop-reader-init
loop-reader-init c = record {
  reads = reads-none c.args.settings.now c.args.reader.now c.args.progress.now c.args.text.now.items c.requires.empty;
  ended = refl;
}

pub count-requires : goal.count-requires
count-requires c =
    let s = c.args.settings.now in
    let l = c.loop-reader in
    let begun = begun-now s c.args.reader.now l.reader c.args.progress.now l.progress l.text.items c.requires.begun l.invariant.reads in
    row-fits s l.reader c.read_into.new.self l.progress (fields_of c.read_into.new.row) begun (rw c.in-Ok-Value.field-0-is at c.in-Ok-Value.ensures.read)

pub within-requires : goal.within-requires
within-requires c = λ over.
    let s = c.args.settings.now in
    let l = c.loop-reader in
    let begun = begun-now s c.args.reader.now l.reader c.args.progress.now l.progress l.text.items c.requires.begun l.invariant.reads in
    omega (arith, row-fits s l.reader c.read_into.new.self l.progress (fields_of c.read_into.new.row) begun (rw c.in-Ok-Value.field-0-is at c.in-Ok-Value.ensures.read))

pub within-requires-in-Ok-NeedsMore : goal.within-requires-in-Ok-NeedsMore
within-requires-in-Ok-NeedsMore c = λ over.
    let s = c.args.settings.now in
    let l = c.loop-reader in
    let next = rw c.in-Ok-NeedsMore.field-0-is at c.in-Ok-NeedsMore.ensures.next in
    let begun = begun-now s c.args.reader.now l.reader c.args.progress.now l.progress l.text.items c.requires.begun l.invariant.reads in
    line-fits s l.reader l.progress (length c.ahead.result.now) begun (omega (arith, ap length c.ahead.ensures, ap (λ (f : ReaderState Row). length f.ahead) next.2)) over

pub returns-in-Ok-NeedsMore-clause-failed : goal.returns-in-Ok-NeedsMore-clause-failed
returns-in-Ok-NeedsMore-clause-failed c =
    let s = c.args.settings.now in
    let l = c.loop-reader in
    let next = rw c.in-Ok-NeedsMore.field-0-is at c.in-Ok-NeedsMore.ensures.next in
    if-err c.within-in-Ok-NeedsMore.result
    (λ failure too. stops-long s c.args.reader.now l.reader c.args.progress.now l.progress l.text.items failure l.invariant.reads l.invariant.ended
    (λ follow may. over-unfinished s.limit l.reader.ended l.reader.ahead follow next.0 (omega (arith, too.0, ap length c.ahead.ensures, ap (λ (f : ReaderState Row). length f.ahead) next.2))) too.1)
    c.within-in-Ok-NeedsMore.ensures.long

pub returns-in-Ok-NeedsMore-clause-ok : goal.returns-in-Ok-NeedsMore-clause-ok
returns-in-Ok-NeedsMore-clause-ok c =
    let l = c.loop-reader in
    let next = rw c.in-Ok-NeedsMore.field-0-is at c.in-Ok-NeedsMore.ensures.next in
    any-ok c.within-in-Ok-NeedsMore.result (reads-same c.args.settings.now c.args.reader.now l.reader c.read_into.new.self c.args.progress.now l.progress l.text.items next.2 l.invariant.reads)

pub returns-in-Ok-NeedsMore-clause-through : goal.returns-in-Ok-NeedsMore-clause-through
returns-in-Ok-NeedsMore-clause-through c =
    let l = c.loop-reader in
    let next = rw c.in-Ok-NeedsMore.field-0-is at c.in-Ok-NeedsMore.ensures.next in
    any-ok c.within-in-Ok-NeedsMore.result (λ h. let f : true ≡ false = sym h ∙ sym l.invariant.ended ∙ next.0.0 in cc)

pub returns-in-Ok-NeedsMore-clause-ended : goal.returns-in-Ok-NeedsMore-clause-ended
returns-in-Ok-NeedsMore-clause-ended c =
    let l = c.loop-reader in
    let next = rw c.in-Ok-NeedsMore.field-0-is at c.in-Ok-NeedsMore.ensures.next in
    any-ok c.within-in-Ok-NeedsMore.result (ap (λ (f : ReaderState Row). f.ended) next.2 ∙ l.invariant.ended)

pub returns-in-Ok-Done-clause-ok : goal.returns-in-Ok-Done-clause-ok
returns-in-Ok-Done-clause-ok c =
    let l = c.loop-reader in
    let next = rw c.in-Ok-Done.field-0-is at c.in-Ok-Done.ensures.next in
    reads-same c.args.settings.now c.args.reader.now l.reader c.read_into.new.self c.args.progress.now l.progress l.text.items next.2 l.invariant.reads

pub returns-in-Ok-Done-clause-through : goal.returns-in-Ok-Done-clause-through
returns-in-Ok-Done-clause-through c = λ h.
    let next = rw c.in-Ok-Done.field-0-is at c.in-Ok-Done.ensures.next in
    ap (λ (f : ReaderState Row). f.ahead) next.2 ∙ next.0.1

pub returns-in-Ok-Done-clause-ended : goal.returns-in-Ok-Done-clause-ended
returns-in-Ok-Done-clause-ended c =
    let l = c.loop-reader in
    let next = rw c.in-Ok-Done.field-0-is at c.in-Ok-Done.ensures.next in
    ap (λ (f : ReaderState Row). f.ended) next.2 ∙ l.invariant.ended

pub damage-requires-clause-from : goal.damage-requires-clause-from
damage-requires-clause-from c =
    let old = c.loop-reader.reader in
    let place = c.in-Err-Damaged.place in
    let next = rw c.in-Err-Damaged.field-0-is at c.in-Err-Damaged.ensures.next in
    omega (arith, (damage-within old place next.0).0, ap (λ (f : ReaderState Row). f.place) next.2)

pub damage-requires-clause-to : goal.damage-requires-clause-to
damage-requires-clause-to c =
    let old = c.loop-reader.reader in
    let place = c.in-Err-Damaged.place in
    let next = rw c.in-Err-Damaged.field-0-is at c.in-Err-Damaged.ensures.next in
    omega (arith, (damage-within old place next.0).1, ap (λ (f : ReaderState Row). fed_of f) next.2)

pub damage-requires-clause-counted : goal.damage-requires-clause-counted
damage-requires-clause-counted c =
    let s = c.args.settings.now in
    let l = c.loop-reader in
    let place = c.in-Err-Damaged.place in
    let next = rw c.in-Err-Damaged.field-0-is at c.in-Err-Damaged.ensures.next in
    let begun = begun-now s c.args.reader.now l.reader c.args.progress.now l.progress l.text.items c.requires.begun l.invariant.reads in
    omega (arith, begun-fits s l.reader l.progress begun (damage-some l.reader place next.0), ap (λ (f : ReaderState Row). length f.ahead) next.2)

pub returns-in-Err-Damaged-clause-failed : goal.returns-in-Err-Damaged-clause-failed
returns-in-Err-Damaged-clause-failed c =
    let l = c.loop-reader in
    let place = c.in-Err-Damaged.place in
    let failure = c.damage.result in
    let next = rw c.in-Err-Damaged.field-0-is at c.in-Err-Damaged.ensures.next in
    let is = subst (λ (f : ReaderState Row). IsDamageAfter c.args.settings.now l.progress.feeds (take (place - f.place) f.ahead) (drop (place - f.place) f.ahead) failure) next.2 c.damage.ensures in
    stops-damaged c.args.settings.now c.args.reader.now l.reader c.args.progress.now l.progress l.text.items place failure l.invariant.reads l.invariant.ended next.0 is

pub returns-in-Err-clause-failed : goal.returns-in-Err-clause-failed
returns-in-Err-clause-failed c =
    let s = c.args.settings.now in
    let l = c.loop-reader in
    let next = rw c.in-Ok-Value.field-0-is at c.in-Ok-Value.ensures.next in
    let too = c.in-Err.ensures.long in
    stops-long s c.args.reader.now l.reader c.args.progress.now l.progress l.text.items c.in-Err.failure l.invariant.reads l.invariant.ended
    (λ follow may. over-value s.limit l.reader c.read_into.new.self (fields_of c.read_into.new.row) next.0 follow next.1.1 next.1.2 next.1.3
    (omega (arith, too.0, c.saturating_sub-length.ensures, c.place.ensures, c.place-place.ensures, ap (λ (f : ReaderState Row). f.place) next.1.3)) may)
    too.1

pub returns-in-Err-count-clause-failed : goal.returns-in-Err-count-clause-failed
returns-in-Err-count-clause-failed c =
    let l = c.loop-reader in
    let reads = rw c.in-Ok-Value.field-0-is at c.in-Ok-Value.ensures.read in
    let next = rw c.in-Ok-Value.field-0-is at c.in-Ok-Value.ensures.next in
    stops-uneven c.args.settings.now c.args.reader.now l.reader c.read_into.new.self c.args.progress.now l.progress l.text.items (fields_of c.read_into.new.row) c.in-Err-count.failure
    l.invariant.reads (ap (λ (f : ReaderState Row). f.ended) next.1.3 ∙ l.invariant.ended) reads c.in-Err-count.ensures.other

pub loop-reader-preserved : goal.loop-reader-preserved
loop-reader-preserved c =
    let l = c.loop-reader in
    let reads = rw c.in-Ok-Value.field-0-is at c.in-Ok-Value.ensures.read in
    let next = rw c.in-Ok-Value.field-0-is at c.in-Ok-Value.ensures.next in
    record {
      reads = reads-row c.args.settings.now c.args.reader.now l.reader c.read_into.new.self c.args.progress.now l.progress c.count.new.self l.text.items c.append_line.new.text.items (fields_of c.read_into.new.row) next.0
          l.invariant.reads reads next.1
          (omega (arith, c.in_default.ensures.within, c.saturating_sub-length.ensures, c.place.ensures, c.place-place.ensures, ap (λ (f : ReaderState Row). f.place) next.1.3))
          c.in_default-count.ensures.feeds c.in_default-count.ensures.width c.in_default-count.ensures.fits c.in_default-append_line.ensures;
      ended = ap (λ (f : ReaderState Row). f.ended) next.1.3 ∙ l.invariant.ended;
    }
