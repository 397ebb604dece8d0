use Rattle.std.proofs.Common.{◌≡◌, ◌+◌, refl, ap, ◌∙◌, subst}
use Rattle.csv.specs.Records.{fields_of}
use Rattle.winnow_reader.specs.State.{ReaderState, taken_by}
use Rattle.format_csv.specs.declared.grammar.Row.{Row}
use Rattle.format_csv.specs.Filling.{Fills}
use Rattle.format_csv.specs.declared.filling.Found.TheVariants.{Record, NeedsMore, Damaged}
use Rattle.format_csv.proofs.lemmas.RowReaderLemmas.{takes-record, finds-damage}
use Rattle.format_csv.proofs.row_reader.RowReader.read_next.Goals as goal

pub returns-then-goes_on : goal.returns-then-goes_on
returns-then-goes_on c =
    (c.if-goes_on.ensures.scans refl, c.clear.ensures.fields, c.goes_on.ensures.same)

pub returns-in-Ok-Record : goal.returns-in-Ok-Record
returns-in-Ok-Record c =
    let n = c.in-Ok-Record.length in
    let fields = fields_of c.find.new.row in
    let fills = rw c.in-Ok-Record.field-0-is at c.in-Ok-Record.ensures.found in
    takes-record c.args.self.now c.take.new.self fields n
    (subst (λ (f : ReaderState Row). Fills f.ended f.ahead (Record n) fields) c.goes_on.ensures.same fills)
    (c.take.ensures ∙ ap (λ f. taken_by f n) (c.find.ensures.same ∙ c.goes_on.ensures.same))

pub returns-in-Ok-NeedsMore : goal.returns-in-Ok-NeedsMore
returns-in-Ok-NeedsMore c =
    let fields = fields_of c.find.new.row in
    let fills = rw c.in-Ok-NeedsMore.field-0-is at c.in-Ok-NeedsMore.ensures.found in (
      subst (λ (f : ReaderState Row). Fills f.ended f.ahead NeedsMore fields) c.goes_on.ensures.same fills,
      c.clear-in-Ok-NeedsMore.ensures.fields,
      c.find.ensures.same ∙ c.goes_on.ensures.same,
    )

pub returns-in-Ok-Damaged : goal.returns-in-Ok-Damaged
returns-in-Ok-Damaged c =
    let n = c.in-Ok-Damaged.offset in
    let fields = fields_of c.find.new.row in
    let fills = rw c.in-Ok-Damaged.field-0-is at c.in-Ok-Damaged.ensures.found in
    let same = c.find.ensures.same ∙ c.goes_on.ensures.same in (
      finds-damage c.args.self.now fields n c.place_of-place.result
          (subst (λ (f : ReaderState Row). Fills f.ended f.ahead (Damaged n) fields) c.goes_on.ensures.same fills)
          (subst (λ (f : ReaderState Row). c.place_of-place.result ≡ f.place + n) same c.place_of-place.ensures),
      c.clear-in-Ok-Damaged.ensures.fields,
      same,
    )
