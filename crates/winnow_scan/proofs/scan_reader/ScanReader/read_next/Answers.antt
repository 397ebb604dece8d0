use Rattle.std.proofs.Common.{◌≡◌, [], refl, ◌∙◌, sym, subst, inr, arith}
use Rattle.winnow_reader.specs.State.{ReaderState, waiting_for}
use Rattle.winnow_reader.specs.Reading.{HasRead}
use Rattle.winnow_reader.specs.Answering.{ReadsNext}
use Rattle.winnow_reader.specs.Telling.{TellsError}
use Rattle.winnow_scan.specs.Waiting.{WaitsByScan}
use Rattle.winnow_scan.proofs.lemmas.WaitLemmas.{parser-asked, ReadsNext-asked}
use Rattle.winnow_scan.proofs.scan_reader.ScanReader.read_next.Goals as goal

pub returns-then-goes_on-clause-next : goal.returns-then-goes_on-clause-next
returns-then-goes_on-clause-next g c =
    let scans = c.if-goes_on.ensures.scans refl in
    let same = c.goes_on.ensures.same in
    let kept = subst (λ (f : ReaderState _). f ≡ waiting_for c.args.self.now f.wanted) (sym same) refl in
    (c.if-goes_on.ensures.goes refl, λ input values h. inr scans, λ l. inr (scans, same), kept)

pub invariant_of-self : goal.invariant_of-self
invariant_of-self g c =
    let r = c.self.inside in
    let new = c.read_next-answer.new.self in
    let same = parser-asked g.R.Record.means g.R.Scan.scanned r.reader new c.read_next-answer.result c.read_next-answer.ensures.next in
    (omega arith, subst (λ p. g.R.Scan.scanned p [] c.start.result) (c.parser.ensures ∙ sym same) c.start.ensures)

pub returns-clause-read : goal.returns-clause-read
returns-clause-read g c = λ input values h.
    let back = c.self.view_is ∙ c.goes_on.ensures.same in
    c.read_next-answer.ensures.read input values (subst (λ f. HasRead g.R.Record.means f input values) (sym back) h)

pub returns-clause-next : goal.returns-clause-next
returns-clause-next g c =
    let r = c.self.inside in
    let means = g.R.Record.means in
    let new = c.read_next-answer.new.self in
    let result = c.read_next-answer.result in
    let back = c.self.view_is ∙ c.goes_on.ensures.same in
    subst (λ f. ReadsNext means (WaitsByScan means g.R.Scan.scanned) f result new) back
    (ReadsNext-asked means g.R.Scan.scanned r.reader new result c.read_next-answer.ensures.next)

pub returns-clause-error : goal.returns-clause-error
returns-clause-error g c =
    let back = c.self.view_is ∙ c.goes_on.ensures.same in
    subst (λ f. TellsError g.R.Record.errors f c.read_next-answer.result) back c.read_next-answer.ensures.error
