use Rattle.std.proofs.Common.{subst, sym}
use Rattle.winnow_reader.specs.Reading.{ReadsOn}
use Rattle.winnow_reader.specs.Answering.{ReadsNext, WaitsByNeed, IsDoneAtEnd, StaysTillWanted}
use Rattle.winnow_reader.specs.Asked.{answer_of}
use Rattle.winnow_reader.specs.Telling.{TellsError}
use Rattle.winnow_reader.proofs.lemmas.TellingLemmas.{TellsError-settled}
use Rattle.winnow_reader.proofs.lemmas.AskedLemmas.{IsWithin-asked, ReadsOn-settled, ReadsNext-settled, IsDoneAtEnd-settled, StaysTillWanted-settled}
use Rattle.winnow_reader.proofs.byte_reader.ByteReader.read_next.Goals as goal

pub settle-requires : goal.settle-requires
settle-requires g c = IsWithin-asked g.R.Record.means c.args.self.now c.ask-asked.result c.ask-asked.ensures.answer

pub returns-clause-read : goal.returns-clause-read
returns-clause-read g c =
    let means = g.R.Record.means in
    let old = c.args.self.now in
    let asked = c.ask-asked.result in
    subst (λ r. ReadsOn means old r c.settle.new.self) (sym c.settle.ensures.answer)
    (subst (λ s. ReadsOn means old (answer_of old.place asked) s) (sym c.settle.ensures.state)
    (ReadsOn-settled means old (g.met.R.Record.lawful old.parser) asked c.ask-asked.ensures.answer))

pub returns-clause-next : goal.returns-clause-next
returns-clause-next g c =
    let means = g.R.Record.means in
    let old = c.args.self.now in
    let asked = c.ask-asked.result in
    subst (λ r. ReadsNext means (WaitsByNeed means) old r c.settle.new.self) (sym c.settle.ensures.answer)
    (subst (λ s. ReadsNext means (WaitsByNeed means) old (answer_of old.place asked) s) (sym c.settle.ensures.state)
    (ReadsNext-settled means old (g.met.R.Record.lawful old.parser) asked c.ask-asked.ensures.answer))

pub returns-clause-done : goal.returns-clause-done
returns-clause-done g c =
    let old = c.args.self.now in
    subst (λ r. IsDoneAtEnd old r) (sym c.settle.ensures.answer) (IsDoneAtEnd-settled g.R.Record.means old c.ask-asked.result c.ask-asked.ensures.answer)

pub returns-clause-early : goal.returns-clause-early
returns-clause-early g c =
    let old = c.args.self.now in
    let asked = c.ask-asked.result in
    subst (λ r. StaysTillWanted old r c.settle.new.self) (sym c.settle.ensures.answer)
    (subst (λ s. StaysTillWanted old (answer_of old.place asked) s) (sym c.settle.ensures.state) (StaysTillWanted-settled g.R.Record.means old asked c.ask-asked.ensures.answer))

pub returns-clause-error : goal.returns-clause-error
returns-clause-error g c =
    let old = c.args.self.now in
    subst (λ r. TellsError g.R.Record.errors old r) (sym c.settle.ensures.answer) (TellsError-settled g.R.Record.errors old c.ask-asked.result c.ask-asked.ensures.error)
