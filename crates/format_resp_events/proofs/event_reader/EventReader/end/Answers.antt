use Rattle.std.proofs.Common.{[], refl, ap, subst}
use Rattle.winnow_reader.specs.State.{ReaderState}
use Rattle.format_resp.specs.declared.grammar.ReplyTo.{ReplyTo}
use Rattle.format_resp_events.specs.OpenArrays.{lacks_of}
use Rattle.format_resp_events.specs.Reading.{GivesOn}
use Rattle.format_resp_events.proofs.lemmas.TurnLemmas.{state_at, reader_at, gives-same}
use Rattle.format_resp_events.proofs.event_reader.EventReader.end.Goals as goal

pub returns-clause-read : goal.returns-clause-read
returns-clause-read c =
    let lacks = lacks_of c.self.inside.open in
    let old = state_at c.self.inside.replies lacks c.self.inside.depth in
    let e = c.end.ensures.state in
    subst (λ o. GivesOn o [] (reader_at old c.end.new.self lacks)) c.self.view_is
    (gives-same old c.end.new.self lacks (ap (λ (f : ReaderState ReplyTo). f.ahead) e) (ap (λ (f : ReaderState ReplyTo). f.place) e)
    (ap (λ (f : ReaderState ReplyTo). f.parser) e) refl)
