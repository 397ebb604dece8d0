use Rattle.std.proofs.Common.{subst}
use Rattle.format_resp_events.specs.OpenArrays.{lacks_of}
use Rattle.format_resp_events.specs.Reading.{GivesAlso}
use Rattle.format_resp_events.proofs.lemmas.TurnLemmas.{state_at, reader_at, gives-pushed}
use Rattle.format_resp_events.proofs.event_reader.EventReader.push.Goals as goal

pub returns-clause-read : goal.returns-clause-read
returns-clause-read c =
    let lacks = lacks_of c.self.inside.open in
    let old = state_at c.self.inside.replies lacks c.self.inside.depth in
    subst (λ o. GivesAlso o c.args.piece.now (reader_at old c.push.new.self lacks)) c.self.view_is
    (gives-pushed old c.push.new.self c.args.piece.now c.in_ok-push.ensures.ok)
