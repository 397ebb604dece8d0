use Rattle.std.proofs.Common.{drop}
use Rattle.format_json_events.proofs.lemmas.StopLemmas.{offset-once, tells-offset, value-unstopped}
use Rattle.format_json_events.proofs.lemmas.BrokenTurnLemmas.{text-broken}
use Rattle.format_json_events.proofs.lemmas.PlacedErrorLemmas.{error-tells}
use Rattle.format_json_events.proofs.laws.stops_law.Goals as goal

pub returns-clause-once : goal.returns-clause-once
returns-clause-once c depth text place other h g = offset-once depth text place other h g

pub returns-clause-none : goal.returns-clause-none
returns-clause-none c depth text value place is stops = value-unstopped depth text value place is stops

pub returns-clause-document : goal.returns-clause-document
returns-clause-document c depth text damage (within, never, breaks) =
    (within, text-broken depth text (drop damage.offset text) breaks)

pub returns-clause-reader : goal.returns-clause-reader
returns-clause-reader c r new input more events e given may next = error-tells r new input events more e given may next

pub returns-clause-same : goal.returns-clause-same
returns-clause-same c depth text damage e (within, never, breaks) told =
    tells-offset depth text damage.offset e (within, text-broken depth text (drop damage.offset text) breaks) told
