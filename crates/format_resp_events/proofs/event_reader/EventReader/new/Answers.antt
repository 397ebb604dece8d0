use Rattle.std.proofs.Common.{ap}
use Rattle.winnow_reader.specs.State.{ReaderState}
use Rattle.format_resp.specs.declared.grammar.ReplyTo.{ReplyTo}
use Rattle.format_resp_events.proofs.lemmas.TurnLemmas.{gives-none}
use Rattle.format_resp_events.proofs.event_reader.EventReader.new.Goals as goal

pub returns-clause-read : goal.returns-clause-read
returns-clause-read c =
    gives-none _ (ap (λ (f : ReaderState ReplyTo). f.ahead) c.new.ensures.state) (ap (λ (f : ReaderState ReplyTo). f.place) c.new.ensures.state) c.new-2.ensures
