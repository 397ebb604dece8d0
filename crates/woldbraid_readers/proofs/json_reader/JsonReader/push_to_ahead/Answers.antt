use Rattle.std.proofs.Common.{◌≡◌, ℕ, List, [], ◌++◌, ap, sym, subst}
use Rattle.std.proofs.lemmas.List.{append-nil}
use Rattle.format_json_events.specs.Reading.{HasGiven, events_unspent}
use Rattle.format_json_events.specs.declared.event_reader.Event.{Event}
use Rattle.woldbraid_readers.proofs.lemmas.PushLemmas.{unspent_has}
use Rattle.woldbraid_readers.proofs.json_reader.JsonReader.push_to_ahead.Goals as goal

pub returns-then-is_err : goal.returns-then-is_err
returns-then-is_err c =
    let old = c.args.self.now.reader in
    let new = c.forget.new.self.reader in
    let dropped : new ≡ events_unspent old = c.forget.ensures.dropped in
    let given : (input : List ℕ) (before : List Event) → HasGiven old input before → HasGiven new input (before ++ []) =
    λ input before h.
    subst (λ r. HasGiven r input (before ++ [])) (sym dropped)
    (subst (λ l. HasGiven (events_unspent old) input l) (sym (append-nil before)) (unspent_has old input before h)) in
    ((c.forget.ensures.rest, given, ap events_unspent dropped), c.requires.goes_on)
