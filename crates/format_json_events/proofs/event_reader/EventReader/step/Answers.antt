use Rattle.std.proofs.Common.{◌≡◌, Some, [], inl, ap, sym, ◌∙◌, subst, refl}
use Rattle.std.specs.Prelude.{Ok, OnOk}
use Rattle.format_json_events.specs.Turns.{state_of, turn_at}
use Rattle.format_json_events.specs.Reading.{GivesOn, KeepsLimits, IsComing, IsNoNext, StaysAt, Awaits, taken_events}
use Rattle.format_json_events.specs.Lengths.{TakesStep}
use Rattle.format_json.specs.declared.tokens.Token.TheVariants as token
use Rattle.format_json_events.specs.declared.event_reader.Step.TheVariants as step
use Rattle.format_json_events.specs.declared.turns.Turn.TheVariants.{Ends}
use Rattle.format_json_events.proofs.lemmas.EventLemmas.{none-is, coming-ended, taken-depth, reader_of, step-took, step-refused, end-refused, step-ended, step-waits}
use Rattle.format_json_events.proofs.event_reader.EventReader.step.Goals as goal

pub returns-in-Ok-clause-read : goal.returns-in-Ok-clause-read
returns-in-Ok-clause-read c =
    let text = state_of c.self.inside.syntax in
    let old = reader_of c.self.inside.tokens text c.self.inside.stopped in
    let f = c.next_token.new.tokens in
    let going = none-is c.self.inside.stopped (λ x e. c.in_default.not-Some x e) in
    let b = subst (λ r. IsComing (state_of c.make_room.new.self) c.self.inside.tokens r f) (c.in-Ok-Token.is ∙ ap Ok c.in-Ok-Token.field-0-is) c.next_token.ensures in
    subst (λ o. GivesOn o (taken_events c.in-Ok.taken) (reader_of f (state_of c.take.new.self) c.self.inside.stopped)) c.self.view_is
    (step-took old f going (state_of c.make_room.new.self) (state_of c.take.new.self) c.make_room.ensures.same c.in-Ok-Token.token c.in-Ok.taken b c.take.ensures.state (sym c.take.ensures.answer ∙ c.in-Ok.is))

pub returns-in-Err-take-clause-read : goal.returns-in-Err-take-clause-read
returns-in-Err-take-clause-read c =
    let text = state_of c.self.inside.syntax in
    let old = reader_of c.self.inside.tokens text c.self.inside.stopped in
    let f = c.next_token.new.tokens in
    let going = none-is c.self.inside.stopped (λ x e. c.in_default.not-Some x e) in
    let b = subst (λ r. IsComing (state_of c.make_room.new.self) c.self.inside.tokens r f) (c.in-Ok-Token.is ∙ ap Ok c.in-Ok-Token.field-0-is) c.next_token.ensures in
    subst (λ o. GivesOn o [] (reader_of f (state_of c.take.new.self) (Some c.error_at-error.result))) c.self.view_is
    (step-refused old f going (state_of c.make_room.new.self) (state_of c.take.new.self) c.make_room.ensures.same c.in-Ok-Token.token c.in-Err-take.misplaced c.error_at-error.result c.take.ensures.state (sym c.take.ensures.answer ∙ c.in-Err-take.is) b)

pub returns-in-Ok-take_end-clause-read : goal.returns-in-Ok-take_end-clause-read
returns-in-Ok-take_end-clause-read c =
    let text = state_of c.self.inside.syntax in
    let old = reader_of c.self.inside.tokens text c.self.inside.stopped in
    let f = c.next_token.new.tokens in
    let middle = state_of c.make_room.new.self in
    let going = none-is c.self.inside.stopped (λ x e. c.in_default.not-Some x e) in
    let b = subst (λ r. IsComing (state_of c.make_room.new.self) c.self.inside.tokens r f) (c.in-Ok-End.is ∙ ap Ok c.in-Ok-End.field-0-is) c.next_token.ensures in
    let end = subst (λ r. OnOk r (turn_at middle token.End ≡ Ends)) c.in-Ok-take_end.is c.take_end.ensures.ok in
    subst (λ o. GivesOn o [] (reader_of f middle c.self.inside.stopped)) c.self.view_is
    (step-ended old f going middle middle c.make_room.ensures.same refl end b)

pub returns-in-Err-take_end-clause-read : goal.returns-in-Err-take_end-clause-read
returns-in-Err-take_end-clause-read c =
    let text = state_of c.self.inside.syntax in
    let old = reader_of c.self.inside.tokens text c.self.inside.stopped in
    let f = c.next_token.new.tokens in
    let middle = state_of c.make_room.new.self in
    let going = none-is c.self.inside.stopped (λ x e. c.in_default.not-Some x e) in
    let b = subst (λ r. IsComing (state_of c.make_room.new.self) c.self.inside.tokens r f) (c.in-Ok-End.is ∙ ap Ok c.in-Ok-End.field-0-is) c.next_token.ensures in
    subst (λ o. GivesOn o [] (reader_of f middle (Some c.error_at-error-in-Err-take_end.result))) c.self.view_is
    (end-refused old f going middle middle c.make_room.ensures.same c.error_at-error-in-Err-take_end.result refl b)

pub returns-in-Ok-NeedsMore-clause-read : goal.returns-in-Ok-NeedsMore-clause-read
returns-in-Ok-NeedsMore-clause-read c =
    let text = state_of c.self.inside.syntax in
    let old = reader_of c.self.inside.tokens text c.self.inside.stopped in
    let f = c.next_token.new.tokens in
    let middle = state_of c.make_room.new.self in
    let going = none-is c.self.inside.stopped (λ x e. c.in_default.not-Some x e) in
    let b = subst (λ r. IsComing (state_of c.make_room.new.self) c.self.inside.tokens r f) (c.in-Ok-NeedsMore.is ∙ ap Ok c.in-Ok-NeedsMore.field-0-is) c.next_token.ensures in
    subst (λ o. GivesOn o [] (reader_of f middle c.self.inside.stopped)) c.self.view_is
    (step-waits old f going middle middle c.make_room.ensures.same refl b.2)

pub returns-in-Err-next_token-clause-answer : goal.returns-in-Err-next_token-clause-answer
returns-in-Err-next_token-clause-answer c going =
    let text = state_of c.self.inside.syntax in
    let stopped = c.self.inside.stopped in
    let f = c.next_token.new.tokens in
    let middle = state_of c.make_room.new.self in
    let e = c.in-Err-next_token.error in
    let b = subst (λ r. IsComing (state_of c.make_room.new.self) c.self.inside.tokens r f) c.in-Err-next_token.is c.next_token.ensures in
    let none = subst (λ t. IsNoNext t c.self.inside.tokens e) c.make_room.ensures.same b.1 in
    inl (subst (λ o. (reader_of f middle stopped ≡ o) × IsNoNext o.text o.tokens e) c.self.view_is
    (ap (λ g. reader_of g middle stopped) b.0 ∙ ap (λ t. reader_of c.self.inside.tokens t stopped) c.make_room.ensures.same, none))

pub returns-in-Ok-NeedsMore-clause-answer : goal.returns-in-Ok-NeedsMore-clause-answer
returns-in-Ok-NeedsMore-clause-answer c going =
    let stopped = c.self.inside.stopped in
    let f = c.next_token.new.tokens in
    let middle = state_of c.make_room.new.self in
    let b = subst (λ r. IsComing (state_of c.make_room.new.self) c.self.inside.tokens r f) (c.in-Ok-NeedsMore.is ∙ ap Ok c.in-Ok-NeedsMore.field-0-is) c.next_token.ensures in
    let seen = subst (λ o. StaysAt o (reader_of f middle stopped) × Awaits o.tokens) c.self.view_is ((c.make_room.ensures.same, b.0), b.1) in
    (ap (λ o. o.stopped) c.self.view_is ∙ going, seen.0, seen.1)

pub returns-in-Ok-clause-keeps : goal.returns-in-Ok-clause-keeps
returns-in-Ok-clause-keeps c =
    let text = state_of c.self.inside.syntax in
    let f = c.next_token.new.tokens in
    let new = state_of c.take.new.self in
    let deep = taken-depth text (state_of c.make_room.new.self) new c.in-Ok-Token.token c.make_room.ensures.same c.take.ensures.state in
    let ended = coming-ended (state_of c.make_room.new.self) c.self.inside.tokens c.next_token.result f c.next_token.ensures in
    subst (λ o. KeepsLimits o (reader_of f new c.self.inside.stopped)) c.self.view_is (deep, ended)

pub returns-in-Err-take-clause-keeps : goal.returns-in-Err-take-clause-keeps
returns-in-Err-take-clause-keeps c =
    let text = state_of c.self.inside.syntax in
    let f = c.next_token.new.tokens in
    let new = state_of c.take.new.self in
    let deep = taken-depth text (state_of c.make_room.new.self) new c.in-Ok-Token.token c.make_room.ensures.same c.take.ensures.state in
    let ended = coming-ended (state_of c.make_room.new.self) c.self.inside.tokens c.next_token.result f c.next_token.ensures in
    subst (λ o. KeepsLimits o (reader_of f new c.self.inside.stopped)) c.self.view_is (deep, ended)

pub returns-in-Ok-take_end-clause-keeps : goal.returns-in-Ok-take_end-clause-keeps
returns-in-Ok-take_end-clause-keeps c =
    let f = c.next_token.new.tokens in
    let middle = state_of c.make_room.new.self in
    let ended = coming-ended (state_of c.make_room.new.self) c.self.inside.tokens c.next_token.result f c.next_token.ensures in
    subst (λ o. KeepsLimits o (reader_of f middle c.self.inside.stopped)) c.self.view_is (ap (λ s. s.depth) c.make_room.ensures.same, ended)

pub returns-in-Err-take_end-clause-keeps : goal.returns-in-Err-take_end-clause-keeps
returns-in-Err-take_end-clause-keeps c =
    let f = c.next_token.new.tokens in
    let middle = state_of c.make_room.new.self in
    let ended = coming-ended (state_of c.make_room.new.self) c.self.inside.tokens c.next_token.result f c.next_token.ensures in
    subst (λ o. KeepsLimits o (reader_of f middle c.self.inside.stopped)) c.self.view_is (ap (λ s. s.depth) c.make_room.ensures.same, ended)

pub returns-in-Ok-NeedsMore-clause-keeps : goal.returns-in-Ok-NeedsMore-clause-keeps
returns-in-Ok-NeedsMore-clause-keeps c =
    let f = c.next_token.new.tokens in
    let middle = state_of c.make_room.new.self in
    let ended = coming-ended (state_of c.make_room.new.self) c.self.inside.tokens c.next_token.result f c.next_token.ensures in
    subst (λ o. KeepsLimits o (reader_of f middle c.self.inside.stopped)) c.self.view_is (ap (λ s. s.depth) c.make_room.ensures.same, ended)

pub returns-in-Err-next_token-clause-keeps : goal.returns-in-Err-next_token-clause-keeps
returns-in-Err-next_token-clause-keeps c =
    let f = c.next_token.new.tokens in
    let middle = state_of c.make_room.new.self in
    let ended = coming-ended (state_of c.make_room.new.self) c.self.inside.tokens c.next_token.result f c.next_token.ensures in
    subst (λ o. KeepsLimits o (reader_of f middle c.self.inside.stopped)) c.self.view_is (ap (λ s. s.depth) c.make_room.ensures.same, ended)

pub returns-in-Ok-clause-takes : goal.returns-in-Ok-clause-takes
returns-in-Ok-clause-takes c =
    let f = c.next_token.new.tokens in
    let b = subst (λ r. IsComing (state_of c.make_room.new.self) c.self.inside.tokens r f) (c.in-Ok-Token.is ∙ ap Ok c.in-Ok-Token.field-0-is) c.next_token.ensures in
    subst (λ o. TakesStep o.tokens (Ok (step.Took c.in-Ok.taken)) f) c.self.view_is (c.in-Ok-Token.token, b)

pub returns-in-Ok-take_end-clause-takes : goal.returns-in-Ok-take_end-clause-takes
returns-in-Ok-take_end-clause-takes c =
    let f = c.next_token.new.tokens in
    let b = subst (λ r. IsComing (state_of c.make_room.new.self) c.self.inside.tokens r f) (c.in-Ok-End.is ∙ ap Ok c.in-Ok-End.field-0-is) c.next_token.ensures in
    subst (λ o. TakesStep o.tokens (Ok step.Done) f) c.self.view_is b

pub returns-in-Ok-NeedsMore-clause-takes : goal.returns-in-Ok-NeedsMore-clause-takes
returns-in-Ok-NeedsMore-clause-takes c =
    let f = c.next_token.new.tokens in
    let b = subst (λ r. IsComing (state_of c.make_room.new.self) c.self.inside.tokens r f) (c.in-Ok-NeedsMore.is ∙ ap Ok c.in-Ok-NeedsMore.field-0-is) c.next_token.ensures in
    subst (λ o. TakesStep o.tokens (Ok step.NeedsMore) f) c.self.view_is (b.0, b.1)
