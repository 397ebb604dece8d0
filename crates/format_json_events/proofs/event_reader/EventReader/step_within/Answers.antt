use Rattle.std.proofs.Common.{◌≤◌, length, OnOk, sym, ap, ◌∙◌, subst}
use Rattle.std.specs.Prelude.{Ok}
use Rattle.format_json.specs.Language.{after_blanks}
use Rattle.format_json_events.specs.Reading.{EventState}
use Rattle.format_json_events.specs.Lengths.{KeepsShort, TakesStep}
use Rattle.format_json_events.proofs.lemmas.LengthLemmas.{short-took, short-end, short-waits}
use Rattle.format_json_events.proofs.event_reader.EventReader.step_within.Goals.{in-Ok-Took+else-limit-saturating_sub, in-Ok-Done, in-Ok-NeedsMore+else-limit-whole, in-Err}
use Rattle.format_json_events.proofs.event_reader.EventReader.step_within.Goals as goal

pub returns-clause-short : goal.returns-clause-short
returns-clause-short c =
    let old = c.args.self.now in
    let new = c.step.new.self in
    let limit = c.args.limit in
    elim c.match-step.branch [
      | in-Ok-Took+else-limit-saturating_sub w ↦
          let is = w.in-Ok-Took.is ∙ ap Ok w.in-Ok-Took.field-0-is in
          let takes = subst (λ r. TakesStep old.tokens r new.tokens) is c.step.ensures.takes in
          let fits = subst (λ n. n ≤ limit) w.saturating_sub.ensures w.if-limit-saturating_sub.false in
          let whole = c.ahead_count-whole.ensures ∙ ap (λ (o : EventState). length (after_blanks o.tokens.ahead)) c.self.view_is in
          let left = ap length w.ahead.ensures ∙ ap (λ (o : EventState). length o.tokens.ahead) c.self-2.view_is in
          subst (λ r. OnOk r (KeepsShort limit old new)) (sym w.result-is)
          (λ input h. short-took limit c.ahead_count-whole.result (length w.ahead.result.now) old.tokens new.tokens whole left fits takes input h)
      | in-Ok-Done w ↦
          let is = w.in-Ok-Done.is ∙ ap Ok w.in-Ok-Done.field-0-is in
          let takes = subst (λ r. TakesStep old.tokens r new.tokens) is c.step.ensures.takes in
          subst (λ r. OnOk r (KeepsShort limit old new)) (sym w.result-is)
          (λ input h. short-end limit old.tokens new.tokens input h takes)
      | in-Ok-NeedsMore+else-limit-whole w ↦
          let is = w.in-Ok-NeedsMore.is ∙ ap Ok w.in-Ok-NeedsMore.field-0-is in
          let takes = subst (λ r. TakesStep old.tokens r new.tokens) is c.step.ensures.takes in
          subst (λ r. OnOk r (KeepsShort limit old new)) (sym w.result-is)
          (λ input h. short-waits limit old.tokens new.tokens input takes.0 h)
      | in-Err w ↦ subst (λ r. OnOk r (KeepsShort limit old new)) (sym w.result-is) tt
    ]
