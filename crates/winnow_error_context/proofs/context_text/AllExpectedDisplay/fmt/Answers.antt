use Rattle.std.proofs.Common.{◌++◌, take, refl, ap, sym, ◌∙◌, append-nil}
use Rattle.std.proofs.Output.{has_written_append, has_written_of_eq}
use Rattle.winnow_error_context.specs.declared.str_context.StrContext.TheVariants.{Label, Expected}
use Rattle.winnow_error_context.specs.ContextText.{expected, value_text, values_text}
use Rattle.winnow_error_context.proofs.lemmas.ContextTextLemmas.{lead_behind, expected-take, values_text-push, lead_behind-push, comma-utf8}
use Rattle.winnow_error_context.proofs.context_text.AllExpectedDisplay.fmt.Goals.{in-Expected+in_ok-write, in_default}
use Rattle.winnow_error_context.proofs.context_text.AllExpectedDisplay.fmt.Goals as goal

pub loop-context-preserved : goal.loop-context-preserved
loop-context-preserved g c = elim c.match-context.branch [
  | in-Expected+in_ok-write w ↦
      (let v = w.in-Expected.value in
      let vs = expected (take c.loop-context.context-index c.args.self.now.0.now) in
      let seen = expected-take c.args.self.now.0.now c.loop-context.context-index _ (Expected v) c.loop-context-test.true w.in-Expected.is in
      record {
        lead = ap (λ t. t.now) w.lead-is ∙ sym (ap lead_behind seen ∙ lead_behind-push vs v);
        written = λ p. rw w.f-is (has_written_of_eq _ _ _ _ _ (ap (λ l. values_text vs ++ (l ++ value_text v)) c.loop-context.invariant.lead ∙ sym (ap values_text seen ∙ values_text-push vs v)) (has_written_append _ _ _ _ _ _ (c.loop-context.invariant.written p) (w.in_ok-write.ensures.writes (c.loop-context.invariant.written p).plain refl)));
        text = comma-utf8 c.match-context.lead.now (ap (λ t. t.now) w.lead-is);
      })
  | in_default w ↦
      (let seen = expected-take c.args.self.now.0.now c.loop-context.context-index _ (Label w.in_default.field-0) c.loop-context-test.true w.in_default.is ∙ append-nil _ in
      record {
        lead = ap (λ t. t.now) w.lead-is ∙ c.loop-context.invariant.lead ∙ sym (ap lead_behind seen);
        written = λ p. rw w.f-is (has_written_of_eq _ _ _ _ _ (sym (ap values_text seen)) (c.loop-context.invariant.written p));
        text = rw w.lead-is c.loop-context.invariant.text;
      })
]
