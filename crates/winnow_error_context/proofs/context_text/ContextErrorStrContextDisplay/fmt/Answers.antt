use Rattle.std.proofs.Common.{◌≡◌, ◌||◌, Some, ap, sym, subst, ◌∙◌}
use Rattle.std.specs.Fmt.{DisplaysOnOk, DisplaysStyledOnOk}
use Rattle.winnow_error_context.specs.ContextText.{first_label, expected, is_any, values_text, explanation_text}
use Rattle.winnow_error_context.proofs.lemmas.ContextLineLemmas.{printed-explanation}
use Rattle.winnow_error_context.proofs.context_text.ContextErrorStrContextDisplay.fmt.Goals.{then-is_labelled, else-is_labelled}
use Rattle.winnow_error_context.proofs.context_text.ContextErrorStrContextDisplay.fmt.Given
use Rattle.winnow_error_context.proofs.context_text.ContextErrorStrContextDisplay.fmt.Goals as goal

-- the explanation is written, under no options and under any
written : (g : Given.Over) (c : goal.After-write_bare g)
    → DisplaysOnOk g.W.Write.write_str_gives c.args.f.now c.write_bare.result
    (Some (explanation_text c.args.self.now)) c.write_bare.new.f
    × DisplaysStyledOnOk g.W.Write.write_str_gives c.args.f.now c.write_bare.result
    (Some (explanation_text c.args.self.now)) c.write_bare.new.f
written g c =
    let self = c.args.self.now in
    let cs = c.as_slice-contexts.ensures ∙ c.context.ensures.left in
    let later : c.if-is_labelled.cause ≡ (c.is_some-is_labelled.result || c.is_any_expected-is_expected.result) = elim c.if-is_labelled.branch [
      | then-is_labelled w ↦ w.cause-is ∙ w.if-is_labelled.true ∙ sym (ap (λ b. b || c.is_any_expected-is_expected.result) w.if-is_labelled.true)
      | else-is_labelled w ↦ w.cause-is ∙ ap (λ b. b || c.is_any_expected-is_expected.result) (sym w.if-is_labelled.false)
    ] in
    let e = printed-explanation (λ a. values_text (expected a.0.now)) (record { 0 = c.as_slice-contexts.result }) c.first_label-label.result c.cause.result c.then_some.result c.is_some-is_labelled.result c.is_any_expected-is_expected.result c.if-is_labelled.cause (first_label self.contexts) self.cause (expected self.contexts) (c.first_label-label.ensures ∙ ap first_label cs) c.is_some-is_labelled.ensures (c.is_any_expected-is_expected.ensures ∙ ap (λ xs. is_any (expected xs)) cs) c.then_some.ensures (ap (λ xs. values_text (expected xs)) cs) later c.cause.ensures in (
      subst (λ o. DisplaysOnOk g.W.Write.write_str_gives c.args.f.now c.write_bare.result o c.write_bare.new.f) e c.write_bare.ensures.writes,
      subst (λ o. DisplaysStyledOnOk g.W.Write.write_str_gives c.args.f.now c.write_bare.result o c.write_bare.new.f) e c.write_bare.ensures.styled,
    )

pub returns-clause-writes : goal.returns-clause-writes
returns-clause-writes g c = (written g c).0

pub returns-clause-styled : goal.returns-clause-styled
returns-clause-styled g c = (written g c).1
