use Rattle.std.proofs.Common.{sym, ◌∙◌}
use Rattle.winnow_error_context.specs.declared.str_context.StrContext.TheVariants.{Label}
use Rattle.winnow_error_context.specs.ContextText.{first_label}
use Rattle.winnow_error_context.proofs.lemmas.ContextTextLemmas.{at_drop_item}
use Rattle.winnow_error_context.proofs.context_text.first_label.Goals as goal

pub returns-in-Label : goal.returns-in-Label
returns-in-Label c =
    sym (at_drop_item first_label c.args.contexts.now c.loop-context.context-index _ (Label c.in-Label.label) c.loop-context-test.true c.in-Label.is) ∙ c.loop-context.invariant
