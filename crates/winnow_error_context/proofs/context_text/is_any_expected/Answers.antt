use Rattle.std.proofs.Common.{sym, ap, ◌∙◌}
use Rattle.winnow_error_context.specs.declared.str_context.StrContext.TheVariants.{Expected}
use Rattle.winnow_error_context.specs.ContextText.{expected, is_any}
use Rattle.winnow_error_context.proofs.lemmas.ContextTextLemmas.{at_drop_item}
use Rattle.winnow_error_context.proofs.context_text.is_any_expected.Goals as goal

pub returns-in-Expected : goal.returns-in-Expected
returns-in-Expected c =
    ap is_any (sym (at_drop_item expected c.args.contexts.now c.loop-context.context-index _ (Expected c.in-Expected.field-0) c.loop-context-test.true c.in-Expected.is) ∙ c.loop-context.invariant)
