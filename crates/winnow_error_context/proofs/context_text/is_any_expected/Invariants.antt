use Rattle.std.proofs.Common.{◌≡◌, drop}
use Rattle.winnow_error_context.specs.ContextText.{expected}
use Rattle.winnow_error_context.proofs.context_text.is_any_expected.Given as goal

-- no expected value has been found so far
abbrev pub invariant-loop-context : goal.invariant-loop-context
invariant-loop-context l = expected (drop l.context-index l.contexts) ≡ expected l.contexts
