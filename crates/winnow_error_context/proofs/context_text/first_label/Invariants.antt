use Rattle.std.proofs.Common.{◌≡◌, drop}
use Rattle.winnow_error_context.specs.ContextText.{first_label}
use Rattle.winnow_error_context.proofs.context_text.first_label.Given as goal

-- no label has been found so far
abbrev pub invariant-loop-context : goal.invariant-loop-context
invariant-loop-context l = first_label (drop l.context-index l.contexts) ≡ first_label l.contexts
