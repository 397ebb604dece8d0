use Rattle.winnow_error_context.specs.Explanation.{Extends}
use Rattle.winnow_error_context.proofs.context.ContextError.extend.Given as goal

abbrev pub invariant-loop-context : goal.invariant-loop-context
invariant-loop-context g l = (goal.iterator-loop-context g).can_next l.context-iterator
    × (goal.iterator-loop-context g).is_finite l.context-iterator
    × Extends l.fn.self l.yielded l.self
