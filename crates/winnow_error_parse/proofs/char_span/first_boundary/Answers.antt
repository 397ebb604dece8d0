use Rattle.std.proofs.Common.{length, rules, arith}
use Rattle.winnow_error_parse.proofs.lemmas.SpanLemmas.{first_boundary-at}
use Rattle.winnow_error_parse.proofs.char_span.first_boundary.Goals as goal

pub returns-then-is_boundary-clause-first : goal.returns-then-is_boundary-clause-first
returns-then-is_boundary-clause-first c = first_boundary-at c.args.bytes.now c.loop-place.place (omega arith) c.loop-place.invariant (λ _. search rules)

pub returns-clause-first : goal.returns-clause-first
returns-clause-first c =
    first_boundary-at c.args.bytes.now (length c.args.bytes.now) (omega arith) (λ k p. c.loop-place.invariant k (omega arith)) (λ p. absurd (omega arith))
