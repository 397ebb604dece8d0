use Rattle.std.proofs.Common.{◌≡◌, ◌-◌, ◌∙◌, rules, arith}
use Rattle.winnow_error_parse.proofs.lemmas.SpanLemmas.{last_boundary-at}
use Rattle.winnow_error_parse.proofs.char_span.last_boundary.Goals as goal

pub returns-then-is_boundary : goal.returns-then-is_boundary
returns-then-is_boundary c = last_boundary-at c.args.bytes.now c.loop-end.end c.loop-end.invariant.0 c.loop-end.invariant.1 (λ _. search rules)

pub returns : goal.returns
returns c =
    let none : 0 ≡ c.loop-end.end - 1 = omega arith in
    none ∙ last_boundary-at c.args.bytes.now c.loop-end.end c.loop-end.invariant.0 c.loop-end.invariant.1 (λ p. absurd (omega arith))
