use Rattle.std.proofs.Common.{◌≡◌, suc, ◌+◌, drop, refl, ap, sym, ◌∙◌, arith}
use Rattle.winnow_match.specs.Comparison.{is_prefix}
use Rattle.winnow_match.proofs.lemmas.ByteFrontLemmas.{is_prefix-next, is_prefix-differs, is_prefix-end}
use Rattle.winnow_match.proofs.compare_bytes.begins_with_short.Goals as goal

pub loop-at-init : goal.loop-at-init
loop-at-init c = refl

pub returns-then-prefix-at : goal.returns-then-prefix-at
returns-then-prefix-at c =
    sym (is_prefix-differs c.args.prefix.now c.args.input.now c.loop-at.at c.loop-at-test.true c.requires c.if-prefix-at.true)
    ∙ c.loop-at.invariant

pub loop-at-preserved : goal.loop-at-preserved
loop-at-preserved c =
    let next : c.loop-at.at + 1 ≡ suc c.loop-at.at = omega arith in
    ap (λ k. is_prefix (drop k c.args.prefix.now) (drop k c.args.input.now)) next
    ∙ is_prefix-next c.args.prefix.now c.args.input.now c.loop-at.at c.loop-at-test.true c.requires c.if-prefix-at.false
    ∙ c.loop-at.invariant

pub returns : goal.returns
returns c =
    sym (is_prefix-end c.args.prefix.now (drop c.loop-at.at c.args.input.now) c.loop-at.at
    (omega (arith, c.loop-at-test.false)))
    ∙ c.loop-at.invariant
