use Rattle.std.proofs.Common.{◌≡◌, ◌-◌, ◌<◌, length, get_or, slice_set, reverse, ap, ◌∙◌, subst, arith}
use Rattle.std.proofs.lemmas.Grind.{get_or_default_zero}
use Rattle.format_resp_events.proofs.lemmas.OpenLemmas.{reply-last, reply-none}
use Rattle.format_resp_events.proofs.open_arrays.OpenArrays.end_reply.Goals as goal

pub returns-then-count-gt0 : goal.returns-then-count-gt0
returns-then-count-gt0 c =
    let v = c.args.self.now.lacks in
    let xs = v.items in
    let n = c.len-count.result in
    let count : n ≡ length xs = c.len-count.ensures ∙ v.ok.0 in
    let some = c.if-count-gt0.true in
    let within : n - 1 < length xs = omega (arith, count, some) in
    let last = c.index.ensures ∙ get_or_default_zero xs (n - 1) c.index.result.now within in
    ap (λ z. reverse (slice_set xs (n - 1) z)) (c.saturating_sub.ensures ∙ ap (λ z. z - 1) last)
    ∙ ap (λ m. reverse (slice_set xs (m - 1) (get_or xs (m - 1) 0 - 1))) count
    ∙ reply-last xs (subst (λ m. 0 < m) count some)

pub returns-else-count-gt0 : goal.returns-else-count-gt0
returns-else-count-gt0 c =
    let v = c.args.self.now.lacks in
    reply-none v.items (omega (arith, c.len-count.ensures, v.ok.0, c.if-count-gt0.false))
