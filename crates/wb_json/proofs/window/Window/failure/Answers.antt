use Rattle.std.proofs.Common.{◌≡◌, ◌+◌, ◌-◌, ◌≤◌, length, take, drop, refl, ap, ◌∙◌, subst, arith}
use Rattle.wb_json.specs.Windows.{IsPlaced}
use Rattle.wb_json.proofs.lemmas.WindowLemmas.{window-length, window-placed}
use Rattle.wb_json.proofs.window.Window.failure.Goals as goal

pub returns : goal.returns
returns c = λ input h.
    let w = c.args.self.now in
    let there = c.saturating_add-there.result in
    let width = there - w.dropped in
    let all = window-length input w h in
    let at : there ≡ w.start + c.args.place = omega (arith, all, h.short) in
    let sum : there ≡ w.dropped + width = omega arith in
    let fits : width ≤ length w.bytes.items = omega arith in
    let placed = window-placed input w there width c.split_at.result.0.now c.split_at.result.1.now c.position.result c.excerpt.result c.ok.result h sum fits
    (c.split_at.ensures.front ∙ ap (take width) c.deref.ensures.value) (c.split_at.ensures.back ∙ ap (drop width) c.deref.ensures.value)
    c.position.ensures c.excerpt.ensures c.ok.ensures.value in
    (refl, subst (λ n. IsPlaced input n c.position.result c.ok.result) at placed)
