use Rattle.std.proofs.Common.{◌-◌, ◌<◌, get_or, ap, sym, ◌∙◌, arith}
use Rattle.format_resp.specs.Wanted.{with_next}
use Rattle.format_resp.proofs.lemmas.WantedLemmas.{last-less}
use Rattle.format_resp.proofs.wanted.Wanted.begins_next.Goals as goal

pub returns : goal.returns
returns c = λ e.
    let r = c.self.inside in
    let n = c.len_without_zeros-len.result in
    let last = get_or r.counts (n - 1) 0 in
    let some : 0 < last = c.len_without_zeros-len.ensures.some (omega (arith, c.if-len-eq0.false)) in
    ap with_next (sym c.self.view_is) ∙ sym c.len_without_zeros-len.ensures.same
    ∙ last-less n (n - 1) r.counts (last - 1) (omega (arith, c.if-len-eq0.false))
    (omega (arith, c.len_without_zeros-len.ensures.within, c.self.invariant, c.self.told, c.if-len-eq0.false)) (omega (arith, some))
