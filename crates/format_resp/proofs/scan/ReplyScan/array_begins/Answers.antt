use Rattle.std.proofs.Common.{◌≡◌, ◌-◌, Some, suc, refl, ap, sym, ◌∙◌, subst, arith}
use Rattle.format_resp.specs.Language.{IsLength, greatest_count}
use Rattle.format_resp.proofs.lemmas.ScanLemmas.{scanned-inside}
use Rattle.format_resp.proofs.lemmas.StepLemmas.{null_array-next, empty-next}
use Rattle.format_resp.proofs.scan.ReplyScan.array_begins.Goals as goal

pub returns-in-Some-None : goal.returns-in-Some-None
returns-in-Some-None c = λ bytes h e.
    let is = (c.length_in.ensures _).0 (c.in-Some-None.is ∙ ap Some c.in-Some-None.field-0-is) in
    null_array-next c.args.limits.longest c.args.limits.depth bytes c.args.self.now c.begins_next.new.self 10 refl
    c.begins_next.ensures.part (c.begins_next.ensures.wanted e) h c.requires (sym c.text.ensures ∙ is)

pub returns-in-Some-Some-eq0 : goal.returns-in-Some-Some-eq0
returns-in-Some-Some-eq0 c = λ bytes h e.
    let next = c.begins_next-in-Some-Some-eq0 in
    let there = c.in-Some-Some-eq0.is ∙ ap Some c.in-Some-Some-eq0.field-0-is in
    let is = subst (λ n. IsLength greatest_count c.text.result.now (Some n)) c.in-Some-Some-eq0.field-0-0-test ((c.length_in.ensures _).0 there) in
    empty-next c.args.limits.longest c.args.limits.depth bytes c.args.self.now next.new.self 10 refl
    next.ensures.part (next.ensures.wanted e) h c.requires (subst (λ t. IsLength greatest_count t (Some 0)) c.text.ensures is)

pub returns-in-Some-Some : goal.returns-in-Some-Some
returns-in-Some-Some c = λ bytes h e.
    let count = c.in-Some-Some.count in
    let same : count ≡ suc (count - 1) = omega (arith, c.in-Some-Some.count-test.1) in
    let is = subst (λ n. IsLength greatest_count c.text.result.now (Some n)) same
    ((c.length_in.ensures _).0 (c.in-Some-Some.is ∙ ap Some c.in-Some-Some.field-0-is)) in
    scanned-inside c.args.limits.longest c.args.limits.depth bytes c.args.self.now c.opens.new.self (count - 1) h c.requires
    (c.opens.ensures.part e) (c.opens.ensures.deep e) (c.opens.ensures.wanted e)
    (subst (λ t. IsLength greatest_count t (Some (suc (count - 1)))) c.text.ensures is)
