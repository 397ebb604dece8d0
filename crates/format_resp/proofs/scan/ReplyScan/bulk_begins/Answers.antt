use Rattle.std.proofs.Common.{[], ◌∷◌, Some, refl, ap, sym, ◌∙◌, subst}
use Rattle.format_resp.specs.declared.scan.Part.TheVariants.{Held, NumberEnd}
use Rattle.format_resp.specs.Language.{IsLength}
use Rattle.format_resp.proofs.lemmas.StepLemmas.{goes-on, held-begins, null-next}
use Rattle.format_resp.proofs.scan.ReplyScan.bulk_begins.Goals as goal

pub returns-in-Some-None : goal.returns-in-Some-None
returns-in-Some-None c = λ bytes h e.
    let is = (c.length_in.ensures _).0 (c.in-Some-None.is ∙ ap Some c.in-Some-None.field-0-is) in
    null-next c.args.limits.longest c.args.limits.depth bytes c.args.self.now c.begins_next.new.self 10 refl
    c.begins_next.ensures.part (c.begins_next.ensures.wanted e) h c.requires (sym c.text.ensures ∙ is)

pub returns-in-Some-Some : goal.returns-in-Some-Some
returns-in-Some-Some c = λ bytes h e.
    let limits = c.args.limits in
    let old = c.args.self.now in
    let count = c.in-Some-Some.count in
    let is = (c.length_in.ensures _).0 (c.in-Some-Some.is ∙ ap Some c.in-Some-Some.field-0-is) in
    goes-on limits.longest limits.depth bytes old (record old { part = Held count }) (10 ∷ []) (NumberEnd 36) (Held count) c.requires refl refl
    (λ begun k. held-begins limits.longest old.digits begun count (subst (λ t. IsLength limits.longest t (Some count)) c.text.ensures is) k) h
