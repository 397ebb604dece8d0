use Rattle.std.proofs.Common.{refl, subst}
use Rattle.format_resp.specs.Language.{IsInteger}
use Rattle.format_resp.proofs.lemmas.StepLemmas.{integer-next}
use Rattle.format_resp.proofs.scan.ReplyScan.integer_ends.Goals as goal

pub returns-in-Some : goal.returns-in-Some
returns-in-Some c = λ bytes h e.
    let n = c.in-Some.field-0 in
    let is = (c.integer_in.ensures n).0 c.in-Some.is in
    integer-next c.args.limits.longest c.args.limits.depth bytes c.args.self.now c.begins_next.new.self 10 refl
    c.begins_next.ensures.part (c.begins_next.ensures.wanted e) h n c.requires (subst (λ t. IsInteger t n) c.text.ensures is)
