use Rattle.std.proofs.Common.{drop, ap, ◌∙◌}
use Rattle.format_resp.specs.Parts.{fault}
use Rattle.format_resp.proofs.lemmas.PartLemmas.{rest-all}
use Rattle.format_resp.proofs.lemmas.FaultLemmas.{cause-told}
use Rattle.format_resp.proofs.causes.cause_of.Goals as goal

pub returns : goal.returns
returns c =
    let before = c.args.before.now in
    let rest = c.args.rest.now in
    let i = c.last_part-begin.result in
    cause-told c.fault.result before rest (drop i before) c.last_part-begin.ensures.last
    (c.fault.ensures ∙ ap (λ b. fault b rest) (rest-all i before))
