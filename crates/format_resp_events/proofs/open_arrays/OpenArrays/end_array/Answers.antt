use Rattle.std.proofs.Common.{◌≡◌, ◌+◌, vec_len, sym, ◌∙◌, subst}
use Rattle.std.specs.Prelude.{MatchOption}
use Rattle.format_resp_events.proofs.lemmas.OpenLemmas.{array-last}
use Rattle.format_resp_events.proofs.open_arrays.OpenArrays.end_array.Goals as goal

pub returns : goal.returns
returns c =
    let old = c.args.self.now.lacks in
    let new = c.pop.new.self in
    c.end_reply.ensures
    ∙ array-last c.pop.result old.items new.items c.pop.ensures.items
    (λ e. sym new.ok.0 ∙ (subst (λ r. MatchOption r ((vec_len old ≡ 0) × (vec_len new ≡ 0)) (λ x. vec_len new + 1 ≡ vec_len old)) e c.pop.ensures.cases).1)
