use Rattle.std.proofs.Common.{◌≡◌, ℕ, List, rules, sym, ap, ◌∙◌, subst, ◌++◌}
use Rattle.wb_base.specs.Recents.{AreLastOf}
use Rattle.wb_base.proofs.lemmas.RecentLemmas.{last-of-last, on-ok}
use Rattle.wb_base.proofs.remembering.drop_first.Goals as goal

pub returns-clause-kept : goal.returns-clause-kept
returns-clause-kept c = λ taken h.
    let extended = c.try_extend_from_slice in
    let had = c.args.last.now.items in
    let last = c.last_of.result.now in
    let lasts = subst (λ (l : List ℕ). AreLastOf l last) c.as_slice.ensures.value c.last_of.ensures.last in
    let items = on-ok extended.result (extended.ensures.variant.1 (search rules)) extended.ensures.ok in
    let is : extended.new.self.items ≡ last = items ∙ ap (λ l. l ++ last) c.new-kept.ensures in
    subst (λ (l : List ℕ). AreLastOf taken l) (sym is) (last-of-last taken had last h lasts)
