use Rattle.std.proofs.Common.{◌≡◌, ℕ, List, rules, sym, ap, ◌∙◌, subst, ◌++◌}
use Rattle.wb_base.specs.Recents.{AreLastOf}
use Rattle.wb_base.proofs.lemmas.RecentLemmas.{last-more, last-of-more, on-ok}
use Rattle.wb_base.proofs.remembering.keep_last.Goals as goal

pub returns-then-bytes-ge-WIDTH : goal.returns-then-bytes-ge-WIDTH
returns-then-bytes-ge-WIDTH c = λ taken h.
    let extended = c.try_extend_from_slice in
    let bytes = c.args.bytes.now in
    let last = c.last_of.result.now in
    let items = on-ok extended.result (extended.ensures.variant.1 (search rules)) extended.ensures.ok in
    let is : extended.new.self.items ≡ last = items ∙ ap (λ l. l ++ last) c.clear.ensures in
    subst (λ (l : List ℕ). AreLastOf (taken ++ bytes) l) (sym is) (last-of-more taken bytes last c.if-bytes-ge-WIDTH.true c.last_of.ensures.last)

pub returns : goal.returns
returns c = λ taken h.
    let extended = c.try_extend_from_slice-2 in
    let bytes = c.args.bytes.now in
    let items = on-ok extended.result (extended.ensures.variant.1 (search rules)) extended.ensures.ok in
    subst (λ (l : List ℕ). AreLastOf (taken ++ bytes) l) (sym items) (last-more taken _ bytes (c.make_room.ensures.kept taken h))
