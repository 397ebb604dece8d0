use Rattle.std.proofs.Common.{ℕ, ◌+◌, ◌≤◌, ◌<◌, ◌^◌, List, ◌++◌, length, take, subst, arith}
use Rattle.wb_base.specs.Recents.{IsRecent}
use Rattle.wb_json.proofs.lemmas.WindowLemmas.{window-drop}
use Rattle.wb_json.proofs.window.Window.drop_before.Goals as goal

pub returns-clause-window : goal.returns-clause-window
returns-clause-window c = λ input h.
    let old = c.args.self.now in
    let width = c.min-width.result in
    let fits : width ≤ length old.bytes.items = omega arith in
    window-drop input old _ width h fits
    (subst (λ bs. (taken : List ℕ) → IsRecent taken old.recent → length (taken ++ take width bs) + 1 < 2 ^ 64 → IsRecent (taken ++ take width bs) c.take.new.self) c.deref.ensures.value c.take.ensures)
    c.drop_first.ensures c.saturating_add-self.ensures
