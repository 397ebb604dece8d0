use Rattle.std.proofs.Common.{rules, subst, sym}
use Rattle.std.proofs.Common.{ℕ, List, ◌≡◌, drop}
use Rattle.wb_base.specs.Recents.{AreLastOf}
use Rattle.wb_base.proofs.lemmas.RecentLemmas.{last-dropped}
use Rattle.wb_base.proofs.remembering.last_of.Goals as goal

pub returns-clause-last : goal.returns-clause-last
returns-clause-last c =
    let bytes = c.args.bytes.now in
    let is : c.split_at.result.1.now ≡ drop c.saturating_sub.result bytes = search rules in
    subst (λ (l : List ℕ). AreLastOf bytes l) (sym is) (last-dropped bytes c.saturating_sub.result (search rules))
