use Rattle.std.proofs.Common.{[], ◌∷◌, ◌++◌, subst, sym}
use Rattle.format_resp.specs.Scan.{IsScanned}
use Rattle.format_resp.proofs.scan.ReplyScan.number_ends.Goals as goal

pub returns-then-kind-eq58 : goal.returns-then-kind-eq58
returns-then-kind-eq58 c = λ bytes h e.
    subst (λ b. IsScanned c.args.limits.longest c.args.limits.depth (bytes ++ b ∷ []) c.integer_ends.new.self)
    (sym c.if-byte-ne10.false) (c.integer_ends.ensures bytes h e)

pub returns-then-kind-eq36 : goal.returns-then-kind-eq36
returns-then-kind-eq36 c = λ bytes h e.
    subst (λ b. IsScanned c.args.limits.longest c.args.limits.depth (bytes ++ b ∷ []) c.bulk_begins.new.self)
    (sym c.if-byte-ne10.false) (c.bulk_begins.ensures bytes h e)

pub returns-then-kind-eq42 : goal.returns-then-kind-eq42
returns-then-kind-eq42 c = λ bytes h e.
    subst (λ b. IsScanned c.args.limits.longest c.args.limits.depth (bytes ++ b ∷ []) c.array_begins.new.self)
    (sym c.if-byte-ne10.false) (c.array_begins.ensures bytes h e)
