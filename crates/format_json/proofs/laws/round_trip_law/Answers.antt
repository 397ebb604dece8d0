use Rattle.std.proofs.Common.{subst}
use Rattle.format_json.specs.Writing.{IsWhy}
use Rattle.format_json.proofs.laws.round_trip_law.Goals as goal

pub returns-clause-whole : goal.returns-clause-whole
returns-clause-whole c depth value damage is damaged = damaged.1 value is

pub returns-clause-writable : goal.returns-clause-writable
returns-clause-writable c depth text value why is h =
    (λ e. subst (IsWhy depth value) e h depth text is, λ e. subst (IsWhy depth value) e h text is)
