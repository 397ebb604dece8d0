use Rattle.std.proofs.Common.{◌≡◌, ℕ, List, ◌++◌, take}
use Rattle.format_dns.specs.Names.{SpellsLabels}
use Rattle.format_dns.proofs.name_format.write_labels.Given as goal

abbrev pub invariant-loop-label : goal.invariant-loop-label
invariant-loop-label l = (spelled : List ℕ) × (SpellsLabels (take l.label-index l.labels) spelled
    × (l.bytes.items ≡ l.initial.bytes.items ++ spelled))
