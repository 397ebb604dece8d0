use Rattle.std.proofs.Common.{◌-◌, ◌≤◌, refl, arith}
use Rattle.format_resp.specs.declared.scan.Part.TheVariants.{Held}
use Rattle.format_resp.proofs.lemmas.ScanLemmas.{scanned-same}
use Rattle.format_resp.proofs.lemmas.StepLemmas.{goes-on, held-more}
use Rattle.format_resp.proofs.scan.ReplyScan.skip.Goals as goal
use Rattle.format_resp.proofs.scan.ReplyScan.skip.Goals.{then-left-room, else-left-room}

pub returns-in_default : goal.returns-in_default
returns-in_default c = record {
  within = omega arith;
  goes = λ limits bytes passed none h. scanned-same limits.longest limits.depth bytes passed c.args.self.now none h;
}

pub returns-clause-goes : goal.returns-clause-goes
returns-clause-goes c = λ limits bytes passed same h.
    let old = c.args.self.now in
    let left = c.in-Held.left in
    let count = c.if-left-room.count in
    let within : count ≤ left = elim c.if-left-room.branch [
      | then-left-room w ↦ omega (arith, w.count-is)
      | else-left-room w ↦ omega (arith, w.count-is, w.if-left-room.false)
    ] in
    let now = left - count in
    goes-on limits.longest limits.depth bytes old (record old { part = Held now }) passed (Held left) (Held now) c.in-Held.is refl refl
    (λ begun k. held-more limits.longest old.digits begun left now passed (omega (arith, same, within)) k) h
