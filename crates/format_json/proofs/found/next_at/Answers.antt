use Rattle.std.proofs.Common.{arith}
use Rattle.format_json.proofs.lemmas.FoundLemmas.{other-byte}
use Rattle.format_json.proofs.found.next_at.Goals as goal

pub returns : goal.returns
returns c =
    let other = other-byte c.args.bytes.now c.blank_count-at.result (omega (arith, c.blank_count-at.ensures.within, c.if-at-bytes.false)) c.blank_count-at.ensures.rest in (
      c.blank_count-at.ensures.within,
      λ more may. (other 44 c.if-bytes-at-eq44.false more, other c.args.close c.if-bytes-at.false more),
      c.blank_count-at.ensures.rest,
    )
