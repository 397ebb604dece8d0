use Rattle.std.proofs.Common.{arith}
use Rattle.format_json.proofs.lemmas.FoundLemmas.{byte-starts, other-byte}
use Rattle.format_json.proofs.found.byte_at.Goals as goal

pub returns-clause-found : goal.returns-clause-found
returns-clause-found c =
    let bytes = c.args.bytes.now in
    let at = c.blank_count-at.result in (
      c.blank_count-at.ensures.within,
      λ more may done rest h.
          other-byte bytes at (omega (arith, c.blank_count-at.ensures.within, c.if-at-bytes.false)) c.blank_count-at.ensures.rest c.args.byte c.if-bytes-at.false more (byte-starts c.args.byte _ rest h),
    )
