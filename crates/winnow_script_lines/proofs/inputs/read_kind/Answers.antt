use Rattle.std.proofs.Common.{[], ap, arith, length, refl}
use Rattle.winnow_script_lines.specs.Inputs.{DenotesKind}
use Rattle.winnow_script_lines.specs.Readings.{DenotesNothing}
use Rattle.winnow_script_lines.specs.declared.inputs.Kind.TheVariants.{Bytes, Text, BytePieces, TextPieces}
use Rattle.winnow_script_lines.proofs.lemmas.Utf8Lemmas.{DenotesKind-text, DenotesNothing-unread}
use Rattle.winnow_script_lines.proofs.inputs.read_kind.Goals as goal

-- an empty line means no kind
DenotesKind-filled : DenotesNothing DenotesKind []
DenotesKind-filled Bytes told = omega (arith, ap length told)
DenotesKind-filled Text told = omega (arith, ap length told)
DenotesKind-filled BytePieces told = omega (arith, ap length told)
DenotesKind-filled TextPieces told = omega (arith, ap length told)

-- there is no next line, or it is not UTF-8
pub returns-in_default-clause-fault : goal.returns-in_default-clause-fault
returns-in_default-clause-fault c =
    let text = c.args.lines.now.rest.now in
    rw c.fault-fault.ensures (
      refl,
      DenotesNothing-unread DenotesKind text (λ read. cc (rw c.in_default.is at c.next_line.ensures.found.1 read)) (DenotesKind-text _) DenotesKind-filled,
    )
