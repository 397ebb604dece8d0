use Rattle.std.proofs.Common.{ℕ, List, [], ap, arith, codes, length, refl}
use Rattle.winnow_script_lines.specs.Inputs.{DenotesFed}
use Rattle.winnow_script_lines.specs.Readings.{DenotesNothing}
use Rattle.winnow_script_lines.specs.declared.fed_lines.FedLine.TheVariants.{Piece, Waits}
use Rattle.winnow_script_lines.proofs.lemmas.Utf8Lemmas.{DenotesFed-text, DenotesNothing-unread}
use Rattle.winnow_script_lines.proofs.lemmas.WordLemmas.{DenotesNamed-alone}
use Rattle.winnow_script_lines.proofs.fed_lines.read_fed_line.Goals as goal

-- an empty line means neither a piece nor a question
DenotesFed-filled : {L : Type 0} (bytes : L → List ℕ) → DenotesNothing (DenotesFed bytes) []
DenotesFed-filled bytes (Piece piece) told =
    DenotesNamed-alone bytes (codes "piece") [] (λ spaced. omega (arith, spaced)) piece told
DenotesFed-filled bytes Waits told = omega (arith, ap length told)

-- there is no next line, or it is not UTF-8
pub returns-in_default-clause-fault : goal.returns-in_default-clause-fault
returns-in_default-clause-fault g c =
    let bytes = g.L.Contents.bytes in
    let text = c.args.lines.now.rest.now in
    let none =
    DenotesNothing-unread (DenotesFed bytes) text (λ read. cc (rw c.in_default.is at c.next_line.ensures.found.1 read)) (λ told. DenotesFed-text bytes _ told) (DenotesFed-filled bytes)
    in
    rw c.fault-fault.ensures (refl, λ told fed. none told fed.0)
