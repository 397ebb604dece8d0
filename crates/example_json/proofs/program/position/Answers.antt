use Rattle.std.proofs.Common.{◌++◌, take}
use Rattle.example_json.proofs.lemmas.PositionLemmas.{placed-front}
use Rattle.example_json.proofs.program.position.Goals as goal

pub returns-in-Some-clause-placed : goal.returns-in-Some-clause-placed
returns-in-Some-clause-placed c = λ input leads.
    let piece = c.args.piece.now in
    let width = c.min-width.result in
    placed-front input piece width c.args.place c.in-Some.position
    (c.in-Some.ensures.placed (input ++ take width piece) (c.after.ensures.leads input leads))
