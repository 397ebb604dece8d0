use Rattle.std.proofs.Common.{◌≤◌, length, arith}
use Rattle.example_json.proofs.lemmas.PositionLemmas.{front-line}
use Rattle.example_json.proofs.positions.Line.position.Goals as goal

pub returns-clause-placed : goal.returns-clause-placed
returns-clause-placed c = λ input leads.
    let within : c.args.first ≤ length input = omega (arith, leads.counted) in
    let front = front-line input c.args.self c.args.first leads c.if-first-self.false within in
    (within, (omega (arith, front.0), omega (arith, front.1)))
