use Rattle.std.proofs.Common.{[], subst, ℕ}
use Rattle.std.specs.Prelude.{IfSome}
use Rattle.example_json.specs.Printing.{TellsInput}
use Rattle.example_json.proofs.lemmas.FollowLemmas.{printed-known, stopped-known}
use Rattle.example_json.proofs.program.print_pieces.Goals as goal

pub returns-clause-printed : goal.returns-clause-printed
returns-clause-printed g c =
    let start = c.new-printing.result in
    let had = g.W.Write.contents c.args.output.now in
    let new = g.W.Write.contents c.drive.new.output in
    let rest = g.R.Read.remaining c.args.input.now in
    let told = c.drive.ensures start [] had (c.new-printing.ensures.prints had) in
    printed-known c.args.depth had new rest c.drive.result
    (subst (λ (depth : ℕ). IfSome rest (λ bytes. TellsInput depth bytes had new c.drive.result)) c.new-printing.ensures.limit told)

pub returns-clause-failed : goal.returns-clause-failed
returns-clause-failed g c =
    let start = c.new-printing.result in
    let had = g.W.Write.contents c.args.output.now in
    let new = g.W.Write.contents c.drive.new.output in
    let rest = g.R.Read.remaining c.args.input.now in
    let told = c.drive.ensures start [] had (c.new-printing.ensures.prints had) in
    stopped-known c.args.depth had new rest c.drive.result
    (subst (λ (depth : ℕ). IfSome rest (λ bytes. TellsInput depth bytes had new c.drive.result)) c.new-printing.ensures.limit told)
