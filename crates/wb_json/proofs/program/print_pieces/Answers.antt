use Rattle.std.proofs.Common.{[], refl, subst}
use Rattle.std.specs.Prelude.{IfSome}
use Rattle.wb_json.specs.Printing.{TellsInput}
use Rattle.wb_json.specs.declared.settings.Settings.{Settings}
use Rattle.wb_json.proofs.lemmas.InputLemmas.{printed-known, stopped-known}
use Rattle.wb_json.proofs.lemmas.LiningLemmas.{prints-ready}
use Rattle.wb_json.proofs.program.print_pieces.Goals as goal

pub drive-requires-clause-ready : goal.drive-requires-clause-ready
drive-requires-clause-ready g c =
    prints-ready c.in-Ok-begin.printing [] (g.W.Write.contents c.args.output.now) (g.W.Write.contents c.begin.new.output) c.in-Ok-begin.ensures.prints

pub returns-clause-printed : goal.returns-clause-printed
returns-clause-printed g c =
    let had = g.W.Write.contents c.args.output.now in
    let new = g.W.Write.contents c.drive.new.output in
    let rest = g.R.Read.remaining c.args.input.now in
    let told = c.drive.ensures c.in-Ok-begin.printing [] had (refl, c.in-Ok-begin.ensures.prints) in
    printed-known c.args.settings had new rest c.drive.result
    (subst (λ (s : Settings). IfSome rest (λ bytes. TellsInput s bytes had new c.drive.result)) c.in-Ok-begin.ensures.settings told)

pub returns-clause-failed : goal.returns-clause-failed
returns-clause-failed g c =
    let had = g.W.Write.contents c.args.output.now in
    let new = g.W.Write.contents c.drive.new.output in
    let rest = g.R.Read.remaining c.args.input.now in
    let told = c.drive.ensures c.in-Ok-begin.printing [] had (refl, c.in-Ok-begin.ensures.prints) in
    stopped-known c.args.settings had new rest c.drive.result
    (subst (λ (s : Settings). IfSome rest (λ bytes. TellsInput s bytes had new c.drive.result)) c.in-Ok-begin.ensures.settings told)
