use Rattle.std.proofs.Common.{subst}
use Rattle.wb_json.specs.Printing.{TellsInput}
use Rattle.wb_json.specs.declared.settings.Settings.{Settings}
use Rattle.wb_json.proofs.lemmas.FlushLemmas.{tells-flushed}
use Rattle.wb_json.proofs.printing.PrintingDriven.end.Goals as goal

pub returns : goal.returns
returns g c = λ start bytes had both.
    let contents = g.W.Write.contents in
    let answer = c.print_last-answer in
    let now = contents c.flushed.new.output in
    subst (λ (s : Settings). TellsInput s bytes had now c.flushed.result) both.0
    (tells-flushed c.args.self.now.settings bytes had (contents answer.new.output) now answer.result c.flushed.result c.flushed.ensures.keeps c.flushed.ensures.answer
    (answer.ensures bytes had both.1))
