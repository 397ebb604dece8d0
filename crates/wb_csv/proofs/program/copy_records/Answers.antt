use Rattle.wb_csv.specs.Copying.{CopiesBytes, StopsBytes}
use Rattle.wb_csv.proofs.lemmas.CopiedLemmas.{on-ok, if-err}
use Rattle.wb_csv.proofs.lemmas.PlainLemmas.{known-plain}
use Rattle.wb_csv.proofs.lemmas.StartLemmas.{exchanged-some}
use Rattle.wb_csv.proofs.program.copy_records.Goals as goal

pub returns-clause-copied : goal.returns-clause-copied
returns-clause-copied g c =
    let s = c.args.settings in
    let had = g.R.Read.remaining c.args.input.now in
    let held = g.W.Write.contents c.args.output.now in
    let new = g.W.Write.contents c.copy_bytes.new.output in
    on-ok c.copy_bytes.result (exchanged-some (λ bytes. CopiesBytes s bytes held new) 44 s.delimiter had) c.copy_bytes.ensures.copied

pub returns-clause-failed : goal.returns-clause-failed
returns-clause-failed g c =
    let s = c.args.settings in
    let had = g.R.Read.remaining c.args.input.now in
    let held = g.W.Write.contents c.args.output.now in
    let new = g.W.Write.contents c.copy_bytes.new.output in
    if-err c.copy_bytes.result (λ failure. exchanged-some (λ bytes. StopsBytes s bytes failure held new) 44 s.delimiter had) c.copy_bytes.ensures.failed

pub returns-clause-plain : goal.returns-clause-plain
returns-clause-plain g c = λ plain.
    let s = c.args.settings in
    let had = g.R.Read.remaining c.args.input.now in
    let held = g.W.Write.contents c.args.output.now in
    let new = g.W.Write.contents c.copy_bytes.new.output in
    known-plain s had held new c.copy_bytes.result
    (λ bytes copies. c.comma_law.ensures.copied s bytes held new plain copies)
    (on-ok c.copy_bytes.result (exchanged-some (λ bytes. CopiesBytes s bytes held new) 44 s.delimiter had) c.copy_bytes.ensures.copied)
