use Rattle.example_csv.proofs.lemmas.CopyLemmas.{writes-kept}
use Rattle.example_csv.proofs.lemmas.DamageLemmas.{stops-kept}
use Rattle.example_csv.proofs.lemmas.CopiedLemmas.{on-ok, if-err}
use Rattle.example_csv.proofs.program.write_ahead.Goals as goal

pub returns-clause-ok : goal.returns-clause-ok
returns-clause-ok g c =
    let held = g.W.Write.contents c.args.output.now in
    let now = g.W.Write.contents c.write_records-answer.new.output in
    let kept = g.W.Write.contents c.flush.new.self in
    on-ok c.write_records-answer.result (λ writes. writes-kept c.args.reader.now c.write_records-answer.new.reader c.args.progress.now c.write_records-answer.new.progress held now kept writes c.flush.ensures.bytes) c.write_records-answer.ensures.ok

pub returns-clause-failed : goal.returns-clause-failed
returns-clause-failed g c =
    let held = g.W.Write.contents c.args.output.now in
    let now = g.W.Write.contents c.write_records-answer.new.output in
    let kept = g.W.Write.contents c.flush.new.self in
    if-err c.write_records-answer.result (λ failure stops. stops-kept c.args.reader.now c.args.progress.now held now kept failure stops c.flush.ensures.bytes) c.write_records-answer.ensures.failed
