use Rattle.std.proofs.Common.{ℕ, List, subst}
use Rattle.std.specs.Io.KnownBytes.{Appends}
use Rattle.wb_csv.proofs.lemmas.CopiedLemmas.{writes-read, stops-read}
use Rattle.wb_csv.proofs.copying.Copying.write_ahead.Goals as goal

pub returns-clause-ok : goal.returns-clause-ok
returns-clause-ok g c =
    let old = c.args.self.now in
    let held = g.W.Write.contents c.args.output.now in
    let now = g.W.Write.contents c.write_out.new.output in
    let answer = c.read_records-answer in
    let appends = subst (λ (t : List ℕ). Appends held now t) c.deref.ensures.value c.in_default.ensures in
    writes-read old.settings old.reader answer.new.reader old.progress answer.new.progress answer.new.text.items held now appends answer.result answer.ensures.ok

pub returns-clause-failed : goal.returns-clause-failed
returns-clause-failed g c =
    let old = c.args.self.now in
    let held = g.W.Write.contents c.args.output.now in
    let now = g.W.Write.contents c.write_out.new.output in
    let answer = c.read_records-answer in
    let appends = subst (λ (t : List ℕ). Appends held now t) c.deref.ensures.value c.in_default.ensures in
    stops-read old.settings old.reader answer.new.reader old.progress answer.new.progress answer.new.text.items held now appends answer.result answer.ensures.failed
