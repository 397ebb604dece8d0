use Rattle.std.proofs.Common.{ℕ, List, subst}
use Rattle.std.specs.Prelude.{Option, OnOk, IfErr, IfSome}
use Rattle.wb_csv.specs.Copying.{CopiesAll, CopiesBytes, StopsBytes}
use Rattle.wb_csv.specs.declared.settings.Settings.{Settings}
use Rattle.wb_csv.specs.declared.failure.Failure.TheVariants.{Marked}
use Rattle.wb_csv.proofs.lemmas.CopiedLemmas.{on-ok, if-err}
use Rattle.wb_csv.proofs.lemmas.StartLemmas.{start-is, text-known, text-stops, mark-stops}
use Rattle.wb_csv.proofs.program.copy_bytes.Goals as goal

pub returns-in-Some-Ok-clause-copied : goal.returns-in-Some-Ok-clause-copied
returns-in-Some-Ok-clause-copied g c =
    let s = c.args.settings in
    let is = c.new-copying.ensures.settings in
    let had = g.R.Read.remaining c.args.input.now in
    let has = g.R.Read.remaining c.read_on.new.input in
    let held = g.W.Write.contents c.loop.output in
    let new = g.W.Write.contents c.copy_text.new.output in
    let start = c.deref.result.now in
    let begun = start-is c.in-Ok-read_on.ended had has start _ c.deref.ensures.value (c.in-Ok-read_on.ensures.taken had c.loop.invariant.took) c.in-Ok-read_on.ensures.end in
    let begins = rw c.in-Some-Ok.field-0-is at c.in-Some-Ok.ensures.text in
    subst (λ (h : Option (List ℕ)). OnOk c.copy_text.result (IfSome had (λ bytes. CopiesBytes s bytes h new))) c.loop.invariant.wrote
    (subst (λ (r : Settings). OnOk c.copy_text.result (IfSome had (λ bytes. CopiesBytes r bytes held new))) is
    (on-ok c.copy_text.result (λ h. text-known c.new-copying.result.settings c.in-Ok-read_on.ended (λ t. CopiesAll c.new-copying.result.settings t held new) had has start c.in-Some-Ok.text.now begun begins h) (rw c.in-Some-Ok.field-0-is at c.copy_text.ensures.copied)))

pub returns-in-Some-Ok-clause-failed : goal.returns-in-Some-Ok-clause-failed
returns-in-Some-Ok-clause-failed g c =
    let s = c.args.settings in
    let is = c.new-copying.ensures.settings in
    let had = g.R.Read.remaining c.args.input.now in
    let has = g.R.Read.remaining c.read_on.new.input in
    let held = g.W.Write.contents c.loop.output in
    let new = g.W.Write.contents c.copy_text.new.output in
    let start = c.deref.result.now in
    let begun = start-is c.in-Ok-read_on.ended had has start _ c.deref.ensures.value (c.in-Ok-read_on.ensures.taken had c.loop.invariant.took) c.in-Ok-read_on.ensures.end in
    let begins = rw c.in-Some-Ok.field-0-is at c.in-Some-Ok.ensures.text in
    subst (λ (h : Option (List ℕ)). IfErr c.copy_text.result (λ failure. IfSome had (λ bytes. StopsBytes s bytes failure h new))) c.loop.invariant.wrote
    (subst (λ (r : Settings). IfErr c.copy_text.result (λ failure. IfSome had (λ bytes. StopsBytes r bytes failure held new))) is
    (if-err c.copy_text.result (λ failure h. text-stops c.new-copying.result.settings c.in-Ok-read_on.ended had has held new start c.in-Some-Ok.text.now failure begun begins h) (rw c.in-Some-Ok.field-0-is at c.copy_text.ensures.failed)))

pub returns-in-Some-Err-clause-failed : goal.returns-in-Some-Err-clause-failed
returns-in-Some-Err-clause-failed g c =
    let s = c.args.settings in
    let had = g.R.Read.remaining c.args.input.now in
    let has = g.R.Read.remaining c.read_on.new.input in
    let held = g.W.Write.contents c.loop.output in
    let start = c.deref.result.now in
    let begun = start-is c.in-Ok-read_on.ended had has start _ c.deref.ensures.value (c.in-Ok-read_on.ensures.taken had c.loop.invariant.took) c.in-Ok-read_on.ensures.end in
    let refuses = rw c.in-Some-Err.field-0-is at c.in-Some-Err.ensures.refused in
    let stops = mark-stops s c.in-Ok-read_on.ended had has held start c.in-Some-Err.mark begun refuses in
    rw c.in-Some-Err.field-0-is (subst (λ (h : Option (List ℕ)). IfSome had (λ bytes. StopsBytes s bytes (Marked c.in-Some-Err.mark) h held)) c.loop.invariant.wrote stops)
