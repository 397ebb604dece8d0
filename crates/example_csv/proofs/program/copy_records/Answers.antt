use Rattle.std.proofs.Common.{◌≡◌, ℕ, List, subst}
use Rattle.std.specs.Prelude.{Option, OnOk, IfErr, IfSome}
use Rattle.example_csv.specs.Copying.{CopiesAll, CopiesInput, StopsInput}
use Rattle.example_csv.specs.declared.failure.Failure.TheVariants.{Marked}
use Rattle.example_csv.proofs.lemmas.CopiedLemmas.{on-ok, if-err}
use Rattle.example_csv.proofs.lemmas.StartLemmas.{start-is, text-known, text-stops, mark-stops}
use Rattle.example_csv.proofs.program.copy_records.Goals as goal

pub returns-in-Some-Ok-clause-copied : goal.returns-in-Some-Ok-clause-copied
returns-in-Some-Ok-clause-copied g c =
    let had = g.R.Read.remaining c.args.input.now in
    let has = g.R.Read.remaining c.read_on.new.input in
    let held = g.W.Write.contents c.loop.output in
    let new = g.W.Write.contents c.copy_text.new.output in
    let start = c.deref.result.now in
    let s = start-is c.in-Ok-read_on.ended had has start _ c.deref.ensures.value (c.in-Ok-read_on.ensures.taken had c.loop.invariant.took) c.in-Ok-read_on.ensures.end in
    let begins = rw c.in-Some-Ok.field-0-is at c.in-Some-Ok.ensures.text in
    subst (λ (h : Option (List ℕ)). OnOk c.copy_text.result (IfSome had (λ bytes. CopiesInput c.args.skips_mark bytes h new))) c.loop.invariant.wrote (on-ok c.copy_text.result (λ h. text-known c.args.skips_mark c.in-Ok-read_on.ended (λ t. CopiesAll t held new) had has start c.in-Some-Ok.text.now s begins h) (rw c.in-Some-Ok.field-0-is at c.copy_text.ensures.copied))

pub returns-in-Some-Ok-clause-failed : goal.returns-in-Some-Ok-clause-failed
returns-in-Some-Ok-clause-failed g c =
    let had = g.R.Read.remaining c.args.input.now in
    let has = g.R.Read.remaining c.read_on.new.input in
    let held = g.W.Write.contents c.loop.output in
    let new = g.W.Write.contents c.copy_text.new.output in
    let start = c.deref.result.now in
    let s = start-is c.in-Ok-read_on.ended had has start _ c.deref.ensures.value (c.in-Ok-read_on.ensures.taken had c.loop.invariant.took) c.in-Ok-read_on.ensures.end in
    let begins = rw c.in-Some-Ok.field-0-is at c.in-Some-Ok.ensures.text in
    subst (λ (h : Option (List ℕ)). IfErr c.copy_text.result (λ failure. IfSome had (λ bytes. StopsInput c.args.skips_mark bytes failure h new))) c.loop.invariant.wrote (if-err c.copy_text.result (λ failure h. text-stops c.args.skips_mark c.in-Ok-read_on.ended had has held new start c.in-Some-Ok.text.now failure s begins h) (rw c.in-Some-Ok.field-0-is at c.copy_text.ensures.failed))

pub returns-in-Some-Err-clause-failed : goal.returns-in-Some-Err-clause-failed
returns-in-Some-Err-clause-failed g c =
    let had = g.R.Read.remaining c.args.input.now in
    let has = g.R.Read.remaining c.read_on.new.input in
    let held = g.W.Write.contents c.loop.output in
    let start = c.deref.result.now in
    let s = start-is c.in-Ok-read_on.ended had has start _ c.deref.ensures.value (c.in-Ok-read_on.ensures.taken had c.loop.invariant.took) c.in-Ok-read_on.ensures.end in
    let refuses = rw c.in-Some-Err.field-0-is at c.in-Some-Err.ensures.refused in
    let stops = mark-stops c.args.skips_mark c.in-Ok-read_on.ended had has held start c.in-Some-Err.mark s refuses in
    rw c.in-Some-Err.field-0-is (subst (λ (h : Option (List ℕ)). IfSome had (λ bytes. StopsInput c.args.skips_mark bytes (Marked c.in-Some-Err.mark) h held)) c.loop.invariant.wrote stops)
