use Rattle.std.proofs.Common.{sym, ◌∙◌, arith, subst}
use Rattle.winnow_script_attempt.specs.Looks.{piece_reading}
use Rattle.winnow_script_attempt.specs.Settled.{IsSettled}
use Rattle.winnow_script_feed.proofs.lemmas.JoinedInputLemmas.{next-is, base-le, kept-offset, kept-rest}
use Rattle.winnow_script_feed.proofs.lemmas.WaitingLemmas.{ok-missing, err-missing}
use Rattle.winnow_script_feed.proofs.missing.next_missing.Goals as goal

pub overflow_sub-progress : goal.overflow_sub-progress
overflow_sub-progress g c =
    let next = next-is c.args.progress.now c.len.result c.index-script-len.result (omega (arith, c.len.ensures, c.args.progress.now.told.ok.0)) (omega (arith, c.len.ensures, c.requires.left)) c.index-script-len.is in
    base-le _ _ _ _ _ c.requires.stands.1 _ next

pub next_slice-requires-clause-offset : goal.next_slice-requires-clause-offset
next_slice-requires-clause-offset g c =
    let next = next-is c.args.progress.now c.len.result c.index-script-len.result (omega (arith, c.len.ensures, c.args.progress.now.told.ok.0)) (omega (arith, c.len.ensures, c.requires.left)) c.index-script-len.is in
    kept-offset _ _ _ _ _ c.requires.stands.1 _ next

pub step_missing-requires-clause-settled : goal.step_missing-requires-clause-settled
step_missing-requires-clause-settled g c =
    let next = next-is c.args.progress.now c.len.result c.index-script-len.result (omega (arith, c.len.ensures, c.args.progress.now.told.ok.0)) (omega (arith, c.len.ensures, c.requires.left)) c.index-script-len.is in
    let h = c.requires.stands.1 in
    let k = piece_reading g.S.Token.AsChar.code g.S.Stream.counts_shortage g.S.Kept.write g.L.AsBStr.text_bytes in
    let e = c.next_slice.ensures.remains ∙ kept-rest _ _ _ _ _ h _ next in
    subst (λ r. IsSettled k c.index-script-len.result r c.args.progress.now.settled) (sym e) (h.settled _ next)

pub returns-clause-told : goal.returns-clause-told
returns-clause-told g c =
    let next = next-is c.args.progress.now c.len.result c.index-script-len.result (omega (arith, c.len.ensures, c.args.progress.now.told.ok.0)) (omega (arith, c.len.ensures, c.requires.left)) c.index-script-len.is in
    ok-missing _ _ _ _ _ c.index-script-len.result next (g.S.Stream.remaining c.next_slice.new.self) (λ all h. c.next_slice.ensures.remains ∙ kept-rest _ _ _ _ _ h _ next) (λ bytes. bytes.items) c.step_missing.result c.step_missing.ensures.told

pub returns-clause-refused : goal.returns-clause-refused
returns-clause-refused g c =
    let next = next-is c.args.progress.now c.len.result c.index-script-len.result (omega (arith, c.len.ensures, c.args.progress.now.told.ok.0)) (omega (arith, c.len.ensures, c.requires.left)) c.index-script-len.is in
    err-missing _ _ _ _ _ c.index-script-len.result next (g.S.Stream.remaining c.next_slice.new.self) (λ all h. c.next_slice.ensures.remains ∙ kept-rest _ _ _ _ _ h _ next) c.step_missing.result c.step_missing.ensures.refused
