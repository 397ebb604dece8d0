use Rattle.std.proofs.Common.{[]}
use Rattle.std.specs.Prelude.{None, Err}
use Rattle.example_csv.specs.Copying.{TellsText}
use Rattle.example_csv.proofs.lemmas.StartLemmas.{all-known, end-known, copied-known, stopped-known}
use Rattle.example_csv.proofs.program.copy_text.Goals as goal

pub piece-requires : goal.piece-requires
piece-requires g c = (c.new-copying.ensures.begun, (c.new-copying.ensures.copies None).goes_on)

pub returns-in-Err-clause-failed : goal.returns-in-Err-clause-failed
returns-in-Err-clause-failed g c =
    let start = c.new-copying.result in
    let held = g.W.Write.contents c.args.output.now in
    let rest = g.R.Read.remaining c.args.input.now in
    stopped-known c.args.text.now held _ rest (Err c.in-Err.failure)
    (all-known rest (λ more. c.in-Err.ensures.tells start [] more held (c.new-copying.ensures.copies held)))

pub returns-then-ended-clause-copied : goal.returns-then-ended-clause-copied
returns-then-ended-clause-copied g c =
    let start = c.new-copying.result in
    let text = c.args.text.now in
    let held = g.W.Write.contents c.args.output.now in
    let new = g.W.Write.contents c.end.new.output in
    let rest = g.R.Read.remaining c.args.input.now in
    let copies = c.in_default.ensures.follows start [] held (c.new-copying.ensures.copies held) in
    copied-known text held new rest c.end.result
    (end-known (λ all. TellsText all held new c.end.result) text rest (c.requires.end c.if-ended.true) (c.end.ensures start text held copies))

pub returns-then-ended-clause-failed : goal.returns-then-ended-clause-failed
returns-then-ended-clause-failed g c =
    let start = c.new-copying.result in
    let text = c.args.text.now in
    let held = g.W.Write.contents c.args.output.now in
    let new = g.W.Write.contents c.end.new.output in
    let rest = g.R.Read.remaining c.args.input.now in
    let copies = c.in_default.ensures.follows start [] held (c.new-copying.ensures.copies held) in
    stopped-known text held new rest c.end.result
    (end-known (λ all. TellsText all held new c.end.result) text rest (c.requires.end c.if-ended.true) (c.end.ensures start text held copies))

pub returns-clause-copied : goal.returns-clause-copied
returns-clause-copied g c =
    let start = c.new-copying.result in
    let text = c.args.text.now in
    let held = g.W.Write.contents c.args.output.now in
    let copies = c.in_default.ensures.follows start [] held (c.new-copying.ensures.copies held) in
    copied-known text held _ (g.R.Read.remaining c.args.input.now) c.drive.result (c.drive.ensures start text held copies)

pub returns-clause-failed : goal.returns-clause-failed
returns-clause-failed g c =
    let start = c.new-copying.result in
    let text = c.args.text.now in
    let held = g.W.Write.contents c.args.output.now in
    let copies = c.in_default.ensures.follows start [] held (c.new-copying.ensures.copies held) in
    stopped-known text held _ (g.R.Read.remaining c.args.input.now) c.drive.result (c.drive.ensures start text held copies)
