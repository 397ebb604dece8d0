use Rattle.std.proofs.Common.{[], refl}
use Rattle.std.specs.Prelude.{None, Err}
use Rattle.wb_csv.specs.Copying.{TellsText}
use Rattle.wb_csv.proofs.lemmas.StartLemmas.{all-known, end-known, copied-known, stopped-known}
use Rattle.wb_csv.proofs.program.copy_text.Goals as goal

pub piece-requires : goal.piece-requires
piece-requires g c =
    let k = c.requires.fresh None in (([], (k.rows, k.counts)), k.goes_on)

pub returns-in-Err-clause-failed : goal.returns-in-Err-clause-failed
returns-in-Err-clause-failed g c =
    let start = c.args.copying in
    let held = g.W.Write.contents c.args.output.now in
    let rest = g.R.Read.remaining c.args.input.now in
    stopped-known start.settings c.args.text.now held _ rest (Err c.in-Err.failure)
    (all-known rest (λ more. c.in-Err.ensures.tells start [] more held (refl, c.requires.fresh held)))

pub returns-then-ended-clause-copied : goal.returns-then-ended-clause-copied
returns-then-ended-clause-copied g c =
    let start = c.args.copying in
    let text = c.args.text.now in
    let held = g.W.Write.contents c.args.output.now in
    let new = g.W.Write.contents c.end.new.output in
    let rest = g.R.Read.remaining c.args.input.now in
    let follows = c.in_default.ensures.follows start [] held (refl, c.requires.fresh held) in
    copied-known start.settings text held new rest c.end.result
    (end-known (λ all. TellsText start.settings all held new c.end.result) text rest (c.requires.end c.if-ended.true) (c.end.ensures start text held follows))

pub returns-then-ended-clause-failed : goal.returns-then-ended-clause-failed
returns-then-ended-clause-failed g c =
    let start = c.args.copying in
    let text = c.args.text.now in
    let held = g.W.Write.contents c.args.output.now in
    let new = g.W.Write.contents c.end.new.output in
    let rest = g.R.Read.remaining c.args.input.now in
    let follows = c.in_default.ensures.follows start [] held (refl, c.requires.fresh held) in
    stopped-known start.settings text held new rest c.end.result
    (end-known (λ all. TellsText start.settings all held new c.end.result) text rest (c.requires.end c.if-ended.true) (c.end.ensures start text held follows))

pub returns-clause-copied : goal.returns-clause-copied
returns-clause-copied g c =
    let start = c.args.copying in
    let text = c.args.text.now in
    let held = g.W.Write.contents c.args.output.now in
    let follows = c.in_default.ensures.follows start [] held (refl, c.requires.fresh held) in
    copied-known start.settings text held _ (g.R.Read.remaining c.args.input.now) c.drive.result (c.drive.ensures start text held follows)

pub returns-clause-failed : goal.returns-clause-failed
returns-clause-failed g c =
    let start = c.args.copying in
    let text = c.args.text.now in
    let held = g.W.Write.contents c.args.output.now in
    let follows = c.in_default.ensures.follows start [] held (refl, c.requires.fresh held) in
    stopped-known start.settings text held _ (g.R.Read.remaining c.args.input.now) c.drive.result (c.drive.ensures start text held follows)
