use Rattle.std.proofs.Common.{◌+◌, ◌<◌, ◌^◌, length, ap, sym, subst, arith}
use Rattle.std.specs.Io.KnownBytes.{Appends}
use Rattle.format_json_events.specs.Reading.{EventState, KeepsLimits}
use Rattle.example_json.specs.Positions.{LeadsTo}
use Rattle.example_json.proofs.lemmas.FollowLemmas.{begun-fed, follows-piece, fails-piece}
use Rattle.example_json.proofs.program.print_piece.Goals as goal

pub push-requires-clause-fits : goal.push-requires-clause-fits
push-requires-clause-fits g c =
    omega (arith, begun-fed c.args.reader.now c.args.progress.now c.requires.begun)

pub returns-clause-printed : goal.returns-clause-printed
returns-clause-printed g c =
    let p = c.args.progress.now in
    let held = g.W.Write.contents c.args.output.now in
    let now = g.W.Write.contents c.print_ready.new.output in
    let fits : p.line.bytes + length c.args.piece.now + 1 < 2 ^ 64 = omega arith in
    follows-piece c.args.reader.now c.push.new.self c.print_ready.new.reader p
    (record { line = c.after-progress.result; level = c.print_ready.new.progress.level })
    c.args.piece.now (Appends held now) c.in_default.ensures.read c.in_default-print_ready.ensures.printed c.in_default-print_ready.ensures.going fits
    (λ input leads. c.after-progress.ensures.leads input (subst (λ l. LeadsTo input l) (sym c.in_default-print_ready.ensures.line) leads))

pub returns-in-Err-print_ready-clause-failed : goal.returns-in-Err-print_ready-clause-failed
returns-in-Err-print_ready-clause-failed g c =
    let held = g.W.Write.contents c.args.output.now in
    let now = g.W.Write.contents c.print_ready.new.output in
    let keeps : KeepsLimits c.args.reader.now c.push.new.self = (ap (λ (r : EventState). r.text.depth) c.in_default.ensures.ok, ap (λ (r : EventState). r.tokens.ended) c.in_default.ensures.ok) in
    fails-piece c.args.reader.now c.push.new.self c.args.reader.now c.args.progress.now c.args.piece.now c.in-Err-print_ready.failure (Appends held now)
    c.in_default.ensures.read keeps c.in-Err-print_ready.ensures.failed
