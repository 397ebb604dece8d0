use Rattle.std.proofs.Common.{[], ◌∷◌, ◌++◌, refl, ap, sym, ◌∙◌, append_assoc}
use Rattle.wb_json.specs.declared.settings.Settings.{Settings}
use Rattle.wb_json.proofs.lemmas.ResultLemmas.{on-ok, if-err}
use Rattle.wb_json.proofs.lemmas.LiningLemmas.{prints-none, prints-both, fails-first, fails-second}
use Rattle.wb_json.proofs.printing.Printing.print_lines.Goals as goal

pub loop-turn-init : goal.loop-turn-init
loop-turn-init g c = record {
  ready = c.requires.ready;
  lines = c.requires.lines;
  settings = refl;
  prints = ([], (refl, prints-none c.args.self.now (g.W.Write.contents c.args.output.now)));
}

pub loop-turn-preserved : goal.loop-turn-preserved
loop-turn-preserved g c =
    let contents = g.W.Write.contents in
    let had = c.loop-turn.invariant.prints in
    let line = c.in-Some.line.now ++ 10 ∷ [] in
    let after = c.in-Some.after.now in
    let whole = had.1.0 ∙ ap (λ xs. had.0 ++ xs) (c.in-Some.ensures.some.1 ∙ sym (append_assoc c.in-Some.line.now (10 ∷ []) after))
    ∙ sym (append_assoc had.0 line after) in
    record {
      ready = c.in_default.ensures.ready;
      lines = ap (λ (s : Settings). s.by_lines) c.in_default.ensures.settings ∙ c.loop-turn.invariant.lines;
      settings = c.in_default.ensures.settings ∙ c.loop-turn.invariant.settings;
      prints = (
        had.0 ++ line,
        (
          whole,
          prints-both c.args.self.now c.loop-turn.self c.print_line.new.self had.0 line (had.0 ++ line) (contents c.args.output.now) (contents c.loop-turn.output) (contents c.print_line.new.output)
              refl had.1.1 c.in_default.ensures.prints,
        ),
      );
    }

pub returns-in-Err-clause-failed : goal.returns-in-Err-clause-failed
returns-in-Err-clause-failed g c =
    let contents = g.W.Write.contents in
    let had = c.loop-turn.invariant.prints in
    let rest = c.loop-turn.rest.now in
    let line = c.in-Some.line.now ++ 10 ∷ [] in
    let after = c.in-Some.after.now in
    let held = contents c.loop-turn.output in
    let now = contents c.print_line.new.output in
    fails-second c.args.self.now c.loop-turn.self had.0 rest c.args.piece.now c.in-Err.failure (contents c.args.output.now) held now had.1.0 c.loop-turn.invariant.settings had.1.1
    (fails-first c.loop-turn.self line after rest c.in-Err.failure held now (c.in-Some.ensures.some.1 ∙ sym (append_assoc c.in-Some.line.now (10 ∷ []) after)) c.in-Err.ensures.failed)

pub returns-in-None-clause-prints : goal.returns-in-None-clause-prints
returns-in-None-clause-prints g c =
    let contents = g.W.Write.contents in
    let had = c.loop-turn.invariant.prints in
    on-ok c.print_more.result
    (λ next. prints-both c.args.self.now c.loop-turn.self c.print_more.new.self had.0 c.loop-turn.rest.now c.args.piece.now (contents c.args.output.now) (contents c.loop-turn.output) (contents c.print_more.new.output)
    had.1.0 had.1.1 next)
    c.print_more.ensures.prints

pub returns-in-None-clause-failed : goal.returns-in-None-clause-failed
returns-in-None-clause-failed g c =
    let contents = g.W.Write.contents in
    let had = c.loop-turn.invariant.prints in
    if-err c.print_more.result
    (λ failure fails. fails-second c.args.self.now c.loop-turn.self had.0 c.loop-turn.rest.now c.args.piece.now failure (contents c.args.output.now) (contents c.loop-turn.output) (contents c.print_more.new.output)
    had.1.0 c.loop-turn.invariant.settings had.1.1 fails)
    c.print_more.ensures.failed
