use Rattle.std.proofs.Common.{◌++◌, refl, ◌∙◌}
use Rattle.wb_json.proofs.printing.Printing.pass_blanks.Goals as goal

pub returns-clause-passes : goal.returns-clause-passes
returns-clause-passes c = record {
  settings = refl;
  path = refl;
  window = λ input h.
      let more = c.in_default.ensures.window input h in
      let all = input ++ c.args.blanks.now in
      (c.drop_before.ensures.window all (c.begin_text.ensures.window all more), c.drop_before.ensures.start ∙ c.begin_text.ensures.start all more);
}
