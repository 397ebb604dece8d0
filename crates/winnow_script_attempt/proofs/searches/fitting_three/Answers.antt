use Rattle.std.proofs.Common.{[], ◌∷◌, ◌∙◌, arith}
use Rattle.winnow_script_attempt.proofs.lemmas.FittingLemmas.{hit-long}
use Rattle.winnow_script_attempt.proofs.searches.fitting_three.Goals as goal

pub returns-then-len-a : goal.returns-then-len-a
returns-then-len-a c = λ bytes l. hit-long c.args.a.now (c.args.b.now ∷ c.args.c.now ∷ []) [] bytes (omega (arith, l, c.if-len-a.true)) ∙ c.fitting_two.ensures bytes l

pub returns-then-len-b : goal.returns-then-len-b
returns-then-len-b c = λ bytes l. hit-long c.args.b.now (c.args.c.now ∷ []) (c.args.a.now ∷ []) bytes (omega (arith, l, c.if-len-b.true)) ∙ c.fitting_two-then-len-b.ensures bytes l

pub returns-then-len-c : goal.returns-then-len-c
returns-then-len-c c = λ bytes l. hit-long c.args.c.now [] (c.args.a.now ∷ c.args.b.now ∷ []) bytes (omega (arith, l, c.if-len-c.true)) ∙ c.fitting_two-then-len-c.ensures bytes l
