use Rattle.std.proofs.Common.{◌++◌, ◌∷◌, [], ap, ◌∙◌}
use Rattle.example_json.proofs.lemmas.LineLemmas.{margin-more}
use Rattle.example_json.proofs.printing.append_margin.Goals as goal

pub loop-turn-preserved : goal.loop-turn-preserved
loop-turn-preserved c =
    margin-more c.loop-turn._turn c.args.text.now.items c.loop-turn.text.items _ c.loop-turn.invariant
    (c.in_ok-push-2.ensures.items ∙ ap (λ l. l ++ 32 ∷ []) c.in_ok-push.ensures.items)
