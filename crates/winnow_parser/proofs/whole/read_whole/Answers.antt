use Rattle.std.proofs.lemmas.Result.{IfOk-weaker, IfErr-weaker}
use Rattle.winnow_parser.proofs.whole.read_whole.Goals as goal

pub returns-clause-kept : goal.returns-clause-kept
returns-clause-kept g c =
    IfOk-weaker c.read_complete.result _ _ (λ answer ok. IfErr-weaker answer _ _ (λ error kept. (c.complete.new.self, (c.complete.ensures.same, kept))) ok) c.read_complete.ensures.kept
