use Rattle.std.proofs.Common.{[], ◌∷◌}
use Rattle.winnow_match.proofs.lemmas.AnswerLemmas.{EndsAtOffset-bytes}
use Rattle.winnow_match.proofs.compare_bytes.RefSliceU8CompareU8.compare.Goals as goal

pub returns-clause-offset : goal.returns-clause-offset
returns-clause-offset c = EndsAtOffset-bytes (c.args.literal ∷ []) c.args.self.now.now c.compare_front.result c.compare_front.ensures
