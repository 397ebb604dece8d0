use Rattle.std.proofs.lemmas.Result.{IfOk-weaker}
use Rattle.winnow_stream.specs.SliceFrom.{IsSliceFrom}
use Rattle.winnow_script_run.specs.WeakerSlices.{AreAnswers-weaker}
use Rattle.winnow_script_run.proofs.runs.run.Goals as goal

pub returns-else-is_err-clause-answers : goal.returns-else-is_err-clause-answers
returns-else-is_err-clause-answers g c =
    IfOk-weaker _ _ _ (λ out.
    AreAnswers-weaker (IsSliceFrom g.S.Stream.is_slice g.S.Stream.slice_from) g.S.Stream.is_slice (λ s r n h. h.0) (g.S.Stream.remaining c.args.s.now) g.C.ScriptSet.may_answer g.S.Stream.counts_shortage c.args.script.now out.items) c.run_steps-answers.ensures.slices
