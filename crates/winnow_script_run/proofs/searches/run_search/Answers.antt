use Rattle.std.proofs.lemmas.Result.{IfOk-weaker}
use Rattle.winnow_stream.specs.SliceFrom.{IsSliceFrom}
use Rattle.winnow_script_run.specs.WeakerSlices.{AreSearchAnswers-weaker}
use Rattle.winnow_script_run.proofs.searches.run_search.Goals as goal

pub returns-else-is_err-clause-answers : goal.returns-else-is_err-clause-answers
returns-else-is_err-clause-answers g c =
    IfOk-weaker _ _ _ (λ out.
    AreSearchAnswers-weaker (IsSliceFrom g.S.Stream.is_slice g.S.Stream.slice_from) g.S.Stream.is_slice (λ s r n h. h.0) (g.S.Stream.remaining c.args.s.now) g.C.ScriptSet.may_answer g.S.Stream.counts_shortage g.S.Compare.compared g.S.FindSlice.found c.args.script.now out.items) c.search_steps-answers.ensures.slices
