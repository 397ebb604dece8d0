use Rattle.winnow_stream.specs.Cursor.{start}
use Rattle.winnow_stream.specs.SliceFrom.{IsSliceFrom}
use Rattle.winnow_script_run.specs.Script.{step_answer, step_next, IsAnswer, SetComputes, StandsFor}
use Rattle.winnow_script_run.proofs.lemmas.ScriptLemmas.{AreGiven-answers}
use Rattle.winnow_script_run.proofs.laws.answers_law.Goals as goal

pub returns-clause-answers : goal.returns-clause-answers
returns-clause-answers g c = λ holds all script out computes given.
    AreGiven-answers (IsAnswer g.C.ScriptSet.may_answer g.S.Stream.is_slice g.S.Stream.counts_shortage all) (step_answer holds g.S.Stream.counts_shortage all) (step_next all) (StandsFor g.S.Stream.is_slice all) (SetComputes g.C.ScriptSet.may_answer holds) (λ s at a p h. h holds p) script start out computes given

pub returns-clause-slices : goal.returns-clause-slices
returns-clause-slices g c = λ holds all script out computes given.
    let slices = IsSliceFrom g.S.Stream.is_slice g.S.Stream.slice_from in
    AreGiven-answers (IsAnswer g.C.ScriptSet.may_answer slices g.S.Stream.counts_shortage all) (step_answer holds g.S.Stream.counts_shortage all) (step_next all) (StandsFor slices all) (SetComputes g.C.ScriptSet.may_answer holds) (λ s at a p h. h holds p) script start out computes given
