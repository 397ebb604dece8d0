use Rattle.std.proofs.Common.{◌≡◌, List, ◌++◌, length}
use Rattle.winnow_stream.specs.Cursor.{cursor_after, start}
use Rattle.winnow_stream.specs.SliceFrom.{IsSliceFrom}
use Rattle.winnow_script_run.specs.Script.{step_next, AreReady, AreGiven, IsAnswer}
use Rattle.winnow_script_run.specs.RunState.{run_state, StandsAt, AreLocated}
use Rattle.winnow_script_run.proofs.runs.run_steps.Given as goal

abbrev pub invariant-loop-step : goal.invariant-loop-step
invariant-loop-step g l = record {
  valid : g.S.Stream.valid l.s;
  kept : g.S.Stream.keeps l.fn.s l.s;
  ready : AreReady g.C.ScriptSet.askable l.rest;
  done : List _;
  split : l.script ≡ done ++ l.rest;
  origin : g.S.Stream.valid_checkpoint l.origin.checkpoint;
  base : l.origin.place ≡ 0;
  placed : AreLocated (g.S.Rest.location l.fn.s)
      (run_state g.S.Stream.remained l.origin (g.S.Stream.remaining l.s) l.marks)
      (g.S.Checkpoint.Rest.location l.origin.checkpoint) (g.S.Rest.location l.s);
  stands : StandsAt (run_state g.S.Stream.remained l.origin (g.S.Stream.remaining l.s) l.marks)
      (g.S.Stream.remaining l.fn.s)
      (cursor_after (step_next (g.S.Stream.remaining l.fn.s)) done start);
  answers : AreGiven
      (IsAnswer g.C.ScriptSet.may_answer (IsSliceFrom g.S.Stream.is_slice g.S.Stream.slice_from) g.S.Stream.counts_shortage
      (g.S.Stream.remaining l.fn.s)) (step_next (g.S.Stream.remaining l.fn.s))
      done start l.answers.items;
}

abbrev pub decreases-loop-step : goal.decreases-loop-step
decreases-loop-step g l = length l.rest
