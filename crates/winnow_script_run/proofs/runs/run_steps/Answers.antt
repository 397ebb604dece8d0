use Rattle.std.proofs.Common.{◌≡◌, ◌-◌, [], ◌∷◌, ◌++◌, refl, sym, ◌∙◌, ap, subst, arith}
use Rattle.std.proofs.lemmas.List.{append_assoc, append-nil, nil_from_length}
use Rattle.std.proofs.lemmas.List.Elements.{All-head, All-tail}
use Rattle.std.proofs.lemmas.Result.{IfOk-from_err}
use Rattle.std.specs.List.{All}
use Rattle.winnow_stream.specs.Source.{width}
use Rattle.winnow_stream.specs.Cursor.{start}
use Rattle.winnow_stream.specs.Location.{location_behind}
use Rattle.winnow_stream.specs.SliceFrom.{IsSliceFrom}
use Rattle.winnow_script_run.specs.Script.{step_next, IsReady, IsAnswer}
use Rattle.winnow_script_run.proofs.lemmas.AnswerStepLemmas.{behind-none, reach-start}
use Rattle.winnow_script_run.proofs.lemmas.ScriptLemmas.{cursor-append, AreGiven-append, later-shorter}
use Rattle.winnow_script_run.proofs.runs.run_steps.Goals as goal

pub loop-step-init : goal.loop-step-init
loop-step-init g c =
    let base : c.new-origin.result.place ≡ 0 = omega (arith, c.new-origin.ensures.place, c.eof_offset.ensures) in
    let end : c.new-origin.result.end ≡ width (g.S.Stream.remaining c.args.s.now) = c.new-origin.ensures.end ∙ c.eof_offset.ensures in
    record {
      valid = c.requires.valid;
      kept = g.met.S.Stream.keeps_reflexive _;
      ready = c.requires.ready;
      done = [];
      split = refl;
      origin = c.new-origin.ensures.valid;
      base = base;
      placed = (
        c.new-origin.ensures.located ∙ behind-none _ _ base,
        behind-none _ (c.new-origin.result.end - width (g.S.Stream.remaining c.args.s.now)) (omega (arith, end)),
      );
      stands = record {
        widths = g.met.S.Stream.positive_widths _ c.requires.valid;
        rest = refl;
        within = omega arith;
        marks = rw c.new-marks.ensures tt;
        end = end;
        first = 0;
        base = base;
        origin = c.new-origin.ensures.means;
        first_within = omega arith;
      };
      answers = rw c.in_ok-answers.ensures.items tt;
    }

pub answer_step-requires-clause-ready : goal.answer_step-requires-clause-ready
answer_step-requires-clause-ready g c =
    All-head (IsReady g.C.ScriptSet.askable) c.in-Some.step.now c.in-Some.later.now (subst (All (IsReady g.C.ScriptSet.askable)) c.in-Some.ensures.cases.0 c.loop-step.invariant.ready)

pub returns-in_err-answer-clause-kept : goal.returns-in_err-answer-clause-kept
returns-in_err-answer-clause-kept g c = g.met.S.Stream.keeps_transitive _ _ _ c.loop-step.invariant.kept c.answer_step.ensures.kept

pub returns-in_err-push-clause-kept : goal.returns-in_err-push-clause-kept
returns-in_err-push-clause-kept g c = g.met.S.Stream.keeps_transitive _ _ _ c.loop-step.invariant.kept c.answer_step.ensures.kept

pub loop-step-preserved : goal.loop-step-preserved
loop-step-preserved g c =
    let all = g.S.Stream.remaining c.args.s.now in
    let i = c.loop-step.invariant in
    let e : c.loop-step.rest.now ≡ c.in-Some.step.now ∷ c.in-Some.later.now = c.in-Some.ensures.cases.0 in
    record {
      valid = c.answer_step.ensures.valid;
      origin = i.origin;
      base = i.base;
      placed = c.in_ok-answer.ensures.step.located _ i.placed;
      kept = g.met.S.Stream.keeps_transitive _ _ _ i.kept c.answer_step.ensures.kept;
      ready = All-tail (IsReady g.C.ScriptSet.askable) c.in-Some.step.now c.in-Some.later.now (subst (All (IsReady g.C.ScriptSet.askable)) e i.ready);
      done = i.done ++ c.in-Some.step.now ∷ [];
      split = i.split ∙ ap (λ xs. i.done ++ xs) e ∙ sym (append_assoc i.done (c.in-Some.step.now ∷ []) c.in-Some.later.now);
      stands = rw (cursor-append (step_next all) i.done c.in-Some.step.now start) (c.in_ok-answer.ensures.step.stands _ _ i.stands);
      answers =
          rw c.in_ok-push.ensures.items
          (AreGiven-append (IsAnswer g.C.ScriptSet.may_answer (IsSliceFrom g.S.Stream.is_slice g.S.Stream.slice_from) g.S.Stream.counts_shortage all) (step_next all) i.done start _ c.in-Some.step.now _ i.answers (c.in_ok-answer.ensures.step.answer _ _ i.stands));
    }

pub returns-clause-slices : goal.returns-clause-slices
returns-clause-slices g c =
    let i = c.loop-step.invariant in
    let e : c.args.script.now ≡ i.done = i.split ∙ ap (λ xs. i.done ++ xs) (nil_from_length _ c.in_default.ensures.cases) ∙ append-nil i.done in
    rw e i.answers

pub returns-clause-remains : goal.returns-clause-remains
returns-clause-remains g c =
    let i = c.loop-step.invariant in
    let e : c.args.script.now ≡ i.done = i.split ∙ ap (λ xs. i.done ++ xs) (nil_from_length _ c.in_default.ensures.cases) ∙ append-nil i.done in
    rw e i.stands.rest

pub returns-clause-location : goal.returns-clause-location
returns-clause-location g c =
    let i = c.loop-step.invariant in
    i.placed.1 ∙ ap (λ n. location_behind (g.S.Rest.location c.args.s.now) (n - width (g.S.Stream.remaining c.loop-step.s))) i.stands.end

pub answer_step-requires-clause-valid : goal.answer_step-requires-clause-valid
answer_step-requires-clause-valid g c = (c.loop-step.invariant.valid, c.loop-step.invariant.origin)

pub answer_step-requires-clause-stands : goal.answer_step-requires-clause-stands
answer_step-requires-clause-stands g c = ((_, _, c.loop-step.invariant.stands), reach-start c.in-Some.step.now _ c.loop-step.invariant.base)

pub loop-step-smaller : goal.loop-step-smaller
loop-step-smaller g c = later-shorter c.in-Some.step.now _ _ c.in-Some.ensures.cases.0

pub returns-in_err-answers-clause-slices : goal.returns-in_err-answers-clause-slices
returns-in_err-answers-clause-slices g c = IfOk-from_err _ _ c.from_residual.ensures.0

pub returns-in_err-answers-clause-remains : goal.returns-in_err-answers-clause-remains
returns-in_err-answers-clause-remains g c = IfOk-from_err _ _ c.from_residual.ensures.0

pub returns-in_err-answers-clause-location : goal.returns-in_err-answers-clause-location
returns-in_err-answers-clause-location g c = IfOk-from_err _ _ c.from_residual.ensures.0

pub returns-in_err-answers-clause-valid : goal.returns-in_err-answers-clause-valid
returns-in_err-answers-clause-valid g c = c.requires.valid

pub returns-in_err-answers-clause-kept : goal.returns-in_err-answers-clause-kept
returns-in_err-answers-clause-kept g c = g.met.S.Stream.keeps_reflexive _

pub returns-in_err-answer-clause-slices : goal.returns-in_err-answer-clause-slices
returns-in_err-answer-clause-slices g c = IfOk-from_err _ _ c.from_residual-in_err-answer.ensures.0

pub returns-in_err-answer-clause-remains : goal.returns-in_err-answer-clause-remains
returns-in_err-answer-clause-remains g c = IfOk-from_err _ _ c.from_residual-in_err-answer.ensures.0

pub returns-in_err-answer-clause-location : goal.returns-in_err-answer-clause-location
returns-in_err-answer-clause-location g c = IfOk-from_err _ _ c.from_residual-in_err-answer.ensures.0

pub returns-in_err-answer-clause-valid : goal.returns-in_err-answer-clause-valid
returns-in_err-answer-clause-valid g c = c.answer_step.ensures.valid

pub returns-in_err-push-clause-slices : goal.returns-in_err-push-clause-slices
returns-in_err-push-clause-slices g c = IfOk-from_err _ _ c.from_residual-in_err-push.ensures.0

pub returns-in_err-push-clause-remains : goal.returns-in_err-push-clause-remains
returns-in_err-push-clause-remains g c = IfOk-from_err _ _ c.from_residual-in_err-push.ensures.0

pub returns-in_err-push-clause-location : goal.returns-in_err-push-clause-location
returns-in_err-push-clause-location g c = IfOk-from_err _ _ c.from_residual-in_err-push.ensures.0

pub returns-in_err-push-clause-valid : goal.returns-in_err-push-clause-valid
returns-in_err-push-clause-valid g c = c.answer_step.ensures.valid

pub returns-clause-valid : goal.returns-clause-valid
returns-clause-valid g c = c.loop-step.invariant.valid

pub returns-clause-kept : goal.returns-clause-kept
returns-clause-kept g c = c.loop-step.invariant.kept
