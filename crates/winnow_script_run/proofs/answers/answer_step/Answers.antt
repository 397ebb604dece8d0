use Rattle.std.proofs.lemmas.Result.{IfOk-from_err}
use Rattle.std.proofs.Common.{◌-◌, ◌≤◌, arith, refl, sym, ◌∙◌, ap, Ok}
use Rattle.winnow_script_run.specs.declared.script.Answer.TheVariants.{Token, At, Flag, First, Marked, Offset}
use Rattle.std.specs.declared.alloc.AllocError.{AllocError}
use Rattle.winnow_stream.specs.Source.{offsets, width, first_token, first_offset}
use Rattle.winnow_stream.specs.Front.{back, is_offset}
use Rattle.winnow_stream.specs.SliceFrom.{IsSliceFrom}
use Rattle.winnow_stream.specs.Shortage.{offset_at}
use Rattle.winnow_stream.specs.Location.{location_behind}
use Rattle.std.proofs.lemmas.Iterator.{YieldsList, items_from_collect}
use Rattle.winnow_stream.proofs.lemmas.FrontLemmas.{width-take_drop, width-back}
use Rattle.winnow_script_run.proofs.lemmas.AnswerStepLemmas.{slice-front, slice-whole, items-place, count-marks, taken, not-taken, end-later, place-here, mark-found, mark-missing, later-mark, earlier-mark, mark-width, mark-offset, placed-on, placed-reset, stands-next, stands-take, stands-end, stands-not_taken, stands-mark, stands-reset, stands-unmarked}
use Rattle.winnow_script_run.proofs.answers.answer_step.Goals as goal

pub returns-in-Next-clause-step : goal.returns-in-Next-clause-step
returns-in-Next-clause-step g c = record {
  answer = λ all cur h q p. rw c.in-Next.is (ap Token (c.next_token.ensures.answer ∙ ap first_token h.rest));
  stands =
      λ all cur h.
      rw c.in-Next.is (stands-next _ all cur h _ c.next_token.ensures.remains);
  located =
      λ whole q.
      let s = c.requires.stands.0 in
      let r = g.S.Stream.remaining c.args.s.now in
      placed-on _ _ _ s.2 whole _ _ _ _ _ (omega (arith, ap width c.next_token.ensures.remains, width-take_drop r 1)) c.next_token.ensures.location q;
}

pub returns-then-is_offset-clause-step : goal.returns-then-is_offset-clause-step
returns-then-is_offset-clause-step g c = record {
  answer =
      λ all cur h q p.
      let b = taken _ all cur h c.in-Take.offset _ c.is_offset.ensures c.if-is_offset.true in
      rw c.in-Take.is (rw b (c.next_slice.result, refl, slice-front _ all cur h (IsSliceFrom g.S.Stream.is_slice g.S.Stream.slice_from) c.in-Take.offset _ (c.next_slice.ensures.answer, c.next_slice.ensures.from)));
  stands =
      λ all cur h.
      rw c.in-Take.is (stands-take _ all cur h c.in-Take.offset _ c.next_slice.ensures.remains);
  located =
      λ whole q.
      let s = c.requires.stands.0 in
      let r = g.S.Stream.remaining c.args.s.now in
      placed-on _ _ _ s.2 whole _ _ _ _ _ (omega (arith, ap width c.next_slice.ensures.remains, width-back r c.in-Take.offset (sym c.is_offset.ensures ∙ c.if-is_offset.true))) c.next_slice.ensures.location q;
}

pub returns-else-is_offset-clause-step : goal.returns-else-is_offset-clause-step
returns-else-is_offset-clause-step g c = record {
  answer =
      λ all cur h q p.
      rw c.in-Take.is (rw (not-taken _ all cur h c.in-Take.offset _ c.is_offset.ensures c.if-is_offset.false) refl);
  stands =
      λ all cur h.
      rw c.in-Take.is (stands-not_taken _ all cur h c.in-Take.offset (not-taken _ all cur h c.in-Take.offset _ c.is_offset.ensures c.if-is_offset.false));
  located = λ whole q. q;
}

pub returns-then-is_offset-2-clause-step : goal.returns-then-is_offset-2-clause-step
returns-then-is_offset-2-clause-step g c = record {
  answer =
      λ all cur h q p.
      let b = taken _ all cur h c.in-Look.offset _ c.is_offset-in-Look.ensures c.if-is_offset-2.true in
      rw c.in-Look.is (rw b (c.peek_slice.result, refl, slice-front _ all cur h (IsSliceFrom g.S.Stream.is_slice g.S.Stream.slice_from) c.in-Look.offset _ (c.peek_slice.ensures.answer, c.peek_slice.ensures.from)));
  stands = λ all cur h. rw c.in-Look.is h;
  located = λ whole q. q;
}

pub returns-else-is_offset-2-clause-step : goal.returns-else-is_offset-2-clause-step
returns-else-is_offset-2-clause-step g c = record {
  answer =
      λ all cur h q p.
      rw c.in-Look.is (rw (not-taken _ all cur h c.in-Look.offset _ c.is_offset-in-Look.ensures c.if-is_offset-2.false) refl);
  stands = λ all cur h. rw c.in-Look.is h;
  located = λ whole q. q;
}

pub returns-in-Finish-clause-step : goal.returns-in-Finish-clause-step
returns-in-Finish-clause-step g c = record {
  answer =
      λ all cur h q p.
      rw c.in-Finish.is (c.finish.result, refl, slice-whole _ all cur h (IsSliceFrom g.S.Stream.is_slice g.S.Stream.slice_from) _ (c.finish.ensures.answer, c.finish.ensures.from));
  stands = λ all cur h. rw c.in-Finish.is (stands-end _ all cur h _ c.finish.ensures.remains);
  located =
      λ whole q.
      let s = c.requires.stands.0 in
      placed-on _ _ _ s.2 whole _ _ _ _ _ (omega (arith, ap width c.finish.ensures.remains)) c.finish.ensures.location q;
}

pub returns-in-PeekFinish-clause-step : goal.returns-in-PeekFinish-clause-step
returns-in-PeekFinish-clause-step g c = record {
  answer =
      λ all cur h q p.
      rw c.in-PeekFinish.is (c.peek_finish.result, refl, slice-whole _ all cur h (IsSliceFrom g.S.Stream.is_slice g.S.Stream.slice_from) _ (c.peek_finish.ensures.answer, c.peek_finish.ensures.from));
  stands = λ all cur h. rw c.in-PeekFinish.is h;
  located = λ whole q. q;
}

pub returns-in_ok-collect-in-Each-clause-step : goal.returns-in_ok-collect-in-Each-clause-step
returns-in_ok-collect-in-Each-clause-step g c = record {
  answer =
      λ all cur h q p.
      let road : YieldsList g.S.IterOffsets.Iterator.next_gives (λ x. x) c.iter_offsets.result (offsets (g.S.Stream.remaining c.args.s.now)) = record { runs = c.iter_offsets.ensures.items } in
      let e = items_from_collect {E = AllocError} (Ok c.in_ok-collect-in-Each.field-0) c.in_ok-collect-in-Each.ensures.ran road in
      rw c.in-Each.is (c.in_ok-collect-in-Each.field-0, refl, items-place _ all cur h _ e);
  stands = λ all cur h. rw c.in-Each.is h;
  located = λ whole q. q;
}

pub returns-in_ok-push-in-Mark-clause-step : goal.returns-in_ok-push-in-Mark-clause-step
returns-in_ok-push-in-Mark-clause-step g c = record {
  answer =
      λ all cur h q p.
      rw c.in-Mark.is (ap Marked (c.count-number.ensures ∙ count-marks _ all cur h));
  stands =
      λ all cur h.
      let p = ap (λ n. c.args.origin.now.end - n) c.eof_offset-in-Mark.ensures ∙ place-here _ all cur h in
      rw c.in-Mark.is (stands-mark _ all cur h (c.args.origin.now.end - c.eof_offset-in-Mark.result) _ p c.in_ok-push-in-Mark.ensures.ok);
  located = λ whole q. q;
}

pub returns-in-Some-clause-step : goal.returns-in-Some-clause-step
returns-in-Some-clause-step g c = record {
  answer =
      λ all cur h q p.
      let i = mark-found _ all cur h c.in-Reset.number c.in-Some.place (sym c.place.ensures ∙ c.in-Some.is) in
      rw c.in-Reset.is (rw i.1.0 refl);
  stands =
      λ all cur h.
      let f = sym c.place.ensures ∙ c.in-Some.is in
      let r = rw c.in-Reset.is at c.requires.stands.1 in
      let l : c.args.origin.now.place ≤ c.in-Some.place = rw f at r in
      let e = c.next_slice-in-Some.ensures.remains ∙ ap (λ x. back x (c.in-Some.place - c.args.origin.now.place)) c.reset.ensures.remains in
      rw c.in-Reset.is (stands-reset _ all cur h c.in-Reset.number c.in-Some.place _ f l e);
  located =
      λ whole q.
      let s = c.requires.stands.0 in
      let f = sym c.place.ensures ∙ c.in-Some.is in
      let r = rw c.in-Reset.is at c.requires.stands.1 in
      let l : c.args.origin.now.place ≤ c.in-Some.place = rw f at r in
      let n = c.in-Some.place - c.args.origin.now.place in
      let e = c.next_slice-in-Some.ensures.remains ∙ ap (λ x. back x n) c.reset.ensures.remains in
      let p = c.next_slice-in-Some.ensures.location ∙ ap (λ v. location_behind v n) c.reset.ensures.location in
      placed-reset _ _ _ s.2 whole _ _ _ _ c.in-Reset.number c.in-Some.place f l e p q;
}

pub returns-in-None-clause-step : goal.returns-in-None-clause-step
returns-in-None-clause-step g c = record {
  answer =
      λ all cur h q p.
      rw c.in-Reset.is (rw (mark-missing _ all cur h c.in-Reset.number (sym c.place.ensures ∙ c.in-None.is)) refl);
  stands =
      λ all cur h.
      rw c.in-Reset.is (stands-unmarked _ all cur h c.in-Reset.number (sym c.place.ensures ∙ c.in-None.is));
  located = λ whole q. q;
}

pub returns-then-place-mark-clause-step : goal.returns-then-place-mark-clause-step
returns-then-place-mark-clause-step g c = record {
  answer =
      λ all cur h q p.
      let i = mark-found _ all cur h c.in-Since.number c.in-Some-place.mark (sym c.place-in-Since.ensures ∙ c.in-Some-place.is) in
      let e = ap (λ n. c.args.origin.now.end - n) c.eof_offset-in-Some-place.ensures ∙ place-here _ all cur h in
      let l = later-mark _ all cur h c.in-Some-place.mark i.0 i.1.1 (omega (arith, e)) in
      rw c.in-Since.is (rw i.1.0 (rw l refl));
  stands = λ all cur h. rw c.in-Since.is h;
  located = λ whole q. q;
}

pub returns-else-place-mark-clause-step : goal.returns-else-place-mark-clause-step
returns-else-place-mark-clause-step g c = record {
  answer =
      λ all cur h q p.
      let i = mark-found _ all cur h c.in-Since.number c.in-Some-place.mark (sym c.place-in-Since.ensures ∙ c.in-Some-place.is) in
      let e = ap (λ n. c.args.origin.now.end - n) c.eof_offset-in-Some-place.ensures ∙ place-here _ all cur h in
      let l = earlier-mark _ all cur h c.in-Some-place.mark i.0 i.1.1 (omega (arith, e)) in
      rw c.in-Since.is (rw i.1.0 (rw l (ap Offset (ap (λ n. n - c.in-Some-place.mark) e ∙ mark-width _ all cur h c.in-Some-place.mark i.0 i.1.1))));
  stands = λ all cur h. rw c.in-Since.is h;
  located = λ whole q. q;
}

pub returns-in-None-place-clause-step : goal.returns-in-None-place-clause-step
returns-in-None-place-clause-step g c = record {
  answer =
      λ all cur h q p.
      rw c.in-Since.is (rw (mark-missing _ all cur h c.in-Since.number (sym c.place-in-Since.ensures ∙ c.in-None-place.is)) refl);
  stands = λ all cur h. rw c.in-Since.is h;
  located = λ whole q. q;
}

pub returns-in-Peek-clause-step : goal.returns-in-Peek-clause-step
returns-in-Peek-clause-step g c = record {
  answer = λ all cur h q p. rw c.in-Peek.is (ap Token (c.peek_token.ensures ∙ ap first_token h.rest));
  stands = λ all cur h. rw c.in-Peek.is h;
  located = λ whole q. q;
}

pub returns-in-Eof-clause-step : goal.returns-in-Eof-clause-step
returns-in-Eof-clause-step g c = record {
  answer = λ all cur h q p. rw c.in-Eof.is (ap Offset (c.eof_offset.ensures ∙ ap width h.rest));
  stands = λ all cur h. rw c.in-Eof.is h;
  located = λ whole q. q;
}

pub returns-in-At-clause-step : goal.returns-in-At-clause-step
returns-in-At-clause-step g c = record {
  answer = λ all cur h q p. rw c.in-At.is (ap At (c.offset_at.ensures ∙ ap (λ r. offset_at g.S.Stream.counts_shortage r c.in-At.tokens) h.rest));
  stands = λ all cur h. rw c.in-At.is h;
  located = λ whole q. q;
}

pub returns-in-IsOffset-clause-step : goal.returns-in-IsOffset-clause-step
returns-in-IsOffset-clause-step g c = record {
  answer = λ all cur h q p. rw c.in-IsOffset.is (ap Flag (c.is_offset-in-IsOffset.ensures ∙ ap (λ r. is_offset r c.in-IsOffset.offset) h.rest));
  stands = λ all cur h. rw c.in-IsOffset.is h;
  located = λ whole q. q;
}

pub returns-in-First-clause-step : goal.returns-in-First-clause-step
returns-in-First-clause-step g c = record {
  answer = λ all cur h q p. rw c.in-First.is (ap First (c.first_of.ensures (q c.in-First.set) (rw c.in-First.is at p) ∙ ap (first_offset (q c.in-First.set)) h.rest));
  stands = λ all cur h. rw c.in-First.is h;
  located = λ whole q. q;
}

pub returns-in_err-collect-in-Each-clause-step : goal.returns-in_err-collect-in-Each-clause-step
returns-in_err-collect-in-Each-clause-step g c = IfOk-from_err _ _ c.from_residual.ensures.0

pub returns-in_err-push-in-Mark-clause-step : goal.returns-in_err-push-in-Mark-clause-step
returns-in_err-push-in-Mark-clause-step g c = IfOk-from_err _ _ c.from_residual-in_err-push-in-Mark.ensures.0

pub overflow_sub-origin : goal.overflow_sub-origin
overflow_sub-origin g c = let s = c.requires.stands.0 in omega (arith, end-later _ _ _ s.2)

pub overflow_sub-place : goal.overflow_sub-place
overflow_sub-place g c =
    let f = sym c.place.ensures ∙ c.in-Some.is in
    let r = rw c.in-Reset.is at c.requires.stands.1 in
    let l : c.args.origin.now.place ≤ c.in-Some.place = rw f at r in
    l

pub next_slice-requires-in-Some-clause-offset : goal.next_slice-requires-in-Some-clause-offset
next_slice-requires-in-Some-clause-offset g c =
    let f = sym c.place.ensures ∙ c.in-Some.is in
    let r = rw c.in-Reset.is at c.requires.stands.1 in
    let l : c.args.origin.now.place ≤ c.in-Some.place = rw f at r in
    let s = c.requires.stands.0 in
    let i = mark-found _ _ _ s.2 c.in-Reset.number c.in-Some.place f in
    rw c.reset.ensures.remains (mark-offset _ _ _ s.2 c.in-Some.place i.0 i.1.1 l)

pub overflow_sub-place-in-Some-place : goal.overflow_sub-place-in-Some-place
overflow_sub-place-in-Some-place g c = let s = c.requires.stands.0 in omega (arith, end-later _ _ _ s.2)

pub returns-in-Peek-clause-valid : goal.returns-in-Peek-clause-valid
returns-in-Peek-clause-valid g c = c.requires.valid.0

pub returns-in-Peek-clause-kept : goal.returns-in-Peek-clause-kept
returns-in-Peek-clause-kept g c = g.met.S.Stream.keeps_reflexive _

pub returns-else-is_offset-clause-valid : goal.returns-else-is_offset-clause-valid
returns-else-is_offset-clause-valid g c = c.requires.valid.0

pub returns-else-is_offset-clause-kept : goal.returns-else-is_offset-clause-kept
returns-else-is_offset-clause-kept g c = g.met.S.Stream.keeps_reflexive _

pub returns-then-is_offset-2-clause-valid : goal.returns-then-is_offset-2-clause-valid
returns-then-is_offset-2-clause-valid g c = c.requires.valid.0

pub returns-then-is_offset-2-clause-kept : goal.returns-then-is_offset-2-clause-kept
returns-then-is_offset-2-clause-kept g c = g.met.S.Stream.keeps_reflexive _

pub returns-else-is_offset-2-clause-valid : goal.returns-else-is_offset-2-clause-valid
returns-else-is_offset-2-clause-valid g c = c.requires.valid.0

pub returns-else-is_offset-2-clause-kept : goal.returns-else-is_offset-2-clause-kept
returns-else-is_offset-2-clause-kept g c = g.met.S.Stream.keeps_reflexive _

pub returns-in-PeekFinish-clause-valid : goal.returns-in-PeekFinish-clause-valid
returns-in-PeekFinish-clause-valid g c = c.requires.valid.0

pub returns-in-PeekFinish-clause-kept : goal.returns-in-PeekFinish-clause-kept
returns-in-PeekFinish-clause-kept g c = g.met.S.Stream.keeps_reflexive _

pub returns-in-Eof-clause-valid : goal.returns-in-Eof-clause-valid
returns-in-Eof-clause-valid g c = c.requires.valid.0

pub returns-in-Eof-clause-kept : goal.returns-in-Eof-clause-kept
returns-in-Eof-clause-kept g c = g.met.S.Stream.keeps_reflexive _

pub returns-in-At-clause-valid : goal.returns-in-At-clause-valid
returns-in-At-clause-valid g c = c.requires.valid.0

pub returns-in-At-clause-kept : goal.returns-in-At-clause-kept
returns-in-At-clause-kept g c = g.met.S.Stream.keeps_reflexive _

pub returns-in-IsOffset-clause-valid : goal.returns-in-IsOffset-clause-valid
returns-in-IsOffset-clause-valid g c = c.requires.valid.0

pub returns-in-IsOffset-clause-kept : goal.returns-in-IsOffset-clause-kept
returns-in-IsOffset-clause-kept g c = g.met.S.Stream.keeps_reflexive _

pub returns-in-First-clause-valid : goal.returns-in-First-clause-valid
returns-in-First-clause-valid g c = c.requires.valid.0

pub returns-in-First-clause-kept : goal.returns-in-First-clause-kept
returns-in-First-clause-kept g c = g.met.S.Stream.keeps_reflexive _

pub returns-in_ok-collect-in-Each-clause-valid : goal.returns-in_ok-collect-in-Each-clause-valid
returns-in_ok-collect-in-Each-clause-valid g c = c.requires.valid.0

pub returns-in_ok-collect-in-Each-clause-kept : goal.returns-in_ok-collect-in-Each-clause-kept
returns-in_ok-collect-in-Each-clause-kept g c = g.met.S.Stream.keeps_reflexive _

pub returns-in_err-collect-in-Each-clause-valid : goal.returns-in_err-collect-in-Each-clause-valid
returns-in_err-collect-in-Each-clause-valid g c = c.requires.valid.0

pub returns-in_err-collect-in-Each-clause-kept : goal.returns-in_err-collect-in-Each-clause-kept
returns-in_err-collect-in-Each-clause-kept g c = g.met.S.Stream.keeps_reflexive _

pub returns-in_ok-push-in-Mark-clause-valid : goal.returns-in_ok-push-in-Mark-clause-valid
returns-in_ok-push-in-Mark-clause-valid g c = c.requires.valid.0

pub returns-in_ok-push-in-Mark-clause-kept : goal.returns-in_ok-push-in-Mark-clause-kept
returns-in_ok-push-in-Mark-clause-kept g c = g.met.S.Stream.keeps_reflexive _

pub returns-in_err-push-in-Mark-clause-valid : goal.returns-in_err-push-in-Mark-clause-valid
returns-in_err-push-in-Mark-clause-valid g c = c.requires.valid.0

pub returns-in_err-push-in-Mark-clause-kept : goal.returns-in_err-push-in-Mark-clause-kept
returns-in_err-push-in-Mark-clause-kept g c = g.met.S.Stream.keeps_reflexive _

pub returns-in-None-clause-valid : goal.returns-in-None-clause-valid
returns-in-None-clause-valid g c = c.requires.valid.0

pub returns-in-None-clause-kept : goal.returns-in-None-clause-kept
returns-in-None-clause-kept g c = g.met.S.Stream.keeps_reflexive _

pub returns-then-place-mark-clause-valid : goal.returns-then-place-mark-clause-valid
returns-then-place-mark-clause-valid g c = c.requires.valid.0

pub returns-then-place-mark-clause-kept : goal.returns-then-place-mark-clause-kept
returns-then-place-mark-clause-kept g c = g.met.S.Stream.keeps_reflexive _

pub returns-else-place-mark-clause-valid : goal.returns-else-place-mark-clause-valid
returns-else-place-mark-clause-valid g c = c.requires.valid.0

pub returns-else-place-mark-clause-kept : goal.returns-else-place-mark-clause-kept
returns-else-place-mark-clause-kept g c = g.met.S.Stream.keeps_reflexive _

pub returns-in-None-place-clause-valid : goal.returns-in-None-place-clause-valid
returns-in-None-place-clause-valid g c = c.requires.valid.0

pub returns-in-None-place-clause-kept : goal.returns-in-None-place-clause-kept
returns-in-None-place-clause-kept g c = g.met.S.Stream.keeps_reflexive _

pub returns-in-Next-clause-valid : goal.returns-in-Next-clause-valid
returns-in-Next-clause-valid g c = c.next_token.ensures.valid

pub returns-in-Next-clause-kept : goal.returns-in-Next-clause-kept
returns-in-Next-clause-kept g c = c.next_token.ensures.kept

pub returns-then-is_offset-clause-valid : goal.returns-then-is_offset-clause-valid
returns-then-is_offset-clause-valid g c = c.next_slice.ensures.valid

pub returns-then-is_offset-clause-kept : goal.returns-then-is_offset-clause-kept
returns-then-is_offset-clause-kept g c = c.next_slice.ensures.kept

pub returns-in-Finish-clause-valid : goal.returns-in-Finish-clause-valid
returns-in-Finish-clause-valid g c = c.finish.ensures.valid

pub returns-in-Finish-clause-kept : goal.returns-in-Finish-clause-kept
returns-in-Finish-clause-kept g c = c.finish.ensures.kept

pub returns-in-Some-clause-valid : goal.returns-in-Some-clause-valid
returns-in-Some-clause-valid g c = c.next_slice-in-Some.ensures.valid

pub returns-in-Some-clause-kept : goal.returns-in-Some-clause-kept
returns-in-Some-clause-kept g c = g.met.S.Stream.keeps_transitive _ _ _ c.reset.ensures.kept c.next_slice-in-Some.ensures.kept
