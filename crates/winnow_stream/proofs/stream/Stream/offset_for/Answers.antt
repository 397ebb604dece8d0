use Rattle.std.proofs.Common.{sym, ◌∙◌, ap}
use Rattle.winnow_stream.specs.Source.{first_held}
use Rattle.winnow_stream.proofs.lemmas.FirstTokenLemmas.{ahead, ahead-next, left_with-next, held-hit, held-miss, refused_same, none_refused, refused_more, refused_all, accepted}
use Rattle.winnow_stream.proofs.lemmas.OffsetLemmas.{is_offset-accepted}
use Rattle.winnow_stream.proofs.stream.Stream.offset_for.Goals as goal
use Rattle.winnow_stream.proofs.stream.Stream.offset_for.Given as given

pub loop-next-init : goal.loop-next-init
loop-next-init g c =
    let all = c.iter_offsets-items.ensures in
    let a = ahead-next g.Self.IterOffsets.Iterator.next_gives g.Self.IterOffsets.Iterator.can_next g.Self.IterOffsets.Iterator.remaining _ _ _ _ (all.items, all.can, all.ends) c.next-next.ensures.steps c.next-next.ensures.goes in
    (a.0, (a.1.1, (λ q h. ap (first_held q) a.1.0), refused_same (given.P-post g c.args.predicate) _ _ _ a.1.0 (none_refused (given.P-post g c.args.predicate) _)))

pub returns-then-predicate-clause-finds : goal.returns-then-predicate-clause-finds
returns-then-predicate-clause-finds g c =
    let i = c.loop-next.invariant in
    accepted (given.P-post g c.args.predicate) _ (c.in-Some.offset, c.in-Some.token) i.0 (rw c.in-Some.is at i.1.2) (rw (← sym c.if-predicate.true) at c.predicate.ensures)

pub returns-then-predicate-clause-offset : goal.returns-then-predicate-clause-offset
returns-then-predicate-clause-offset g c =
    let i = c.loop-next.invariant in
    let first = accepted (given.P-post g c.args.predicate) _ (c.in-Some.offset, c.in-Some.token) i.0 (rw c.in-Some.is at i.1.2) (rw (← sym c.if-predicate.true) at c.predicate.ensures) in
    is_offset-accepted (given.P-post g c.args.predicate) _ _ (g.met.Self.Stream.positive_widths _ c.requires.valid) first

pub returns-then-predicate-clause-computed : goal.returns-then-predicate-clause-computed
returns-then-predicate-clause-computed g c = λ q h.
    let i = c.loop-next.invariant in
    let later = i.0 in
    held-hit q (c.in-Some.offset, c.in-Some.token) later (sym c.if-predicate.true ∙ h _ _ c.predicate.ensures)
    ∙ ap (λ o. first_held q (ahead o later)) (sym c.in-Some.is) ∙ sym (i.1.1 q h)

pub next-next-requires-in-Some : goal.next-next-requires-in-Some
next-next-requires-in-Some g c =
    let y = rw c.in-Some.is at c.loop-next.invariant.1.0 in y.1

pub loop-next-smaller : goal.loop-next-smaller
loop-next-smaller g c =
    let y = rw c.in-Some.is at c.loop-next.invariant.1.0 in
    rw c.in-Some.is (left_with-next g.Self.IterOffsets.Iterator.can_next g.Self.IterOffsets.Iterator.remaining _ _ _ y.2 c.next-next-in-Some.ensures.goes)

pub loop-next-preserved : goal.loop-next-preserved
loop-next-preserved g c =
    let i = c.loop-next.invariant in
    let later = i.0 in
    let y = rw c.in-Some.is at i.1.0 in
    let a = ahead-next g.Self.IterOffsets.Iterator.next_gives g.Self.IterOffsets.Iterator.can_next g.Self.IterOffsets.Iterator.remaining _ _ _ _ y c.next-next-in-Some.ensures.steps c.next-next-in-Some.ensures.goes in (
      a.0,
      (
        a.1.1,
        (
            λ q h.
            i.1.1 q h ∙ ap (λ o. first_held q (ahead o later)) c.in-Some.is
            ∙ held-miss q (c.in-Some.offset, c.in-Some.token) later (sym c.if-predicate.false ∙ h _ _ c.predicate.ensures)
            ∙ ap (first_held q) a.1.0
            ),
        refused_same (given.P-post g c.args.predicate) _ _ _ a.1.0 (refused_more (given.P-post g c.args.predicate) _ (c.in-Some.offset, c.in-Some.token) later (rw c.in-Some.is at i.1.2) (rw c.if-predicate.false at c.predicate.ensures)),
      ),
    )

pub returns-clause-finds : goal.returns-clause-finds
returns-clause-finds g c = refused_all (given.P-post g c.args.predicate) _ (rw c.in_default.is at c.loop-next.invariant.1.2)

pub returns-clause-computed : goal.returns-clause-computed
returns-clause-computed g c = λ q h.
    sym (c.loop-next.invariant.1.1 q h ∙ ap (λ o. first_held q (ahead o c.loop-next.invariant.0)) c.in_default.is)
