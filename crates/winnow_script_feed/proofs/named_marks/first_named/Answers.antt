use Rattle.std.proofs.Common.{sym, ◌∙◌, arith}
use Rattle.winnow_script_feed.proofs.lemmas.NamingLemmas.{Queues-pop, least-of-queue, none-in-queue}
use Rattle.winnow_script_feed.proofs.named_marks.first_named.Goals as goal

pub returns-then-told-end-clause-finds : goal.returns-then-told-end-clause-finds
returns-then-told-end-clause-finds c = λ ends marks seen h.
    let q = c.loop-place.invariant.queues ends marks seen h in
    (q, least-of-queue ends marks c.args.told seen _ q c.in-Some.field-0 (sym c.in-Some.ensures.first) (c.in-Some.ensures.least q.order) c.if-told-end.true)

pub loop-place-preserved : goal.loop-place-preserved
loop-place-preserved c =
    let i = c.loop-place.invariant in
    record {
      queues = λ ends marks seen h.
          let q = i.queues ends marks seen h in
          Queues-pop ends marks c.args.told seen _ q c.in-Some.field-0 _ (omega (arith, c.if-told-end.false)) (c.remove_first.ensures.rest c.in-Some.field-0 (sym c.in-Some.ensures.first)) c.remove_first.ensures.order;
      capacity = c.remove_first.ensures.capacity ∙ i.capacity;
    }

pub returns-clause-finds : goal.returns-clause-finds
returns-clause-finds c = λ ends marks seen h.
    let q = c.loop-place.invariant.queues ends marks seen h in
    (q, none-in-queue ends marks c.args.told seen _ q (sym c.in_default.ensures.first))
