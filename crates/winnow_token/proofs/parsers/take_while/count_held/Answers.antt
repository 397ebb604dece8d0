use Rattle.std.proofs.Common.{ap, sym, ◌∙◌, arith, take, take_all, add-one, length-append, [], ◌∷◌}
use Rattle.std.proofs.lemmas.Iterator.Consumers.{YieldsList-at}
use Rattle.winnow_stream.specs.Source.{width, held_front}
use Rattle.winnow_token.proofs.lemmas.TakeWhileCountLemmas.{next-item, no-item, held-more, cut, within-stops, within-whole}
use Rattle.winnow_token.proofs.parsers.take_while.count_held.Goals as goal

pub returns-then-not-held-clause-count : goal.returns-then-not-held-clause-count
returns-then-not-held-clause-count g c =
    let road = YieldsList-at {steps = g.I.IterOffsets.Iterator.next_gives} c.into_iter-offset-iterator.ensures.into_iter_gives (record { runs = c.iter_offsets-offset-items.ensures.items }) in
    let item = next-item (g.I.Stream.remaining c.args.input.now) road c.loop-offset.yielded c.loop-offset.offset-iterator c.loop-offset.yielded_by c.loop-offset.count c.loop-offset.invariant.counted c.next.result c.next.new.self (c.in-Some.offset, c.in-Some.token) c.in-Some.is c.next.ensures.steps in
    omega (arith, item.before_end)

pub returns-then-not-held-clause-end : goal.returns-then-not-held-clause-end
returns-then-not-held-clause-end g c =
    let road = YieldsList-at {steps = g.I.IterOffsets.Iterator.next_gives} c.into_iter-offset-iterator.ensures.into_iter_gives (record { runs = c.iter_offsets-offset-items.ensures.items }) in
    let item = next-item (g.I.Stream.remaining c.args.input.now) road c.loop-offset.yielded c.loop-offset.offset-iterator c.loop-offset.yielded_by c.loop-offset.count c.loop-offset.invariant.counted c.next.result c.next.new.self (c.in-Some.offset, c.in-Some.token) c.in-Some.is c.next.ensures.steps in
    item.place

pub returns-then-not-held-clause-held : goal.returns-then-not-held-clause-held
returns-then-not-held-clause-held g c = λ holds h.
    let road = YieldsList-at {steps = g.I.IterOffsets.Iterator.next_gives} c.into_iter-offset-iterator.ensures.into_iter_gives (record { runs = c.iter_offsets-offset-items.ensures.items }) in
    let item = next-item (g.I.Stream.remaining c.args.input.now) road c.loop-offset.yielded c.loop-offset.offset-iterator c.loop-offset.yielded_by c.loop-offset.count c.loop-offset.invariant.counted c.next.result c.next.new.self (c.in-Some.offset, c.in-Some.token) c.in-Some.is c.next.ensures.steps in
    within-stops holds _ _ _ _ c.loop-offset.invariant.within (c.loop-offset.invariant.all_held holds h) item.token (sym (h _ _ c.held.ensures) ∙ c.if-not-held.true)

pub returns-then-count-greatest-clause-count : goal.returns-then-count-greatest-clause-count
returns-then-count-greatest-clause-count g c =
    let road = YieldsList-at {steps = g.I.IterOffsets.Iterator.next_gives} c.into_iter-offset-iterator.ensures.into_iter_gives (record { runs = c.iter_offsets-offset-items.ensures.items }) in
    let item = next-item (g.I.Stream.remaining c.args.input.now) road c.loop-offset.yielded c.loop-offset.offset-iterator c.loop-offset.yielded_by c.loop-offset.count c.loop-offset.invariant.counted c.next.result c.next.new.self (c.in-Some.offset, c.in-Some.token) c.in-Some.is c.next.ensures.steps in
    omega (arith, item.before_end)

pub returns-then-count-greatest-clause-end : goal.returns-then-count-greatest-clause-end
returns-then-count-greatest-clause-end g c =
    let road = YieldsList-at {steps = g.I.IterOffsets.Iterator.next_gives} c.into_iter-offset-iterator.ensures.into_iter_gives (record { runs = c.iter_offsets-offset-items.ensures.items }) in
    let item = next-item (g.I.Stream.remaining c.args.input.now) road c.loop-offset.yielded c.loop-offset.offset-iterator c.loop-offset.yielded_by c.loop-offset.count c.loop-offset.invariant.counted c.next.result c.next.new.self (c.in-Some.offset, c.in-Some.token) c.in-Some.is c.next.ensures.steps in
    item.place

pub returns-then-count-greatest-clause-held : goal.returns-then-count-greatest-clause-held
returns-then-count-greatest-clause-held g c = λ holds h.
    cut holds (g.I.Stream.remaining c.args.input.now) c.loop-offset.count (c.loop-offset.invariant.all_held holds h) ∙ ap (λ n. take n (held_front holds (g.I.Stream.remaining c.args.input.now))) c.if-count-greatest.true

pub loop-offset-preserved : goal.loop-offset-preserved
loop-offset-preserved g c =
    let road = YieldsList-at {steps = g.I.IterOffsets.Iterator.next_gives} c.into_iter-offset-iterator.ensures.into_iter_gives (record { runs = c.iter_offsets-offset-items.ensures.items }) in
    let item = next-item (g.I.Stream.remaining c.args.input.now) road c.loop-offset.yielded c.loop-offset.offset-iterator c.loop-offset.yielded_by c.loop-offset.count c.loop-offset.invariant.counted c.next.result c.next.new.self (c.in-Some.offset, c.in-Some.token) c.in-Some.is c.next.ensures.steps in
    let goes = c.in-Some.ensures.goes.on c.loop-offset.invariant.ends in
    record {
      can = goes.0;
      ends = goes.1;
      counted = omega (arith, c.loop-offset.invariant.counted, length-append c.loop-offset.yielded ((c.in-Some.offset, c.in-Some.token) ∷ []));
      within = omega (arith, c.loop-offset.invariant.within, c.if-count-greatest.false);
      all_held = λ holds h. rw add-one (held-more holds (g.I.Stream.remaining c.args.input.now) c.loop-offset.count c.in-Some.token (c.loop-offset.invariant.all_held holds h) item.token (sym (h _ _ c.held.ensures) ∙ c.if-not-held.false));
    }

pub returns-clause-count : goal.returns-clause-count
returns-clause-count g c =
    let road = YieldsList-at {steps = g.I.IterOffsets.Iterator.next_gives} c.into_iter-offset-iterator.ensures.into_iter_gives (record { runs = c.iter_offsets-offset-items.ensures.items }) in
    let all = no-item (g.I.Stream.remaining c.args.input.now) road c.loop-offset.yielded c.loop-offset.offset-iterator c.loop-offset.yielded_by c.loop-offset.count c.loop-offset.invariant.counted c.next.result c.next.new.self c.in-None.is c.next.ensures.steps in
    omega (arith, all)

pub returns-clause-end : goal.returns-clause-end
returns-clause-end g c =
    let road = YieldsList-at {steps = g.I.IterOffsets.Iterator.next_gives} c.into_iter-offset-iterator.ensures.into_iter_gives (record { runs = c.iter_offsets-offset-items.ensures.items }) in
    let all = no-item (g.I.Stream.remaining c.args.input.now) road c.loop-offset.yielded c.loop-offset.offset-iterator c.loop-offset.yielded_by c.loop-offset.count c.loop-offset.invariant.counted c.next.result c.next.new.self c.in-None.is c.next.ensures.steps in
    c.eof_offset.ensures ∙ ap width (sym (take_all c.loop-offset.count (g.I.Stream.remaining c.args.input.now) (omega (arith, all))))

pub returns-clause-held : goal.returns-clause-held
returns-clause-held g c = λ holds h.
    let road = YieldsList-at {steps = g.I.IterOffsets.Iterator.next_gives} c.into_iter-offset-iterator.ensures.into_iter_gives (record { runs = c.iter_offsets-offset-items.ensures.items }) in
    let all = no-item (g.I.Stream.remaining c.args.input.now) road c.loop-offset.yielded c.loop-offset.offset-iterator c.loop-offset.yielded_by c.loop-offset.count c.loop-offset.invariant.counted c.next.result c.next.new.self c.in-None.is c.next.ensures.steps in
    within-whole holds _ _ _ c.loop-offset.invariant.within (omega (arith, all)) (c.loop-offset.invariant.all_held holds h)
