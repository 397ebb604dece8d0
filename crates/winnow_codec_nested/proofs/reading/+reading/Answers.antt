use Rattle.std.proofs.Common.{◌≡◌, ◌<◌, ◌-◌, zero, suc, [], ◌∷◌, ◌++◌, length, refl, ap, sym, subst, arith, length-append}
use Rattle.winnow_parser.specs.Answer.{ahead, failed}
use Rattle.winnow_parser.specs.Outcome.{Backtracks, Gives, Fails}
use Rattle.winnow_codec.specs.Formats.{Reads}
use Rattle.winnow_codec.specs.Lists.{SpellsEach, SpellsTimes}
use Rattle.winnow_codec.proofs.lemmas.Reading.{takes-both}
use Rattle.winnow_codec.proofs.lemmas.Lists.{takes-none, each-more}
use Rattle.winnow_codec_nested.specs.Layered.{SpellsNested, AreSameNested, IsFormat-Nested}
use Rattle.winnow_codec_nested.proofs.lemmas.Layers.{next-unread, layer-given, layer-unbegun, layer-unfinished, none-inside}
use Rattle.winnow_codec_nested.proofs.reading.+reading.Goals as goal

pub read_inners-loop-k-init : goal.read_inners-loop-k-init
read_inners-loop-k-init g t c =
    let inner = SpellsNested (g.H.Format.spells c.args.heads.now) g.L.Layered.head_of g.L.Layered.held g.L.Layered.count_after c.args.depth in
    record {
      valid = c.requires;
      kept = g.met.I.Stream.keeps_reflexive c.args.input.now;
      number = ap length c.new-values.ensures.items;
      read = ([], (subst (λ vs. SpellsEach inner vs []) (sym c.new-values.ensures.items) refl, takes-none (ahead g.I.Rest.location g.I.Stream.remaining c.args.input.now)));
    }

pub read_inners-loop-k-preserved : goal.read_inners-loop-k-preserved
read_inners-loop-k-preserved g t c =
    let inner = SpellsNested (g.H.Format.spells c.args.heads.now) g.L.Layered.head_of g.L.Layered.held g.L.Layered.count_after c.args.depth in
    let so_far = c.loop-k.invariant in
    let one = c.in-Ok.ensures.means in
    let pushed : c.push.new.self.items ≡ c.loop-k.values.items ++ c.in-Ok.value ∷ [] = c.in-Ok-push.ensures.items in
    record {
      valid = c.in-Ok.ensures.valid;
      kept = g.met.I.Stream.keeps_transitive c.args.input.now c.loop-k.input c.read_value.new.input so_far.kept c.in-Ok.ensures.kept;
      number = omega (arith, ap length pushed, length-append c.loop-k.values.items (c.in-Ok.value ∷ []), so_far.number);
      read = (
        so_far.read.0 ++ one.0,
        (
          subst (λ vs. SpellsEach inner vs (so_far.read.0 ++ one.0)) (sym pushed) (each-more inner c.loop-k.values.items c.in-Ok.value so_far.read.0 one.0 so_far.read.1.0 one.1.0),
          takes-both so_far.read.1.1 one.1.1,
        ),
      );
    }

pub read_inners-returns-in-Err-clause-means : goal.read_inners-returns-in-Err-clause-means
read_inners-returns-in-Err-clause-means g t c =
    let heads = g.H.Format.spells c.args.heads.now in
    let head_of = g.L.Layered.head_of in
    let held = g.L.Layered.held in
    let count = g.L.Layered.count_after in
    let laws = IsFormat-Nested g.H.Format.same heads head_of held count g.met.L.Layered.counts_alike (g.met.H.Format.lawful c.args.heads.now) c.args.depth in
    let so_far = c.loop-k.invariant in
    let flag = g.met.I.StreamIsPartial.keeps_flag c.args.input.now c.loop-k.input so_far.kept in
    let fewer : length c.loop-k.values.items < c.args.count = omega (arith, so_far.number, c.loop-k-test.true) in
    next-unread (SpellsNested heads head_of held count c.args.depth) (AreSameNested g.H.Format.same head_of held) laws.prefix_free
    (ahead g.I.Rest.location g.I.Stream.remaining c.args.input.now) (ahead g.I.Rest.location g.I.Stream.remaining c.loop-k.input)
    c.args.count c.loop-k.values.items so_far.read.0 fewer so_far.read.1.0 so_far.read.1.1 (g.I.StreamIsPartial.expects_more c.args.input.now)
    (failed c.in-Err.failure (ahead g.I.Rest.location g.I.Stream.remaining c.read_value.new.input)) (rw flag at c.in-Err.ensures.means)

pub read_value-returns-then-depth-eq0-clause-means :
    goal.read_value-returns-then-depth-eq0-clause-means
read_value-returns-then-depth-eq0-clause-means g t c =
    let heads = g.H.Format.spells c.args.heads.now in
    let here = ahead g.I.Rest.location g.I.Stream.remaining c.args.input.now in
    let none : c.args.depth ≡ zero = omega (arith, c.if-depth-eq0.true) in
    subst (λ n. Reads (SpellsNested heads g.L.Layered.head_of g.L.Layered.held g.L.Layered.count_after n) (g.I.StreamIsPartial.expects_more c.args.input.now) here (Fails (Backtracks here))) (sym none)
    (none-inside heads g.L.Layered.head_of g.L.Layered.held g.L.Layered.count_after (g.I.StreamIsPartial.expects_more c.args.input.now) here)

pub read_value-returns-in-Err-clause-means : goal.read_value-returns-in-Err-clause-means
read_value-returns-in-Err-clause-means g t c =
    let heads = g.H.Format.spells c.args.heads.now in
    let head_of = g.L.Layered.head_of in
    let held = g.L.Layered.held in
    let count = g.L.Layered.count_after in
    let here = ahead g.I.Rest.location g.I.Stream.remaining c.args.input.now in
    let there = ahead g.I.Rest.location g.I.Stream.remaining c.read.new.input in
    let some : c.args.depth ≡ suc (c.args.depth - 1) = omega (arith, c.if-depth-eq0.false) in
    subst (λ n. Reads (SpellsNested heads head_of held count n) (g.I.StreamIsPartial.expects_more c.args.input.now) here (Fails (failed c.in-Err.failure there))) (sym some)
    (layer-unbegun heads head_of held count (SpellsNested heads head_of held count (c.args.depth - 1)) (g.I.StreamIsPartial.expects_more c.args.input.now) here here (failed c.in-Err.failure there) c.in-Err.ensures.means)

pub read_value-returns-in-Ok-join-clause-means : goal.read_value-returns-in-Ok-join-clause-means
read_value-returns-in-Ok-join-clause-means g t c =
    let heads = g.H.Format.spells c.args.heads.now in
    let head_of = g.L.Layered.head_of in
    let held = g.L.Layered.held in
    let count = g.L.Layered.count_after in
    let partial = g.I.StreamIsPartial.expects_more c.args.input.now in
    let here = ahead g.I.Rest.location g.I.Stream.remaining c.args.input.now in
    let after = ahead g.I.Rest.location g.I.Stream.remaining c.read.new.input in
    let there = ahead g.I.Rest.location g.I.Stream.remaining c.read_inners.new.input in
    let inner = SpellsNested heads head_of held count (c.args.depth - 1) in
    let some : c.args.depth ≡ suc (c.args.depth - 1) = omega (arith, c.if-depth-eq0.false) in
    subst (λ n. Reads (SpellsNested heads head_of held count n) partial here (Gives c.in-Ok-join.value there)) (sym some)
    (layer-given heads head_of held count inner partial here after there c.in-Ok.head c.in-Ok-read_inners.inners.items c.in-Ok-join.value c.in-Ok-join.ensures.head c.in-Ok-join.ensures.held
    c.in-Ok.ensures.means (subst (λ k. Reads (SpellsTimes inner k) partial after (Gives c.in-Ok-read_inners.inners.items there)) c.count_after-count.ensures c.in-Ok-read_inners.ensures.means))

pub read_value-returns-in-Err-read_inners-clause-means :
    goal.read_value-returns-in-Err-read_inners-clause-means
read_value-returns-in-Err-read_inners-clause-means g t c =
    let heads = g.H.Format.spells c.args.heads.now in
    let head_of = g.L.Layered.head_of in
    let held = g.L.Layered.held in
    let count = g.L.Layered.count_after in
    let partial = g.I.StreamIsPartial.expects_more c.args.input.now in
    let here = ahead g.I.Rest.location g.I.Stream.remaining c.args.input.now in
    let after = ahead g.I.Rest.location g.I.Stream.remaining c.read.new.input in
    let there = ahead g.I.Rest.location g.I.Stream.remaining c.read_inners.new.input in
    let inner = SpellsNested heads head_of held count (c.args.depth - 1) in
    let flag = g.met.I.StreamIsPartial.keeps_flag c.args.input.now c.read.new.input c.in-Ok.ensures.kept in
    let failure = failed c.in-Err-read_inners.failure there in
    let some : c.args.depth ≡ suc (c.args.depth - 1) = omega (arith, c.if-depth-eq0.false) in
    subst (λ n. Reads (SpellsNested heads head_of held count n) partial here (Fails failure)) (sym some)
    (layer-unfinished heads head_of held count inner partial here after g.H.Format.same g.met.L.Layered.counts_alike (g.met.H.Format.lawful c.args.heads.now).prefix_free c.in-Ok.head failure
    c.in-Ok.ensures.means (subst (λ k. Reads (SpellsTimes inner k) partial after (Fails failure)) c.count_after-count.ensures (rw flag at c.in-Err-read_inners.ensures.means)))
