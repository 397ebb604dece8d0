use Rattle.std.proofs.Common.{◌≡◌, ◌<◌, [], ◌∷◌, ◌++◌, length, refl, ap, sym, subst, arith, length-append}
use Rattle.winnow_parser.specs.Answer.{ahead, failed}
use Rattle.winnow_codec.specs.Lists.{SpellsEach}
use Rattle.winnow_codec.proofs.lemmas.Reading.{takes-both}
use Rattle.winnow_codec.proofs.lemmas.Lists.{takes-none, each-more, items-unread}
use Rattle.winnow_codec.proofs.lists.read_items.Goals as goal

pub loop-k-init : goal.loop-k-init
loop-k-init g c = record {
  valid = c.requires;
  kept = g.met.I.Stream.keeps_reflexive c.args.input.now;
  number = ap length c.new-items.ensures.items;
  read = ([], (subst (λ vs. SpellsEach (g.F.Format.spells c.args.item.now) vs []) (sym c.new-items.ensures.items) refl, takes-none _));
}

pub loop-k-preserved : goal.loop-k-preserved
loop-k-preserved g c =
    let inner = g.F.Format.spells c.args.item.now in
    let so_far = c.loop-k.invariant in
    let one = c.in-Ok.ensures.means in
    let pushed : c.push.new.self.items ≡ c.loop-k.items.items ++ c.in-Ok.value ∷ [] = c.in-Ok-push.ensures.items in
    record {
      valid = c.in-Ok.ensures.valid;
      kept = g.met.I.Stream.keeps_transitive c.args.input.now c.loop-k.input c.read.new.input so_far.kept c.in-Ok.ensures.kept;
      number = omega (arith, ap length pushed, length-append c.loop-k.items.items (c.in-Ok.value ∷ []), so_far.number);
      read = (
        so_far.read.0 ++ one.0,
        (
          subst (λ vs. SpellsEach inner vs (so_far.read.0 ++ one.0)) (sym pushed) (each-more inner c.loop-k.items.items c.in-Ok.value so_far.read.0 one.0 so_far.read.1.0 one.1.0),
          takes-both so_far.read.1.1 one.1.1,
        ),
      );
    }

pub returns-in-Err-clause-means : goal.returns-in-Err-clause-means
returns-in-Err-clause-means g c =
    let inner = g.F.Format.spells c.args.item.now in
    let so_far = c.loop-k.invariant in
    let flag = g.met.I.StreamIsPartial.keeps_flag c.args.input.now c.loop-k.input so_far.kept in
    let fewer : length c.loop-k.items.items < c.args.count = omega (arith, so_far.number, c.loop-k-test.true) in
    items-unread inner g.F.Format.same (g.met.F.Format.lawful c.args.item.now).prefix_free
    (ahead g.I.Rest.location g.I.Stream.remaining c.args.input.now) (ahead g.I.Rest.location g.I.Stream.remaining c.loop-k.input)
    c.args.count c.loop-k.items.items so_far.read.0 fewer so_far.read.1.0 so_far.read.1.1 (g.I.StreamIsPartial.expects_more c.args.input.now)
    (failed c.in-Err.failure (ahead g.I.Rest.location g.I.Stream.remaining c.read.new.input)) (rw flag at c.in-Err.ensures.means)
