use Rattle.std.proofs.Common.{◌∷◌, [], ap, sym, subst, length, arith, length-append}
use Rattle.winnow_parser.specs.Answer.{ahead}
use Rattle.winnow_codec.specs.Formats.{Takes}
use Rattle.winnow_codec.proofs.lemmas.Reading.{takes-both}
use Rattle.winnow_codec.proofs.lemmas.Lists.{takes-none}
use Rattle.winnow_codec.proofs.bytes.next_bytes.Goals as goal

pub loop-k-init : goal.loop-k-init
loop-k-init g c =
    let place = ahead g.I.Rest.location g.I.Stream.remaining c.args.input.now in
    record {
      valid = c.requires.valid;
      kept = g.met.I.Stream.keeps_reflexive c.args.input.now;
      number = ap length c.in_ok-bytes.ensures.items;
      left = omega arith;
      taken = subst (λ l. Takes l place place) (sym c.in_ok-bytes.ensures.items) (takes-none place);
    }

pub loop-k-preserved : goal.loop-k-preserved
loop-k-preserved g c =
    let stands = ahead g.I.Rest.location g.I.Stream.remaining in
    let so_far = c.loop-k.invariant in
    let pushed = c.in-Ok.ensures.items in
    record {
      valid = c.one-byte.ensures.valid;
      kept = g.met.I.Stream.keeps_transitive c.args.input.now c.loop-k.input c.one-byte.new.input so_far.kept c.one-byte.ensures.kept;
      number = omega (arith, ap length pushed, length-append c.loop-k.bytes.items (c.one-byte.result ∷ []), so_far.number);
      left = omega (arith, so_far.left, c.one-byte.ensures.left);
      taken = subst (λ l. Takes l (stands c.args.input.now) (stands c.one-byte.new.input)) (sym pushed) (takes-both so_far.taken c.one-byte.ensures.taken);
    }
