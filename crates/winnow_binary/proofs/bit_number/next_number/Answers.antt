use Rattle.std.proofs.Common.{arith, ap, ◌<◌, length}
use Rattle.winnow_parser.specs.Answer.{ahead}
use Rattle.winnow_binary.proofs.lemmas.ByteLemmas.{number-more, after-more}
use Rattle.winnow_binary.proofs.bit_number.next_number.Goals as goal

pub loop-taken-preserved : goal.loop-taken-preserved
loop-taken-preserved g c =
    let stands = ahead g.I.Rest.location g.I.Stream.remaining in
    let start = stands c.args.input.now in
    let so_far = c.loop-taken.invariant in
    let mid = stands c.loop-taken.input in
    let inside : c.loop-taken.taken < length start.tokens = omega (arith, c.loop-taken-test.true, c.requires.enough) in
    record {
      valid = c.next_byte-byte.ensures.valid;
      kept = g.met.I.Stream.keeps_transitive c.args.input.now c.loop-taken.input c.next_byte-byte.new.input so_far.kept c.next_byte-byte.ensures.kept;
      stands = after-more c.loop-taken.taken start mid (stands c.next_byte-byte.new.input) so_far.stands c.next_byte-byte.ensures.stands;
      number = number-more c.args.order c.loop-taken.taken start.tokens mid.tokens c.loop-taken.number c.next_byte-byte.result c.with_byte-number.result inside (ap (λ p. p.tokens) so_far.stands) so_far.number c.next_byte-byte.ensures.byte c.with_byte-number.ensures.number;
      bound = c.with_byte-number.ensures.bound;
    }
