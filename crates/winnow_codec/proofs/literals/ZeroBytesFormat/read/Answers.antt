use Rattle.std.proofs.Common.{◌≡◌, ◌+◌, ◌-◌, refl, suc, ap, sym, ◌∙◌, subst, arith, replicate}
use Rattle.std.proofs.lemmas.List.{replicate-append-replicate}
use Rattle.winnow_parser.specs.Answer.{ahead, failed}
use Rattle.winnow_codec.specs.Formats.{Takes}
use Rattle.winnow_codec.proofs.lemmas.Reading.{takes-both}
use Rattle.winnow_codec.proofs.lemmas.Lists.{takes-none}
use Rattle.winnow_codec.proofs.lemmas.Literals.{literal-unread}
use Rattle.winnow_codec.proofs.literals.ZeroBytesFormat.read.Goals as goal

pub loop-place-init : goal.loop-place-init
loop-place-init g c = record {
  valid = c.requires;
  kept = g.met.I.Stream.keeps_reflexive c.args.input.now;
  taken = takes-none _;
}

pub loop-place-preserved : goal.loop-place-preserved
loop-place-preserved g c =
    let stands = ahead g.I.Rest.location g.I.Stream.remaining in
    let so_far = c.loop-place.invariant in
    let one = c.in-Ok.ensures.means in
    record {
      valid = c.in-Ok.ensures.valid;
      kept = g.met.I.Stream.keeps_transitive c.args.input.now c.loop-place.input c.read.new.input so_far.kept c.in-Ok.ensures.kept;
      taken = subst (λ l. Takes l (stands c.args.input.now) (stands c.read.new.input)) (replicate-append-replicate c.loop-place._place 1 0)
          (takes-both so_far.taken (subst (λ l. Takes l (stands c.loop-place.input) (stands c.read.new.input)) one.1.0.1 one.1.1));
    }

pub returns-in-Err-clause-means : goal.returns-in-Err-clause-means
returns-in-Err-clause-means g c =
    let stands = ahead g.I.Rest.location g.I.Stream.remaining in
    let so_far = c.loop-place.invariant in
    let flag = g.met.I.StreamIsPartial.keeps_flag c.args.input.now c.loop-place.input so_far.kept in
    let count = c.args.self.now.count in
    let k = c.loop-place._place in
    let left : k + suc (count - k - 1) ≡ count = omega (arith, c.loop-place-test.true) in
    literal-unread (replicate count 0) (replicate k 0) (replicate (count - k - 1) 0) 0 (omega arith)
    (sym (replicate-append-replicate k (suc (count - k - 1)) 0 ∙ ap (λ n. replicate n 0) left))
    (stands c.args.input.now) (stands c.loop-place.input) so_far.taken (g.I.StreamIsPartial.expects_more c.args.input.now)
    (failed c.in-Err.failure (stands c.read.new.input)) (rw flag at c.in-Err.ensures.means)

pub returns-clause-means : goal.returns-clause-means
returns-clause-means g c =
    let stands = ahead g.I.Rest.location g.I.Stream.remaining in
    let all : c.loop-place._place ≡ c.args.self.now.count = omega (arith, c.loop-place-test.false) in
    (replicate c.args.self.now.count 0, (refl, subst (λ n. Takes (replicate n 0) (stands c.args.input.now) (stands c.loop-place.input)) all c.loop-place.invariant.taken))
