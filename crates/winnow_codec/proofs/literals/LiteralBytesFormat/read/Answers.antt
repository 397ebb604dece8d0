use Rattle.std.proofs.Common.{◌≡◌, ◌+◌, ◌<◌, ◌≤◌, refl, [], ◌∷◌, ◌++◌, length, take, drop, get_or, ap, sym, ◌∙◌, subst, arith, append_assoc}
use Rattle.std.proofs.lemmas.List.{take_all, take_more, take-append-drop}
use Rattle.winnow_parser.specs.Answer.{ahead, failed}
use Rattle.winnow_parser.specs.Outcome.{Fails}
use Rattle.winnow_codec.specs.Byte.{SpellsByte}
use Rattle.winnow_codec.specs.Formats.{Takes, Reads}
use Rattle.winnow_codec.specs.Known.{SpellsExactly}
use Rattle.winnow_codec.proofs.lemmas.Reading.{takes-both}
use Rattle.winnow_codec.proofs.lemmas.Lists.{takes-none}
use Rattle.winnow_codec.proofs.lemmas.Literals.{literal-unread}
use Rattle.winnow_codec.proofs.literals.LiteralBytesFormat.read.Goals as goal

pub loop-place-init : goal.loop-place-init
loop-place-init g c = record {
  valid = c.requires;
  kept = g.met.I.Stream.keeps_reflexive c.args.input.now;
  taken = takes-none _;
}

pub loop-place-preserved : goal.loop-place-preserved
loop-place-preserved g c =
    let stands = ahead g.I.Rest.location g.I.Stream.remaining in
    let so_far = c.loop-place.invariant in
    let one = c.in-Ok.ensures.means in
    let literal = c.args.self.now.bytes.now in
    let k = c.loop-place.place in
    let within : k < length literal = omega arith in
    let is : c.exactly.result.only ≡ get_or literal k 0 = ap (λ o. o.only) c.exactly.ensures in
    record {
      valid = c.in-Ok.ensures.valid;
      kept = g.met.I.Stream.keeps_transitive c.args.input.now c.loop-place.input c.read.new.input so_far.kept c.in-Ok.ensures.kept;
      taken = subst (λ l. Takes l (stands c.args.input.now) (stands c.read.new.input)) (sym (take_more literal k 0 within))
          (takes-both so_far.taken (subst (λ l. Takes l (stands c.loop-place.input) (stands c.read.new.input)) (one.1.0.1 ∙ ap (λ n. n ∷ []) is) one.1.1));
    }

pub returns-in-Err-clause-means : goal.returns-in-Err-clause-means
returns-in-Err-clause-means g c =
    let stands = ahead g.I.Rest.location g.I.Stream.remaining in
    let so_far = c.loop-place.invariant in
    let flag = g.met.I.StreamIsPartial.keeps_flag c.args.input.now c.loop-place.input so_far.kept in
    let literal = c.args.self.now.bytes.now in
    let k = c.loop-place.place in
    let within : k < length literal = omega arith in
    let next = get_or literal k 0 in
    let split : literal ≡ take k literal ++ next ∷ drop (k + 1) literal =
    sym (take-append-drop (k + 1) literal) ∙ ap (λ l. l ++ drop (k + 1) literal) (take_more literal k 0 within) ∙ append_assoc (take k literal) (next ∷ []) (drop (k + 1) literal) in
    let f = failed c.in-Err.failure (stands c.read.new.input) in
    let partial = g.I.StreamIsPartial.expects_more c.args.input.now in
    let is : c.exactly.result.only ≡ next = ap (λ o. o.only) c.exactly.ensures in
    literal-unread literal (take k literal) (drop (k + 1) literal) next (omega arith) split
    (stands c.args.input.now) (stands c.loop-place.input) so_far.taken partial f
    (subst (λ n. Reads (SpellsExactly SpellsByte n) partial (stands c.loop-place.input) (Fails f)) is (rw flag at c.in-Err.ensures.means))

pub returns-clause-means : goal.returns-clause-means
returns-clause-means g c =
    let stands = ahead g.I.Rest.location g.I.Stream.remaining in
    let literal = c.args.self.now.bytes.now in
    let k = c.loop-place.place in
    let full : length literal ≤ k = omega (arith, c.loop-place-test.false) in
    (literal, (refl, subst (λ l. Takes l (stands c.args.input.now) (stands c.loop-place.input)) (take_all k literal full) c.loop-place.invariant.taken))
