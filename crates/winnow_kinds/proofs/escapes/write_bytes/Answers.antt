use Rattle.std.proofs.Common.{◌≡◌, ◌<◌, get_or, refl, sym, ap, subst, rules}
use Rattle.std.proofs.Output.{has_written_styled_append, has_written_styled_of_eq}
use Rattle.winnow_kinds.specs.Escapes.{escape}
use Rattle.winnow_kinds.proofs.lemmas.WriteLemmas.{flat_map-more, is_ascii-byte}
use Rattle.winnow_kinds.proofs.escapes.write_bytes.Goals as goal

pub loop-byte-preserved : goal.loop-byte-preserved
loop-byte-preserved g c = λ ascii flush.
    let bytes = c.args.bytes.now in
    let i = c.loop-byte.byte-index in
    let before = c.loop-byte.invariant ascii flush in
    let is : c.from.result ≡ get_or bytes i 0 = search rules in
    let small = subst (λ k. k < 128) (sym is) (is_ascii-byte bytes i c.loop-byte-test.true ascii) in
    let wrote = has_written_styled_of_eq _ _ _ _ _ (ap escape is) (c.in_ok-write_escaped.ensures.styled small before.flush refl) in
    has_written_styled_of_eq _ _ _ _ _ (flat_map-more escape bytes i c.loop-byte-test.true) (has_written_styled_append _ _ _ _ _ _ before wrote)
