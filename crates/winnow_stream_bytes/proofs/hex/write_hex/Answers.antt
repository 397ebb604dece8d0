use Rattle.std.proofs.Common.{Ok, take_all, refl, ap, arith}
use Rattle.std.proofs.Output.{has_written_styled_append, has_written_styled_of_eq}
use Rattle.winnow_stream_bytes.specs.Hex.{two_digits, hex_text}
use Rattle.winnow_kinds.proofs.lemmas.WriteLemmas.{WritesOnOk-from_styled, flat_map-more}
use Rattle.winnow_stream_bytes.proofs.hex.write_hex.Goals as goal

pub loop-byte-preserved : goal.loop-byte-preserved
loop-byte-preserved g c = λ flush.
    let i = c.loop-byte.byte-index in
    let before = c.loop-byte.invariant flush in
    has_written_styled_of_eq _ _ _ _ _ (flat_map-more (two_digits c.args.upper) c.args.bytes.now i c.loop-byte-test.true)
    (has_written_styled_append _ _ _ _ _ _ before (c.in_ok-write_byte.ensures before.flush refl))

pub returns-clause-styled : goal.returns-clause-styled
returns-clause-styled g c = λ flush ok.
    let whole = take_all c.loop-byte.byte-index c.args.bytes.now (omega (arith, c.loop-byte-test.false)) in
    has_written_styled_of_eq _ _ _ _ _ (ap (hex_text c.args.upper) whole) (c.loop-byte.invariant flush)

pub returns-clause-writes : goal.returns-clause-writes
returns-clause-writes g c = WritesOnOk-from_styled _ _ _ (Ok tt) _ (returns-clause-styled g c)
