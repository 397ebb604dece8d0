use Rattle.std.proofs.Common.{arith, ◌<◌, length}
use Rattle.winnow_binary.proofs.lemmas.FieldLemmas.{below-field}
use Rattle.winnow_binary.proofs.bit_widths.fields_down.Goals as goal

pub bits_of-requires-clause-low : goal.bits_of-requires-clause-low
bits_of-requires-clause-low g c =
    let inside : c.loop-i.i < length c.args.widths.now = omega arith in
    let below = below-field c.args.widths.now c.loop-i.i c.requires.fill inside in
    omega (arith, below)
