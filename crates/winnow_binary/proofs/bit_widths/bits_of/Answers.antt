use Rattle.winnow_binary.proofs.lemmas.FieldLemmas.{masked-bits}
use Rattle.winnow_binary.proofs.bit_widths.bits_of.Goals as goal

pub returns : goal.returns
returns c = masked-bits c.args.number c.args.low c.args.width c.requires.most
