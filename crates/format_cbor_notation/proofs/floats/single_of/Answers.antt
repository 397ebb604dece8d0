use Rattle.std.proofs.Common.{rules}
use Rattle.std.proofs.lemmas.Float.{not_nan_f32_bits}
use Rattle.format_cbor_notation.proofs.floats.single_of.Goals as goal

pub float_from_bits-bits : goal.float_from_bits-bits
float_from_bits-bits c = not_nan_f32_bits c.args.bits (search rules)
