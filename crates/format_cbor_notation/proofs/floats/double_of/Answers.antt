use Rattle.std.proofs.Common.{rules}
use Rattle.std.proofs.lemmas.Float.{not_nan_f64_bits}
use Rattle.format_cbor_notation.proofs.floats.double_of.Goals as goal

pub float_from_bits-result : goal.float_from_bits-result
float_from_bits-result c = not_nan_f64_bits c.args.bits (search rules)
