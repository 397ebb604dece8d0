use Rattle.std.proofs.Common.{subst}
use Rattle.winnow_count.specs.Reading.{IsSomeExactly}
use Rattle.winnow_ascii.specs.HexUint.{ReadsText}
use Rattle.winnow_ascii.proofs.parsers.hex_uint.fn.HexUintOfParser.parse_next.verify_map.Goals as goal

pub returns : goal.returns
returns g c =
    subst (λ bytes. IsSomeExactly (ReadsText g.R.HexUint.reads bytes) c.read_bytes.result) c.as_bstr.ensures c.read_bytes.ensures
