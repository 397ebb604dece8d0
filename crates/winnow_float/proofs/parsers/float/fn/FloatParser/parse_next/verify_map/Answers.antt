use Rattle.std.proofs.Common.{subst}
use Rattle.winnow_float.specs.Float.{IsReadAs}
use Rattle.winnow_float.proofs.parsers.float.fn.FloatParser.parse_next.verify_map.Goals as goal

pub returns : goal.returns
returns g c =
    subst (λ bytes. IsReadAs g.R.RawFloat.format g.R.RawFloat.value bytes c.read_float.result) c.as_bstr.ensures c.read_float.ensures
