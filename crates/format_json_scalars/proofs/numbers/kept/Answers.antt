use Rattle.format_json_scalars.specs.Numbers.{IsNumber}
use Rattle.format_json_scalars.proofs.lemmas.RunLemmas.{keeps-yes, keeps-no}
use Rattle.format_json_scalars.proofs.numbers.kept.Goals as goal

pub returns-then-is_number : goal.returns-then-is_number
returns-then-is_number g c =
    keeps-yes g.S.AsBytes.bytes IsNumber c.args.slice c.as_bytes.result.now c.is_number.result c.as_bytes.ensures c.if-is_number.true c.is_number.ensures

pub returns : goal.returns
returns g c =
    keeps-no g.S.AsBytes.bytes IsNumber c.args.slice c.as_bytes.result.now c.is_number.result c.as_bytes.ensures c.if-is_number.false c.is_number.ensures
