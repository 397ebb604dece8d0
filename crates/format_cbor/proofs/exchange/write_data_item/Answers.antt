use Rattle.std.proofs.Common.{subst}
use Rattle.winnow_codec.specs.Writing.{Writes}
use Rattle.format_cbor.specs.Scalars.{SpellsScalar}
use Rattle.format_cbor.proofs.exchange.write_data_item.Goals as goal

pub returns : goal.returns
returns c =
    subst (λ n. Writes (SpellsScalar n) c.args.scalar.now c.args.bytes.now.items c.write.result c.write.new.bytes.items)
    c.scalars.ensures c.write.ensures
