use Rattle.std.proofs.Common.{subst}
use Rattle.winnow_parser.specs.Answer.{ahead, outcome}
use Rattle.winnow_codec.specs.Formats.{Reads}
use Rattle.format_cbor.specs.Scalars.{SpellsScalar}
use Rattle.format_cbor.proofs.exchange.read_data_item.Goals as goal

pub returns : goal.returns
returns g c =
    let stands = ahead g.I.Rest.location g.I.Stream.remaining in
    subst (λ n. Reads (SpellsScalar n) (g.I.StreamIsPartial.expects_more c.args.input.now) (stands c.args.input.now) (outcome c.read.result (stands c.read.new.input)))
    c.scalars.ensures c.read.ensures.means
