use Rattle.winnow_parser.specs.Answer.{ahead, failed}
use Rattle.winnow_codec.specs.Bytes.{SpellsBytes}
use Rattle.winnow_codec.specs.Frames.{SpellsInside}
use Rattle.winnow_codec.proofs.lemmas.Reading.{fewer-unread}
use Rattle.format_cbor.specs.Scalars.{SpellsPart}
use Rattle.format_cbor.proofs.scalar_format.read_part.Goals as goal

pub returns-clause-means : goal.returns-clause-means
returns-clause-means g c =
    let inner = g.W.Whole.spells c.args.part in
    fewer-unread (SpellsInside (SpellsBytes c.args.count) inner) (SpellsPart c.args.longest c.args.count inner) (λ w. w) (λ w bytes s. s.1)
    (g.I.StreamIsPartial.expects_more c.args.input.now) _ (failed c.in-Err.failure (ahead g.I.Rest.location g.I.Stream.remaining c.read.new.input))
    (rw c.sized.ensures at c.in-Err.ensures.means)
