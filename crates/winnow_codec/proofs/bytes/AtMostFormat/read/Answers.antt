use Rattle.std.proofs.Common.{arith}
use Rattle.winnow_codec.specs.Bytes.{SpellsAtMost}
use Rattle.winnow_codec.proofs.lemmas.Reading.{none-other}
use Rattle.winnow_codec.proofs.bytes.AtMostFormat.read.Goals as goal

pub returns-else-count-clause-means : goal.returns-else-count-clause-means
returns-else-count-clause-means g c =
    let count = g.C.Format.spells c.args.self.now.count in
    none-other g.C.Format.same count (g.met.C.Format.lawful c.args.self.now.count).prefix_free (SpellsAtMost g.row.LIMIT count) (λ n. n) (λ _ _ s. s.1)
    (g.I.StreamIsPartial.expects_more c.args.input.now) _ _ c.in-Ok.count c.in-Ok.ensures.means
    (λ n _ s same. let equal = g.met.C.Exact.exact c.in-Ok.count n same in omega (arith, s.0, equal, c.if-count.false))
