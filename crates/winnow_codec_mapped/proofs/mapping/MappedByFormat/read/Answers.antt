use Rattle.std.proofs.Common.{◌≡◌, None}
use Rattle.winnow_codec_mapped.proofs.lemmas.Mapped.{none-mapped}
use Rattle.winnow_codec_mapped.proofs.mapping.MappedByFormat.read.Goals as goal

pub returns-in-None-clause-means : goal.returns-in-None-clause-means
returns-in-None-clause-means g c =
    let value_of = g.M.Mapping.value_of c.args.self.now.mapping in
    let none : value_of c.in-Ok.inner ≡ None = cc in
    none-mapped value_of g.F.Format.same (g.F.Format.spells c.args.self.now.inner)
    g.met.F.Exact.exact (g.met.F.Format.lawful c.args.self.now.inner).prefix_free
    (g.I.StreamIsPartial.expects_more c.args.input.now) _ _ c.in-Ok.inner none c.in-Ok.ensures.means
