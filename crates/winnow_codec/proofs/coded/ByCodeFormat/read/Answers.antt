use Rattle.std.proofs.Common.{sym}
use Rattle.winnow_codec.specs.FormatParts.{SpellsParts}
use Rattle.winnow_codec.proofs.lemmas.Reading.{none-other}
use Rattle.winnow_codec.proofs.coded.ByCodeFormat.read.Goals as goal

pub returns-in-None-clause-means : goal.returns-in-None-clause-means
returns-in-None-clause-means g c =
    let inner = g.F.Format.spells c.args.self.now.codes in
    let code = g.T.Coded.code in
    none-other g.F.Format.same inner (g.met.F.Format.lawful c.args.self.now.codes).prefix_free (SpellsParts code inner) code (λ _ _ h. h)
    (g.I.StreamIsPartial.expects_more c.args.input.now) _ _ c.in-Ok.code c.in-Ok.ensures.means
    (λ v _ _ s. c.in-None.ensures v (sym (g.met.F.Exact.exact c.in-Ok.code (code v) s)))
