use Rattle.winnow_codec.specs.Known.{SpellsExactly}
use Rattle.winnow_codec.proofs.lemmas.Reading.{none-other}
use Rattle.winnow_codec.proofs.one_value.OneValueFormat.read.Goals as goal

pub returns-in-Ok-clause-means : goal.returns-in-Ok-clause-means
returns-in-Ok-clause-means g c =
    let inner = g.F.Format.spells c.args.self.now.inner in
    let only = c.args.self.now.only in
    none-other g.F.Format.same inner (g.met.F.Format.lawful c.args.self.now.inner).prefix_free (SpellsExactly inner only) (λ _. only) (λ _ _ h. h)
    (g.I.StreamIsPartial.expects_more c.args.input.now) _ _ c.in-Ok.value c.in-Ok.ensures.means
    (λ _ _ _ s. let equal = c.if-equal.ensures.1 (g.met.F.Exact.exact c.in-Ok.value only s) in cc)
