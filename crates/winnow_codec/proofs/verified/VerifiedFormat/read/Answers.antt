use Rattle.std.proofs.Common.{◌≡◌, sym, subst}
use Rattle.winnow_codec.specs.Verified.{SpellsAllowed}
use Rattle.winnow_codec.proofs.lemmas.Reading.{none-other}
use Rattle.winnow_codec.proofs.verified.VerifiedFormat.read.Goals as goal

pub returns-else-is_allowed-clause-means : goal.returns-else-is_allowed-clause-means
returns-else-is_allowed-clause-means g c =
    let inner = g.F.Format.spells c.args.self.now.inner in
    let allows = g.A.Allowed.allows c.args.self.now.allowed in
    none-other g.F.Format.same inner (g.met.F.Format.lawful c.args.self.now.inner).prefix_free (SpellsAllowed allows inner) (λ v. v) (λ _ _ s. s.1)
    (g.I.StreamIsPartial.expects_more c.args.input.now) _ _ c.in-Ok.value c.in-Ok.ensures.means
    (λ w _ s same.
    let equal : c.in-Ok.value ≡ w = g.met.F.Exact.exact c.in-Ok.value w same in
    let allowed = c.is_allowed.ensures.1 (subst allows (sym equal) s.0) in cc)
