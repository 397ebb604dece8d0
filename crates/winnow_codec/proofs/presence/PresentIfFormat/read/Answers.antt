use Rattle.std.proofs.Common.{[], None, subst, sym, refl}
use Rattle.winnow_codec.specs.Presence.{SpellsPresent}
use Rattle.winnow_codec.proofs.lemmas.Lists.{takes-none}
use Rattle.winnow_codec.proofs.presence.PresentIfFormat.read.Goals as goal

pub returns-else-self-clause-means : goal.returns-else-self-clause-means
returns-else-self-clause-means g c =
    ([], (subst (λ p. SpellsPresent (g.F.Format.spells c.args.self.now.part) p None []) (sym c.if-self.false) refl, takes-none _))
