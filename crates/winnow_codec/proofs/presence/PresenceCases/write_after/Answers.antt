use Rattle.std.proofs.Common.{subst}
use Rattle.winnow_codec.specs.Presence.{SpellsPresent}
use Rattle.winnow_codec.specs.Writing.{Writes}
use Rattle.winnow_codec.proofs.presence.PresenceCases.write_after.Goals as goal

pub returns : goal.returns
returns g c =
    subst (λ p. Writes (SpellsPresent (g.F.Format.spells c.args.self.now.part) p) c.args.value.now c.args.bytes.now.items c.write.result c.write.new.bytes.items)
    c.is_some-present.ensures c.write.ensures
