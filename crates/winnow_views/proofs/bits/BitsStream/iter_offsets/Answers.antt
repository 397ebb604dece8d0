use Rattle.winnow_views.proofs.lemmas.BitOffsetLemmas.{bits-road, IsFused-BitStep}
use Rattle.winnow_views.proofs.bits.BitsStream.iter_offsets.Goals as goal

pub returns-clause-items : goal.returns-clause-items
returns-clause-items g c =
    (bits-road g.I.IterOffsets.Iterator.next_gives (g.I.Stream.remaining c.args.self.now.input) _ c.requires.1.units c.requires.1.below c.new.ensures.offset c.new.ensures.bit c.new.ensures.place (rw c.new.ensures.bytes c.iter_offsets.ensures.items)).runs

pub returns-clause-fused : goal.returns-clause-fused
returns-clause-fused g c = IsFused-BitStep g.I.IterOffsets.Iterator.next_gives c.iter_offsets.ensures.fused
