use Rattle.std.proofs.Common.{refl}
use Rattle.std.proofs.lemmas.Iterator.Consumers.{YieldsList-from_first}
use Rattle.winnow_stream.specs.Source.{units, offsets_from, offsets}
use Rattle.winnow_stream.proofs.lemmas.FusedLemmas.{IsFused-YieldsFirst}
use Rattle.winnow_stream.proofs.slices.RefSliceStream.iter_offsets.Goals as goal

pub returns-clause-items : goal.returns-clause-items
returns-clause-items g c =
    (YieldsList-from_first (λ x. x) (λ s. offsets_from s.offset (units s.rest.now)) (offsets (units c.args.self.now.now)) refl).runs

pub returns-clause-fused : goal.returns-clause-fused
returns-clause-fused g c = IsFused-YieldsFirst (λ s. offsets_from s.offset (units s.rest.now))
