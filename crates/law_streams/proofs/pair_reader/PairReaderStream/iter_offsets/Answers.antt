use Rattle.std.proofs.Common.{refl}
use Rattle.std.proofs.lemmas.Iterator.Consumers.{YieldsList-from_first}
use Rattle.winnow_stream.specs.Source.{offsets_from, offsets}
use Rattle.winnow_stream.proofs.lemmas.FusedLemmas.{IsFused-YieldsFirst}
use Rattle.law_streams.specs.PairSource.{pair_source}
use Rattle.law_streams.proofs.pair_reader.PairReaderStream.iter_offsets.Goals as goal

pub returns-clause-items : goal.returns-clause-items
returns-clause-items c =
    (YieldsList-from_first (λ x. x) (λ s. offsets_from s.offset (pair_source s.rest.now)) (offsets (pair_source c.args.self.now.rest.now)) refl).runs

pub returns-clause-fused : goal.returns-clause-fused
returns-clause-fused c = IsFused-YieldsFirst (λ s. offsets_from s.offset (pair_source s.rest.now))
