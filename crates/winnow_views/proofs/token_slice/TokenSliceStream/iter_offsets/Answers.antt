use Rattle.std.proofs.Common.{ap, ◌∙◌}
use Rattle.std.proofs.lemmas.Iterator.Consumers.{YieldsList-from_first}
use Rattle.winnow_stream.specs.Source.{offsets}
use Rattle.winnow_stream.proofs.lemmas.FusedLemmas.{IsFused-YieldsFirst}
use Rattle.winnow_views.specs.TokenSources.{tokens_of}
use Rattle.winnow_views.specs.TokenPlaces.{remaining_of}
use Rattle.winnow_views.specs.TokenAhead.{offsets_ahead}
use Rattle.winnow_views.proofs.token_slice.TokenSliceStream.iter_offsets.Goals as goal

pub returns-clause-items : goal.returns-clause-items
returns-clause-items g c =
    let ahead = c.new.ensures.ahead ∙ ap (λ s. offsets (tokens_of g.row.T s)) c.slice.ensures.slice in
    (YieldsList-from_first (λ x. x) (offsets_ahead g.row.T) (offsets (remaining_of g.row.T c.args.self.now)) ahead).runs

pub returns-clause-fused : goal.returns-clause-fused
returns-clause-fused g c = IsFused-YieldsFirst (offsets_ahead g.row.T)
