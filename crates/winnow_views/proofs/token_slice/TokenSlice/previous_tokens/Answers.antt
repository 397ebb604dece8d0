use Rattle.std.proofs.Common.{reverse, ap, ◌∙◌}
use Rattle.std.proofs.lemmas.Iterator.Consumers.{YieldsList-from_first}
use Rattle.winnow_views.specs.TokenPlaces.{taken_of}
use Rattle.winnow_views.specs.TokenPrevious.{left_of}
use Rattle.winnow_views.proofs.token_slice.TokenSlice.previous_tokens.Goals as goal

pub returns-clause-items : goal.returns-clause-items
returns-clause-items g c = (YieldsList-from_first (λ x. x.now) left_of (reverse (taken_of c.args.self.now)) (c.new.ensures ∙ ap reverse c.taken.ensures)).runs
