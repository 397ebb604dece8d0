use Rattle.std.proofs.Common.{sym, ◌∙◌}
use Rattle.winnow_views.proofs.lemmas.BitLemmas.{location_in_bits-next}
use Rattle.winnow_views.proofs.bits.BitsStream.next_token.Goals as goal

pub returns-then-self-lt7-clause-location : goal.returns-then-self-lt7-clause-location
returns-then-self-lt7-clause-location g c =
    location_in_bits-next (g.I.Rest.location c.args.self.now.input) _ _ _ (sym c.in_ok-bit.was ∙ c.peek_token.ensures)
