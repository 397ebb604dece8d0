use Rattle.std.proofs.Common.{ap, ◌∙◌}
use Rattle.winnow_views.specs.BitStream.{location_in_bits}
use Rattle.winnow_views.proofs.lemmas.BitLemmas.{is_offset-whole, back-bits, IsBitSource-left, location_in_bits-behind}
use Rattle.winnow_views.proofs.bits.BitsStream.next_slice.Goals as goal

pub next_slice-bytes-requires-clause-offset : goal.next_slice-bytes-requires-clause-offset
next_slice-bytes-requires-clause-offset g c = is_offset-whole _ _ _ _ c.requires.valid.1 c.requires.offset c.whole_and_rest-whole.ensures.whole

pub returns-clause-remains : goal.returns-clause-remains
returns-clause-remains g c =
    back-bits _ _ _ _ _ _ c.requires.valid.1 c.requires.offset c.whole_and_rest-whole.ensures.whole c.whole_and_rest-whole.ensures.rest c.next_slice-bytes.ensures.remains

pub returns-clause-valid : goal.returns-clause-valid
returns-clause-valid g c = (
  c.next_slice-bytes.ensures.valid,
  IsBitSource-left _ _ _ _ _ _ c.requires.valid.1 c.requires.offset c.whole_and_rest-whole.ensures.whole c.whole_and_rest-whole.ensures.rest c.next_slice-bytes.ensures.remains,
)

pub returns-clause-location : goal.returns-clause-location
returns-clause-location g c =
    ap (λ p. location_in_bits p c.whole_and_rest-whole.result.1) c.next_slice-bytes.ensures.location
    ∙ location_in_bits-behind (g.I.Rest.location c.args.self.now.input) c.args.self.now.place c.args.offset _ _ c.whole_and_rest-whole.ensures.whole c.whole_and_rest-whole.ensures.rest
