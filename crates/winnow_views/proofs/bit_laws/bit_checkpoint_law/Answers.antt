use Rattle.std.proofs.Common.{◌∙◌, sym}
use Rattle.winnow_stream.specs.Checkpoint.{checkpoint_inner}
use Rattle.winnow_views.specs.BitLaws.{rest_width-bits_from}
use Rattle.winnow_views.proofs.bit_laws.bit_checkpoint_law.Goals as goal

pub returns : goal.returns
returns g c = λ checkpoint v.
    let b = checkpoint_inner checkpoint in
    v.2 ∙ sym (rest_width-bits_from (g.I.Stream.remained b.bytes) b.place (g.I.Checkpoint.Rest.rest_width b.bytes) v.1.units (g.met.I.Stream.rest_width_remained b.bytes v.0))
