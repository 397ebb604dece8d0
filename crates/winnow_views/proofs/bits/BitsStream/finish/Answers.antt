use Rattle.std.proofs.Common.{◌∙◌, ◌+◌, ◌/◌, ap}
use Rattle.winnow_stream.specs.Front.{back}
use Rattle.winnow_stream.proofs.lemmas.FrontLemmas.{back-whole}
use Rattle.winnow_views.specs.BitLaws.{HasPositiveWidths-bits_from}
use Rattle.winnow_views.specs.BitStream.{bits_remaining}
use Rattle.winnow_views.proofs.lemmas.BitLemmas.{width-bits_whole}
use Rattle.winnow_views.proofs.bits.BitsStream.finish.Goals as goal

pub returns-clause-remains : goal.returns-clause-remains
returns-clause-remains g c =
    let r = bits_remaining g.I.Stream.remaining c.args.self.now in
    c.next_slice.ensures.remains
    ∙ ap (back r) c.eof_offset-end.ensures
    ∙ back-whole r (HasPositiveWidths-bits_from (g.I.Stream.remaining c.args.self.now.input) c.args.self.now.place)

pub returns-clause-bytes : goal.returns-clause-bytes
returns-clause-bytes g c =
    let bytes = g.I.Stream.remaining c.args.self.now.input in
    let place = c.args.self.now.place in
    c.next_slice.ensures.bytes
    ∙ ap (λ n. back bytes ((n + place) / 8)) c.eof_offset-end.ensures
    ∙ ap (back bytes) (width-bits_whole bytes place c.requires.1)
    ∙ back-whole bytes (g.met.I.Stream.positive_widths _ c.requires.0)
