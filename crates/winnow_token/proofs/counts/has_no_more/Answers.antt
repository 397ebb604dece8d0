use Rattle.std.proofs.Common.{◌∙◌, sym}
use Rattle.winnow_stream.proofs.lemmas.OffsetLemmas.{offset_at-place}
use Rattle.winnow_token.proofs.lemmas.CountLemmas.{narrow_enough}
use Rattle.winnow_token.proofs.counts.has_no_more.Goals as goal

pub returns-in-Ok : goal.returns-in-Ok
returns-in-Ok g c =
    let r = g.I.Stream.remaining c.args.input.now in
    narrow_enough r c.args.greatest c.args.end c.in-Ok.offset (g.met.I.Stream.positive_widths c.args.input.now c.requires.valid) c.requires.offset
    (offset_at-place g.I.Stream.counts_shortage r c.args.greatest c.in-Ok.offset (sym c.offset_at.ensures ∙ c.in-Ok.is))
