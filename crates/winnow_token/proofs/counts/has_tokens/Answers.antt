use Rattle.std.proofs.Common.{◌∙◌, sym}
use Rattle.winnow_stream.proofs.lemmas.OffsetLemmas.{offset_at-within, offset_at-place}
use Rattle.winnow_token.proofs.lemmas.CountLemmas.{wide_enough}
use Rattle.winnow_token.proofs.counts.has_tokens.Goals as goal

pub returns-in-Ok : goal.returns-in-Ok
returns-in-Ok g c =
    let r = g.I.Stream.remaining c.args.input.now in
    let found = sym c.offset_at.ensures ∙ c.in-Ok.is in
    wide_enough r c.args.least c.args.end c.in-Ok.offset (g.met.I.Stream.positive_widths c.args.input.now c.requires.valid) c.requires.offset
    (offset_at-within g.I.Stream.counts_shortage r c.args.least c.in-Ok.offset found) (offset_at-place g.I.Stream.counts_shortage r c.args.least c.in-Ok.offset found)
