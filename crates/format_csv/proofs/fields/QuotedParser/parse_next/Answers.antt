use Rattle.std.proofs.Common.{◌∙◌}
use Rattle.winnow_parser.specs.Answer.{ahead, failed}
use Rattle.format_csv.proofs.lemmas.ByteLemmas.{ended-some}
use Rattle.format_csv.proofs.lemmas.GatheringLemmas.{quoted-failed}
use Rattle.format_csv.proofs.fields.QuotedParser.parse_next.Goals as goal

pub into_value-requires : goal.into_value-requires
into_value-requires g c =
    let parts = c.chunk.ensures in
    let h = rw (c.repeat.ensures.counts.0, c.repeat.ensures.counts.1, c.repeat.ensures.inner, parts.0, parts.1, parts.2.0, parts.2.1, parts.3) at c.in-Ok.ensures.means in
    let front = ended-some g.I.Slice.AsBytes.bytes h.0 h.1.1.1 in
    (front.0, h.1.0 ∙ front.1)

pub returns-in-Ok-clause-means : goal.returns-in-Ok-clause-means
returns-in-Ok-clause-means g c =
    let parts = c.chunk.ensures in
    let h = rw (c.repeat.ensures.counts.0, c.repeat.ensures.counts.1, c.repeat.ensures.inner, parts.0, parts.1, parts.2.0, parts.2.1, parts.3) at c.in-Ok.ensures.means in
    (h.0, (c.into_value.ensures ∙ h.1.0, h.1.1))

pub returns-in-Err-clause-means : goal.returns-in-Err-clause-means
returns-in-Err-clause-means g c =
    let stands = ahead g.I.Rest.location g.I.Stream.remaining in
    let parts = c.chunk.ensures in
    quoted-failed g.I.Stream.is_slice g.I.Slice.AsBytes.bytes (g.I.StreamIsPartial.expects_more c.args.input.now) (stands c.args.input.now) g.E.ParserError.append_refusable (failed c.in-Err.failure (stands c.parse_next-answer.new.input))
    (rw (c.repeat.ensures.counts.0, c.repeat.ensures.counts.1, c.repeat.ensures.inner, parts.0, parts.1, parts.2.0, parts.2.1, parts.3) at c.in-Err.ensures.means)
