use Rattle.std.proofs.Common.{ap, ◌∙◌}
use Rattle.std.proofs.lemmas.Result.{IfErr-weaker}
use Rattle.winnow_count.specs.CountRange.{least_count, greatest_count}
use Rattle.winnow_parser.specs.Answer.{ahead}
use Rattle.winnow_ascii.proofs.lemmas.NumberLemmas.{unsigned-errors}
use Rattle.winnow_ascii.proofs.parsers.dec_uint.UnsignedDigitsParser.parse_next.Goals as goal

pub returns-clause-means : goal.returns-clause-means
returns-clause-means g c =
    let taken = rw (c.take.ensures.inner, c.alt.ensures, c.void.ensures.inner, c.void-2.ensures.inner) at c.parse_next.ensures.means in
    let digits = rw (c.one_of.ensures, c.one_of-2.ensures, c.digit0.ensures.0, c.digit0.ensures.1.0, c.digit0.ensures.1.1, c.new.ensures.start, c.new.ensures.end) at taken in
    digits

pub returns-clause-error : goal.returns-clause-error
returns-clause-error g c =
    let list = ap (λ p. p.list) c.take.ensures.inner ∙ ap (λ p. p.list) c.alt.ensures in
    let row = ap (λ l. l.0.inner) list ∙ c.void.ensures.inner in
    let first = ap (λ r. r.0.set) row ∙ ap (λ o. o.set) c.one_of.ensures in
    let stands = ahead g.I.Rest.location g.I.Stream.remaining in
    let stood = ahead g.I.Checkpoint.Rest.location g.I.Stream.remained in
    let makes = g.E.ParserError.from_input_gives in
    let cuts = g.E.ParserError.assert_gives in
    IfErr-weaker c.parse_next.result _ _ (λ f h.
    unsigned-errors g.E.ParserError.or_refusable g.E.ParserError.append_refusable g.I.Stream.is_slice g.I.Token.AsChar.code stands makes cuts g.E.ParserError.or_gives stood g.E.ParserError.append_gives _ _ _ f
    (ap (λ s. s.start) first ∙ c.new.ensures.start) (ap (λ s. s.end) first ∙ c.new.ensures.end)
    (ap (λ r. r.1.set) row ∙ c.digit0.ensures.0)
    (ap (λ r. least_count r.1.counts) row ∙ c.digit0.ensures.1.0) (ap (λ r. greatest_count r.1.counts) row ∙ c.digit0.ensures.1.1)
    h) c.parse_next.ensures.error
