use Rattle.std.proofs.Common.{ap, ◌∙◌}
use Rattle.winnow_count.specs.CountRange.{least_count, greatest_count}
use Rattle.std.proofs.lemmas.Result.{IfErr-weaker}
use Rattle.winnow_parser.specs.Answer.{ahead}
use Rattle.winnow_ascii.proofs.lemmas.NumberLemmas.{signed-as, signed-errors}
use Rattle.winnow_ascii.proofs.parsers.dec_int.SignedDigitsParser.parse_next.Goals as goal

pub returns-clause-means : goal.returns-clause-means
returns-clause-means g c =
    let list = ap (λ p. p.list) c.take.ensures.inner ∙ ap (λ p. p.list) c.alt.ensures in
    let row = ap (λ l. l.0.inner) list ∙ c.void.ensures.inner in
    let first = ap (λ r. r.1.0.set) row ∙ ap (λ o. o.set) c.one_of.ensures in
    signed-as g.E.ParserError.or_refusable g.E.ParserError.append_refusable g.I.Stream.is_slice g.I.Token.AsChar.code _ _ _
    (ap (λ r. r.0.inner.set) row ∙ ap (λ o. o.inner.set) c.opt.ensures ∙ ap (λ o. o.set) c.one_of-2.ensures)
    (ap (λ s. s.start) first ∙ c.new.ensures.start) (ap (λ s. s.end) first ∙ c.new.ensures.end)
    (ap (λ r. r.1.1.set) row ∙ c.digit0.ensures.0)
    (ap (λ r. least_count r.1.1.counts) row ∙ c.digit0.ensures.1.0) (ap (λ r. greatest_count r.1.1.counts) row ∙ c.digit0.ensures.1.1)
    (ap (λ l. l.1.inner.set) list ∙ ap (λ o. o.set) c.void-2.ensures.inner ∙ ap (λ o. o.set) c.one_of-3.ensures)
    c.parse_next.ensures.means

pub returns-clause-error : goal.returns-clause-error
returns-clause-error g c =
    let list = ap (λ p. p.list) c.take.ensures.inner ∙ ap (λ p. p.list) c.alt.ensures in
    let row = ap (λ l. l.0.inner) list ∙ c.void.ensures.inner in
    let first = ap (λ r. r.1.0.set) row ∙ ap (λ o. o.set) c.one_of.ensures in
    let stands = ahead g.I.Rest.location g.I.Stream.remaining in
    let stood = ahead g.I.Checkpoint.Rest.location g.I.Stream.remained in
    let makes = g.E.ParserError.from_input_gives in
    let cuts = g.E.ParserError.assert_gives in
    IfErr-weaker c.parse_next.result _ _ (λ f h.
    signed-errors g.E.ParserError.or_refusable g.E.ParserError.append_refusable g.I.Stream.is_slice g.I.Token.AsChar.code stands makes cuts g.E.ParserError.or_gives stood g.E.ParserError.append_gives _ _ _ f
    (ap (λ r. r.0.inner.set) row ∙ ap (λ o. o.inner.set) c.opt.ensures ∙ ap (λ o. o.set) c.one_of-2.ensures)
    (ap (λ s. s.start) first ∙ c.new.ensures.start) (ap (λ s. s.end) first ∙ c.new.ensures.end)
    (ap (λ r. r.1.1.set) row ∙ c.digit0.ensures.0)
    (ap (λ r. least_count r.1.1.counts) row ∙ c.digit0.ensures.1.0) (ap (λ r. greatest_count r.1.1.counts) row ∙ c.digit0.ensures.1.1)
    h) c.parse_next.ensures.error
