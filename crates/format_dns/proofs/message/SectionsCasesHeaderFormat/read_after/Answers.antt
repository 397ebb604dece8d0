use Rattle.std.proofs.Common.{ap}
use Rattle.winnow_parser.specs.Answer.{ahead, failed}
use Rattle.format_dns.proofs.lemmas.MessageLemmas.{lists-unread}
use Rattle.format_dns.proofs.message.SectionsCasesHeaderFormat.read_after.Goals as goal

pub returns-in-Err-clause-means : goal.returns-in-Err-clause-means
returns-in-Err-clause-means g c =
    let stands = ahead g.I.Rest.location g.I.Stream.remaining in
    lists-unread c.args.label c.repeated.result.count c.repeated-2.result.count c.repeated-3.result.count c.repeated-4.result.count
    (ap (λ f. f.count) c.repeated.ensures) (ap (λ f. f.count) c.repeated-2.ensures) (ap (λ f. f.count) c.repeated-3.ensures) (ap (λ f. f.count) c.repeated-4.ensures)
    (g.I.StreamIsPartial.expects_more c.args.input.now) (stands c.args.input.now) (failed c.in-Err.failure (stands c.read.new.input)) c.in-Err.ensures.means
