use Rattle.std.proofs.Common.{ap, ◌∙◌}
use Rattle.format_dns.proofs.lemmas.MessageLemmas.{lists-written}
use Rattle.format_dns.proofs.message.SectionsCasesHeaderFormat.write_after.Goals as goal

pub returns : goal.returns
returns c =
    let m = c.args.value.now in
    lists-written m c.repeated.result.count c.repeated-2.result.count c.repeated-3.result.count c.repeated-4.result.count
    (ap (λ f. f.count) c.repeated.ensures ∙ c.len.ensures ∙ m.questions.ok.0) (ap (λ f. f.count) c.repeated-2.ensures ∙ c.len-2.ensures ∙ m.answers.ok.0)
    (ap (λ f. f.count) c.repeated-3.ensures ∙ c.len-3.ensures ∙ m.authorities.ok.0) (ap (λ f. f.count) c.repeated-4.ensures ∙ c.len-4.ensures ∙ m.additionals.ok.0)
    c.args.bytes.now.items c.write_four.new.bytes.items c.write_four.result c.write_four.ensures
