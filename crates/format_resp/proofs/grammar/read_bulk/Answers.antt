use Rattle.std.proofs.Common.{rules, refl, subst, inr, Some, None}
use Rattle.winnow_parser.specs.Answer.{ahead, failed}
use Rattle.winnow_parser.specs.Outcome.{Fails}
use Rattle.format_resp.specs.Meanings.{Bytes}
use Rattle.format_resp.specs.declared.reply.Reply.TheViews.{the_lemmas}
use Rattle.format_resp.proofs.grammar.read_bulk.Goals as goal

pub returns-in_default-clause-means : goal.returns-in_default-clause-means
returns-in_default-clause-means g c =
    let b = ahead g.I.Rest.location g.I.Stream.remaining c.read_length.new.input in
    (c.in_ok-count.field-0, (b, (None, (c.in_ok-count.ensures.means, c.in_default.is, (tt, (search (rules, the_lemmas), (refl, refl)))))))

pub returns-in-Ok-clause-means : goal.returns-in-Ok-clause-means
returns-in-Ok-clause-means g c =
    let b = ahead g.I.Rest.location g.I.Stream.remaining c.read_length.new.input in
    (c.in_ok-count.field-0, (b, (Some c.in-Some.count, (c.in_ok-count.ensures.means, c.in-Some.is, (c.in-Ok.bytes, (search (rules, the_lemmas), c.in-Ok.ensures.means))))))

pub returns-in-Err-clause-means : goal.returns-in-Err-clause-means
returns-in-Err-clause-means g c =
    let b = ahead g.I.Rest.location g.I.Stream.remaining c.read_length.new.input in
    let flag = g.met.I.StreamIsPartial.keeps_flag c.args.input.now c.read_length.new.input c.in_ok-count.ensures.kept in
    let fails = Fails (failed c.in-Err.failure (ahead g.I.Rest.location g.I.Stream.remaining c.read_bytes.new.input)) in
    inr (c.in_ok-count.field-0, (b, (Some c.in-Some.count, (c.in_ok-count.ensures.means, c.in-Some.is, subst (λ partial. Bytes g.I.Token.AsChar.code g.I.Stream.counts_shortage g.I.Stream.is_slice g.I.Slice.AsBytes.bytes c.in-Some.count partial b fails) flag c.in-Err.ensures.means))))
