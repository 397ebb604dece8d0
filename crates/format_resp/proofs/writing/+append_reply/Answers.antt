use Rattle.std.proofs.Common.{◌≡◌, length, rules}
use Rattle.std.proofs.lemmas.List.{take_all}
use Rattle.format_resp.proofs.lemmas.WritingLemmas.{writes-array}
use Rattle.format_resp.proofs.writing.+append_reply.Goals as goal

pub returns-after-loop-one : goal.returns-after-loop-one
returns-after-loop-one t c =
    let all = rw (take_all c.loop-one.one-index c.deref-one-items.result.now c.loop-one-test.false, c.deref-one-items.ensures.value) at c.loop-one.invariant in
    let count : c.len.result ≡ length c.in-Array.replies.items = search rules in
    writes-array c.args.reply.now c.in-Array.replies c.in-Array.is c.len.result count _ _ _ c.in_ok-append_length-in-Array.ensures all
