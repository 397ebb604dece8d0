use Rattle.std.specs.Prelude.{Err}
use Rattle.wb_replies.specs.contracts.placed.PlacedReplyRecord.TheImpl.{ghosts}
use Rattle.wb_replies.proofs.lemmas.SessionLemmas.{on-answer, same-trans, reads-none, none-trans, printed-more, printed-still}
use Rattle.wb_replies.proofs.session.take_replies.Goals as goal

pub loop-reply-preserved : goal.loop-reply-preserved
loop-reply-preserved c =
    let old = c.loop-reply.reader in
    let new = c.next_reply.new.reader in
    let reads = rw c.in-Ok-Some.field-0-is at c.in-Ok-Some.ensures.reads in
    let printed = c.loop-reply.invariant.printed in
    record {
      steady = c.next_reply.ensures.steady;
      same = same-trans c.args.reader.now old new c.loop-reply.invariant.same c.next_reply.ensures.same;
      stands = λ input s. c.next_reply.ensures.stands input (c.loop-reply.invariant.stands input s);
      printed = printed-more ghosts.means c.args.layout c.args.reader.now old new printed.0 c.in-Ok-Some.reply _ _ _ printed.1.0 printed.1.1 reads
          c.in_ok-append_one-in-Ok-Some.ensures.printed;
    }

pub returns-in-Ok-None-clause-printed : goal.returns-in-Ok-None-clause-printed
returns-in-Ok-None-clause-printed c =
    let reads = rw c.in-Ok-None.field-0-is at c.in-Ok-None.ensures.reads in
    let printed = c.loop-reply.invariant.printed in
    printed-still ghosts.means c.args.layout c.args.reader.now c.loop-reply.reader c.next_reply.new.reader printed.0 _ _ printed.1.0 printed.1.1 reads

pub returns-in-Ok-None-clause-all : goal.returns-in-Ok-None-clause-all
returns-in-Ok-None-clause-all c =
    let none = rw c.in-Ok-None.field-0-is at c.in-Ok-None.ensures.none in
    let printed = c.loop-reply.invariant.printed in
    none-trans ghosts.means c.args.reader.now c.loop-reply.reader c.next_reply.new.reader printed.0 printed.1.0 none

pub returns-in-Err-clause-printed : goal.returns-in-Err-clause-printed
returns-in-Err-clause-printed c =
    let printed = c.loop-reply.invariant.printed in
    let none = reads-none ghosts.means c.loop-reply.reader c.next_reply.new.reader c.in-Err.ensures.kept in
    on-answer (Err c.in-Err.failure) _ (printed-still ghosts.means c.args.layout c.args.reader.now c.loop-reply.reader c.next_reply.new.reader printed.0 _ _ printed.1.0 printed.1.1 none)
