use Rattle.std.proofs.Common.{◌≡◌, true, [], ap, sym, ◌∙◌, subst}
use Rattle.winnow_reader.specs.State.{ReaderState}
use Rattle.std.specs.Prelude.{IfSome}
use Rattle.wb_base.specs.Excerpts.{IsExcerpt}
use Rattle.wb_replies.specs.declared.placed.PlacedReply.{PlacedReply}
use Rattle.wb_replies.specs.Session.{OnAnswer, Continues, EndsAs}
use Rattle.wb_replies.specs.contracts.placed.PlacedReplyRecord.TheImpl.{ghosts}
use Rattle.wb_replies.proofs.lemmas.SessionLemmas.{on-answer-map, on-ended, follows-ended, continues, ends-as}
use Rattle.wb_replies.proofs.session.Printing.print_last.Goals as goal

pub returns-clause-told : goal.returns-clause-told
returns-clause-told g c = λ input replies h.
    let old = c.args.self.now in
    let middle = c.end.new.self in
    let new = c.print_ready-taken.new.self in
    let old_out = g.W.Write.contents c.args.output.now in
    let new_out = g.W.Write.contents c.print_ready-taken.new.output in
    let whole : Type 0 = Continues ghosts.means old.layout input replies new.reader new.place old_out new_out in
    let ended = follows-ended ghosts.means input replies old.reader middle old.place c.end.ensures.state c.end.ensures.read h in
    let reads_on = continues ghosts.means old.layout input replies middle new.reader old.place new.place old_out new_out ended c.print_ready-taken.ensures.stands in
    let told = on-answer-map c.print_ready-taken.result _ whole reads_on c.print_ready-taken.ensures.printed in
    subst (λ r. OnAnswer r whole) (sym c.ended_as.ensures) (on-ended c.print_ready-taken.result new.place c.excerpt_of-excerpt.result whole told)

pub returns-clause-ends : goal.returns-clause-ends
returns-clause-ends g c =
    let new = c.print_ready-taken.new.self in
    let ended : new.reader.ended ≡ true = c.print_ready-taken.ensures.same.ended ∙ ap (λ (f : ReaderState PlacedReply). f.ended) c.end.ensures.state in
    let shows = subst (λ bytes. IfSome c.excerpt_of-excerpt.result (IsExcerpt [] bytes)) c.ahead.ensures c.excerpt_of-excerpt.ensures in
    subst (λ r. EndsAs ghosts.means new.reader new.place [] r) (sym c.ended_as.ensures)
    (ends-as ghosts.means c.print_ready-taken.result c.end.new.self new.reader new.place c.excerpt_of-excerpt.result ended c.print_ready-taken.ensures.all c.print_ready-taken.ensures.failed shows)
