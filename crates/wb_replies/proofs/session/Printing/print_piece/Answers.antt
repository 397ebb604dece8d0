use Rattle.std.proofs.Common.{◌++◌}
use Rattle.wb_replies.specs.Session.{Continues}
use Rattle.wb_replies.specs.contracts.placed.PlacedReplyRecord.TheImpl.{ghosts}
use Rattle.wb_replies.proofs.lemmas.SessionLemmas.{on-answer-map, follows-pushed, continues}
use Rattle.wb_replies.proofs.session.Printing.print_piece.Goals as goal

pub returns-clause-told : goal.returns-clause-told
returns-clause-told g c = λ input replies h.
    let old = c.args.self.now in
    let middle = c.push.new.self in
    let piece = c.args.piece.now in
    let new = c.print_ready.new.self in
    let old_out = g.W.Write.contents c.args.output.now in
    let new_out = g.W.Write.contents c.print_ready.new.output in
    let pushed = follows-pushed ghosts.means input piece replies old.reader middle old.place c.in_ok-push.ensures.ok c.in_ok-push.ensures.read h in
    let reads_on = continues ghosts.means old.layout (input ++ piece) replies middle new.reader old.place new.place old_out new_out pushed c.print_ready.ensures.stands in
    on-answer-map c.print_ready.result _ (Continues ghosts.means old.layout (input ++ piece) replies new.reader new.place old_out new_out) reads_on c.print_ready.ensures.printed
