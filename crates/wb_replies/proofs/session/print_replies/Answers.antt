use Rattle.std.proofs.Common.{true, [], refl, subst}
use Rattle.wb_replies.specs.Session.{OnAnswer, Tells, TellsInput}
use Rattle.wb_replies.specs.declared.layout.Layout.{Layout}
use Rattle.wb_replies.specs.declared.placed.PlacedReply.{PlacedReply}
use Rattle.wb_replies.specs.contracts.placed.PlacedReplyRecord.TheImpl.{ghosts}
use Rattle.wb_replies.proofs.lemmas.PrintedLemmas.{told-known}
use Rattle.wb_replies.proofs.lemmas.SpelledLemmas.{prints-input}
use Rattle.wb_replies.proofs.session.print_replies.Goals as goal

pub returns-clause-told : goal.returns-clause-told
returns-clause-told g c = λ whole before known written.
    let start = c.new-printing.result in
    let had = g.W.Write.contents c.args.output.now in
    let new = g.W.Write.contents c.drive.new.output in
    let told = c.drive.ensures start [] had (refl, c.new-printing.ensures.prints had) in
    let tells = told-known (λ rest. TellsInput ghosts.means start.layout start.reader.parser rest had new c.drive.result) (g.R.Read.remaining c.args.input.now) whole known told before written in
    let parsed = subst (λ (parser : PlacedReply). OnAnswer c.drive.result (Tells ghosts.means start.layout parser whole before new c.drive.result)) c.new-printing.ensures.parser tells in
    subst (λ (layout : Layout). OnAnswer c.drive.result (Tells ghosts.means layout (record { limits = c.args.limits }) whole before new c.drive.result)) c.new-printing.ensures.layout parsed

pub returns-clause-printed : goal.returns-clause-printed
returns-clause-printed g c = λ whole before known written.
    prints-input true c.args.layout (record { limits = c.args.limits }) whole before (g.W.Write.contents c.drive.new.output) c.drive.result
    (returns-clause-told g c whole before known written)
