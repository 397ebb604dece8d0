use Rattle.std.proofs.Common.{sym, subst}
use Rattle.wb_replies.specs.declared.layout.Layout.{Layout}
use Rattle.wb_replies.specs.Session.{Prints, TellsInput}
use Rattle.wb_replies.specs.contracts.placed.PlacedReplyRecord.TheImpl.{ghosts}
use Rattle.wb_replies.proofs.lemmas.PrintedLemmas.{tells-last}
use Rattle.wb_replies.proofs.session.PrintingDriven.end.Goals as goal

pub returns : goal.returns
returns g c = λ start bytes had follows.
    let old = c.args.self.now in
    let new = c.print_last.new.self in
    let held = g.W.Write.contents c.args.output.now in
    let now = g.W.Write.contents c.print_last.new.output in
    let parser = start.reader.parser in
    let prints = subst (λ (l : Layout). Prints ghosts.means l parser bytes had held old.reader old.place) (sym follows.0) follows.1 in
    subst (λ (l : Layout). TellsInput ghosts.means l parser bytes had now c.print_last.result) follows.0
    (tells-last ghosts.means old.layout parser bytes had held now old.reader new.reader old.place new.place prints c.print_last.ensures.parser
    c.print_last.result c.print_last.ensures.told c.print_last.ensures.ends)
