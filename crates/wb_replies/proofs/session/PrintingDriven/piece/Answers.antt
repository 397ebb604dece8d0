use Rattle.std.proofs.Common.{◌++◌, sym, subst}
use Rattle.std.specs.Prelude.{Err, IfErr}
use Rattle.wb_replies.specs.declared.layout.Layout.{Layout}
use Rattle.wb_replies.specs.Session.{Prints, TellsInput}
use Rattle.wb_replies.specs.contracts.placed.PlacedReplyRecord.TheImpl.{ghosts}
use Rattle.wb_replies.proofs.lemmas.PrintedLemmas.{prints-on, tells-on, follows-on}
use Rattle.wb_replies.proofs.session.PrintingDriven.piece.Goals as goal

pub returns-clause-follows : goal.returns-clause-follows
returns-clause-follows g c = λ start bytes had follows.
    let old = c.args.self.now in
    let new = c.print_piece.new.self in
    let held = g.W.Write.contents c.args.output.now in
    let now = g.W.Write.contents c.print_piece.new.output in
    let parser = start.reader.parser in
    let prints = subst (λ (l : Layout). Prints ghosts.means l parser bytes had held old.reader old.place) (sym follows.0) follows.1 in
    let on = prints-on ghosts.means old.layout parser bytes had held now old.reader new.reader old.place new.place prints c.print_piece.ensures.parser
    c.args.piece.now c.print_piece.result c.print_piece.ensures.told c.print_piece.ensures.goes_on in
    follows-on c.print_piece.result old.layout new.layout start.layout follows.0 c.print_piece.ensures.layout
    (λ l. Prints ghosts.means l parser (bytes ++ c.args.piece.now) had now new.reader new.place) on

pub returns-clause-tells : goal.returns-clause-tells
returns-clause-tells g c = λ start bytes rest had follows.
    let old = c.args.self.now in
    let new = c.print_piece.new.self in
    let held = g.W.Write.contents c.args.output.now in
    let now = g.W.Write.contents c.print_piece.new.output in
    let parser = start.reader.parser in
    let prints = subst (λ (l : Layout). Prints ghosts.means l parser bytes had held old.reader old.place) (sym follows.0) follows.1 in
    subst (λ (l : Layout). IfErr c.print_piece.result (λ e. TellsInput ghosts.means l parser (bytes ++ (c.args.piece.now ++ rest)) had now (Err e))) follows.0
    (tells-on ghosts.means old.layout parser bytes had held now old.reader new.reader old.place new.place prints c.print_piece.ensures.parser
    c.args.piece.now rest c.print_piece.result c.print_piece.ensures.told c.print_piece.ensures.failed)
