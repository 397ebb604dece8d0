use Rattle.std.proofs.Common.{◌∙◌}
use Rattle.std.specs.Io.KnownBytes.{Appends}
use Rattle.example_json.proofs.lemmas.FollowLemmas.{begun-piece, prints-piece, fails-more, on-both, if-err}
use Rattle.example_json.proofs.program.PrintingDriven.piece.Goals as goal

pub returns-clause-ready : goal.returns-clause-ready
returns-clause-ready g c =
    let old = c.args.self.now in
    on-both c.print_piece.result
    (λ keeps follows. (begun-piece old.reader c.print_piece.new.reader old.progress c.print_piece.new.progress c.args.piece.now (Appends (g.W.Write.contents c.args.output.now) (g.W.Write.contents c.print_piece.new.output)) c.requires.0 follows, keeps.1 ∙ c.requires.1))
    c.print_piece.ensures.keeps c.print_piece.ensures.printed

pub returns-clause-follows : goal.returns-clause-follows
returns-clause-follows g c = λ start bytes had prints.
    let old = c.args.self.now in
    on-both c.print_piece.result
    (λ keeps follows. prints-piece start.reader.text.depth bytes old.reader c.print_piece.new.reader old.progress c.print_piece.new.progress had _ _ c.args.piece.now prints follows keeps)
    c.print_piece.ensures.keeps c.print_piece.ensures.printed

pub returns-clause-tells : goal.returns-clause-tells
returns-clause-tells g c = λ start bytes rest had prints.
    let old = c.args.self.now in
    if-err c.print_piece.result
    (λ failure fails. fails-more start.reader.text.depth bytes rest old.reader old.progress had _ _ c.args.piece.now failure prints fails)
    c.print_piece.ensures.failed
