use Rattle.std.proofs.Common.{subst, sym, ◌++◌}
use Rattle.winnow_reader.specs.Reading.{HasRead}
use Rattle.winnow_reader.proofs.lemmas.ReadingLemmas.{HasRead-pushed}
use Rattle.winnow_reader.proofs.byte_reader.ByteReader.push.Goals as goal

pub returns-clause-read : goal.returns-clause-read
returns-clause-read g c = λ input values h.
    let means = g.R.Record.means in
    subst (λ f. HasRead means f (input ++ c.args.piece.now) values) (sym c.in_ok-append.ensures.ok)
    (HasRead-pushed means c.args.self.now c.args.piece.now c.requires.goes_on input values h)
