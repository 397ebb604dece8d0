use Rattle.std.proofs.Common.{subst, sym}
use Rattle.winnow_reader.specs.State.{ended_after}
use Rattle.winnow_reader.specs.Reading.{HasRead}
use Rattle.winnow_reader.proofs.lemmas.ReadingLemmas.{HasRead-ended}
use Rattle.winnow_reader.proofs.byte_reader.ByteReader.end.Goals as goal

pub returns-clause-read : goal.returns-clause-read
returns-clause-read g c = λ input values h.
    let means = g.R.Record.means in
    subst (λ f. HasRead means (ended_after f) input values) (sym c.self.view_is) (HasRead-ended means c.args.self.now input values h)
