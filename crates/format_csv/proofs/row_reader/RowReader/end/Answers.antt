use Rattle.std.proofs.Common.{ap, ◌∙◌}
use Rattle.winnow_reader.specs.State.{ended_after}
use Rattle.format_csv.proofs.lemmas.RowReaderLemmas.{read-end}
use Rattle.format_csv.proofs.row_reader.RowReader.end.Goals as goal

pub returns-clause-read : goal.returns-clause-read
returns-clause-read c =
    read-end c.args.self.now c.end.new.self (c.end.ensures.state ∙ ap ended_after c.self.view_is)
