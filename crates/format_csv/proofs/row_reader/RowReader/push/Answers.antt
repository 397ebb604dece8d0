use Rattle.std.proofs.Common.{ap, ◌∙◌}
use Rattle.winnow_reader.specs.State.{pushed}
use Rattle.format_csv.proofs.lemmas.RowReaderLemmas.{read-piece}
use Rattle.format_csv.proofs.row_reader.RowReader.push.Goals as goal

pub returns-clause-read : goal.returns-clause-read
returns-clause-read c =
    read-piece c.args.self.now c.push.new.self c.args.piece.now c.requires.goes_on
    (c.in_ok-push.ensures.ok ∙ ap (λ f. pushed f c.args.piece.now) c.self.view_is)
