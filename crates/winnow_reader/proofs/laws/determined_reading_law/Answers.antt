use Rattle.winnow_parser.specs.Determined.{Shows}
use Rattle.winnow_reader.proofs.lemmas.AlikeLemmas.{fronts-readers, alike-readers}
use Rattle.winnow_reader.proofs.laws.determined_reading_law.Goals as goal

pub returns-clause-front : goal.returns-clause-front
returns-clause-front g c = λ view r s input xs ys. fronts-readers g.R.Record.means (Shows view) r s input xs ys

pub returns-clause-whole : goal.returns-clause-whole
returns-clause-whole g c = λ view r s input xs ys. alike-readers g.R.Record.means (Shows view) r s input xs ys
