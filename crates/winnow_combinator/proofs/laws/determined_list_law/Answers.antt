use Rattle.winnow_parser.specs.Determined.{Shows}
use Rattle.winnow_combinator.proofs.lemmas.AltOfLemmas.{determined-alt_of_all}
use Rattle.winnow_combinator.proofs.laws.determined_list_law.Goals as goal

pub returns : goal.returns
returns g c = λ view list each.
    determined-alt_of_all g.E.ParserError.append_refusable g.E.ParserError.or_refusable (Shows view) g.A.Parser.means list each
