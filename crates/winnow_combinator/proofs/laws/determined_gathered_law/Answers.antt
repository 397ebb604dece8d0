use Rattle.winnow_parser.specs.Determined.{Shows}
use Rattle.winnow_combinator.specs.Appended.{AppendingIf, appends_to_first}
use Rattle.winnow_combinator.specs.DeterminedLists.{AreSameEach}
use Rattle.winnow_combinator.specs.Gathering.{Gathered}
use Rattle.winnow_combinator.specs.Separated.{IsSeparated, Countable}
use Rattle.winnow_combinator.proofs.lemmas.CombinedLemmas.{determined-gathered, determined-appending_if, determined-ascending, determined-countable, determined-separated}
use Rattle.winnow_combinator.proofs.lemmas.PartLemmas.{determined-fold}
use Rattle.winnow_combinator.proofs.laws.determined_gathered_law.Goals as goal

pub returns-clause-separated : goal.returns-clause-separated
returns-clause-separated g c = λ v w x gather a s least greatest respects.
    let values = IsSeparated least greatest (g.S.Parser.means s.parser) (g.A.Parser.means a.parser) in
    let makes = g.G.Gather.makes gather in
    let flag = appends_to_first least greatest in
    let appending = AppendingIf flag g.E.ParserError.append_refusable values in
    let whole = Gathered g.G.Gather.refusable makes appending in
    let one = determined-separated (Shows v) (Shows w) (g.S.Parser.means s.parser) (g.A.Parser.means a.parser) s.one a.one least greatest in
    let appended = determined-appending_if g.E.ParserError.append_refusable (AreSameEach (Shows v)) values one flag in
    let made = determined-gathered (AreSameEach (Shows v)) (Shows x) g.G.Gather.refusable makes respects appending appended in
    determined-ascending (Shows x) (Countable whole) (determined-countable (Shows x) whole made) least greatest

pub returns-clause-fold : goal.returns-clause-fold
returns-clause-fold g c = λ v x init f a least greatest start respects.
    determined-fold (Shows x) (Shows v) _ _ start respects g.E.ParserError.append_refusable (g.A.Parser.means a.parser) a.one least greatest
