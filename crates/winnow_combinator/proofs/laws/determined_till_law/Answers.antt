use Rattle.winnow_parser.specs.Determined.{Shows, AreBothSame}
use Rattle.winnow_combinator.specs.Appended.{Appending}
use Rattle.winnow_combinator.specs.DeterminedLists.{AreSameEach}
use Rattle.winnow_combinator.specs.Gathering.{Gathered}
use Rattle.winnow_combinator.specs.RepeatTill.{RepeatsTill, MakesOfFirst}
use Rattle.winnow_combinator.proofs.lemmas.AgreeingEndLemmas.{determined-separated_foldl1}
use Rattle.winnow_combinator.proofs.lemmas.AgreeingTillLemmas.{determined-repeat_till, makes_of_first-respects}
use Rattle.winnow_combinator.proofs.lemmas.CombinedLemmas.{determined-gathered, determined-appending, determined-ascending}
use Rattle.winnow_combinator.proofs.laws.determined_till_law.Goals as goal

pub returns-clause-repeated_till : goal.returns-clause-repeated_till
returns-clause-repeated_till g c = λ view other a b least greatest d e. determined-repeat_till (Shows view) (Shows other) least greatest (g.A.Parser.means a) (g.B.Parser.means b) d e

pub returns-clause-gathered : goal.returns-clause-gathered
returns-clause-gathered g c = λ view other whole gather a b least greatest respects d e.
    let refusable = g.E.ParserError.append_refusable in
    let inner = Appending refusable (g.A.Parser.means a) in
    let values = RepeatsTill least greatest inner (g.B.Parser.means b) in
    let makes = g.G.Gather.makes gather in
    let both = makes_of_first-respects (AreSameEach (Shows view)) (Shows whole) (Shows other) makes respects in
    let one = determined-repeat_till (Shows view) (Shows other) least greatest inner (g.B.Parser.means b) (determined-appending refusable (Shows view) (g.A.Parser.means a) d) e in
    determined-ascending (AreBothSame (Shows whole) (Shows other)) (Gathered g.G.Gather.refusable (MakesOfFirst makes) values)
    (determined-gathered (AreBothSame (AreSameEach (Shows view)) (Shows other)) (AreBothSame (Shows whole) (Shows other)) g.G.Gather.refusable (MakesOfFirst makes) both values one) least greatest

pub returns-clause-folded : goal.returns-clause-folded
returns-clause-folded g c = λ view other f a b respects d e.
    determined-separated_foldl1 (Shows view) (Shows other) (λ (left : g.row.A-Output.Denot) (pair : g.row.B-Output.Denot × g.row.A-Output.Denot) (new : g.row.A-Output.Denot). goal.F-post g f left pair.0 pair.1 new) respects (g.B.Parser.means b) (g.A.Parser.means a) e d
