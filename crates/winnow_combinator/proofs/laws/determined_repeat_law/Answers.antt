use Rattle.winnow_parser.specs.Determined.{Shows}
use Rattle.winnow_combinator.specs.Appended.{AppendingIf, needs_some}
use Rattle.winnow_combinator.specs.DeterminedLists.{AreSameEach}
use Rattle.winnow_combinator.specs.Gathering.{Gathered}
use Rattle.winnow_combinator.specs.Repeat.{Repeats}
use Rattle.winnow_combinator.proofs.lemmas.AgreeingLemmas.{determined-repeat}
use Rattle.winnow_combinator.proofs.lemmas.CombinedLemmas.{determined-cond, determined-gathered, determined-appending_if, determined-ascending, determined-separated}
use Rattle.winnow_combinator.proofs.laws.determined_repeat_law.Goals as goal

pub returns-clause-repeated : goal.returns-clause-repeated
returns-clause-repeated g c = λ view a least greatest d. determined-repeat (Shows view) least greatest (g.A.Parser.means a) d

pub returns-clause-gathered : goal.returns-clause-gathered
returns-clause-gathered g c = λ view whole gather a least greatest respects d.
    let values = Repeats least greatest (g.A.Parser.means a) in
    let appending = AppendingIf (needs_some least) g.E.ParserError.append_refusable values in
    let makes = g.G.Gather.makes gather in
    let one = determined-appending_if g.E.ParserError.append_refusable (AreSameEach (Shows view)) values (determined-repeat (Shows view) least greatest (g.A.Parser.means a) d) (needs_some least) in
    determined-ascending (Shows whole) (Gathered g.G.Gather.refusable makes appending)
    (determined-gathered (AreSameEach (Shows view)) (Shows whole) g.G.Gather.refusable makes respects appending one) least greatest

pub returns-clause-separated : goal.returns-clause-separated
returns-clause-separated g c = λ view other a s least greatest q d. determined-separated (Shows view) (Shows other) (g.S.Parser.means s) (g.A.Parser.means a) q d least greatest

pub returns-clause-conditional : goal.returns-clause-conditional
returns-clause-conditional g c = λ view a flag d. determined-cond (Shows view) flag (g.A.Parser.means a) d
