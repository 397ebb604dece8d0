use Rattle.winnow_parser.specs.Determined.{Shows}
use Rattle.winnow_combinator.specs.DeterminedLists.{AreSameEach}
use Rattle.winnow_combinator.proofs.lemmas.CombinedLemmas.{determined-gathered}
use Rattle.winnow_ascii.specs.Escaped.{IsEscaped, AreSameFragments}
use Rattle.winnow_ascii.proofs.lemmas.EscapedOnceLemmas.{determined-escaped}
use Rattle.winnow_ascii.proofs.laws.determined_escaped_law.Goals as goal

pub returns-clause-fragments : goal.returns-clause-fragments
returns-clause-fragments g c = λ view control other p k q n d e.
    determined-escaped (Shows view) (Shows control) (Shows other) (g.P.Parser.means p) (g.C.Parser.means k) (g.Q.Parser.means q) n d e

pub returns-clause-gathered : goal.returns-clause-gathered
returns-clause-gathered g c = λ view control other whole p k q respects n d e.
    let same = AreSameEach (AreSameFragments (Shows view) (Shows other)) in
    let all = IsEscaped (g.P.Parser.means p) (g.C.Parser.means k) (g.Q.Parser.means q) in
    determined-gathered same (Shows whole) g.A.Accumulate.refusable (λ fragments made. g.A.Accumulate.holds made fragments) respects all
    (determined-escaped (Shows view) (Shows control) (Shows other) (g.P.Parser.means p) (g.C.Parser.means k) (g.Q.Parser.means q) n d e)
