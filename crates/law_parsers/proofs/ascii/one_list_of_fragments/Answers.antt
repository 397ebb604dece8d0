use Rattle.std.proofs.Common.{◌≡◌}
use Rattle.winnow_combinator.specs.DeterminedLists.{AreSameEach}
use Rattle.winnow_ascii.specs.Escaped.{IsEscaped, AreSameFragments}
use Rattle.law_parsers.proofs.lemmas.AsciiFailureLemmas.{same-fragments, one-value}
use Rattle.law_parsers.proofs.ascii.one_list_of_fragments.Goals as goal

pub returns : goal.returns
returns g c = λ view p k q n d e.
    one-value (AreSameEach (AreSameFragments ◌≡◌ ◌≡◌)) (IsEscaped (g.P.Parser.means p) (g.C.Parser.means k) (g.Q.Parser.means q)) same-fragments
    (c.determined_escaped_law.ensures.fragments (λ x. x) view (λ y. y) p k q n d e)
