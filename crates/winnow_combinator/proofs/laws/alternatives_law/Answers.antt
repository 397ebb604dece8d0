use Rattle.winnow_combinator.proofs.lemmas.AltLemmas.{left-alike, right-alike, left-wholly, right-wholly}
use Rattle.winnow_combinator.proofs.laws.alternatives_law.Goals as goal

pub returns-clause-left : goal.returns-clause-left
returns-clause-left g c = λ x y z. left-alike g.E.ParserError.append_refusable g.E.ParserError.or_refusable (g.A.Parser.means x) (g.B.Parser.means y) (g.C.Parser.means z)

pub returns-clause-right : goal.returns-clause-right
returns-clause-right g c = λ x y z. right-alike g.E.ParserError.append_refusable g.E.ParserError.or_refusable (g.A.Parser.means x) (g.B.Parser.means y) (g.C.Parser.means z)

pub returns-clause-left_wholly : goal.returns-clause-left_wholly
returns-clause-left_wholly g c = λ never x y z. left-wholly g.E.ParserError.append_refusable g.E.ParserError.or_refusable (g.A.Parser.means x) (g.B.Parser.means y) (g.C.Parser.means z) never

pub returns-clause-right_wholly : goal.returns-clause-right_wholly
returns-clause-right_wholly g c = λ never x y z. right-wholly g.E.ParserError.append_refusable g.E.ParserError.or_refusable (g.A.Parser.means x) (g.B.Parser.means y) (g.C.Parser.means z) never
