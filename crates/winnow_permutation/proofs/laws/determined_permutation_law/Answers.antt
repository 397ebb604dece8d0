use Rattle.winnow_parser.specs.Determined.{Shows}
use Rattle.winnow_permutation.proofs.lemmas.DeterminedLemmas.{determined-permutation2, determined-permutation3, determined-permutation4, determined-permutation5}
use Rattle.winnow_permutation.proofs.laws.determined_permutation_law.Goals as goal

pub returns-clause-two : goal.returns-clause-two
returns-clause-two g c = λ v w a b.
    determined-permutation2 g.E.ParserError.or_refusable g.E.ParserError.append_refusable (Shows v) (Shows w) (g.A.Parser.means a.parser) (g.B.Parser.means b.parser) a.one b.one

pub returns-clause-three : goal.returns-clause-three
returns-clause-three g c = λ v w x a b d.
    determined-permutation3 g.E.ParserError.or_refusable g.E.ParserError.append_refusable (Shows v) (Shows w) (Shows x) (g.A.Parser.means a.parser) (g.B.Parser.means b.parser) (g.C.Parser.means d.parser) a.one b.one d.one

pub returns-clause-four : goal.returns-clause-four
returns-clause-four g c = λ v w x y a b d e.
    determined-permutation4 g.E.ParserError.or_refusable g.E.ParserError.append_refusable (Shows v) (Shows w) (Shows x) (Shows y)
    (g.A.Parser.means a.parser) (g.B.Parser.means b.parser) (g.C.Parser.means d.parser) (g.D.Parser.means e.parser) a.one b.one d.one e.one

pub returns-clause-five : goal.returns-clause-five
returns-clause-five g c = λ v w x y z a b d e f.
    determined-permutation5 g.E.ParserError.or_refusable g.E.ParserError.append_refusable (Shows v) (Shows w) (Shows x) (Shows y) (Shows z)
    (g.A.Parser.means a.parser) (g.B.Parser.means b.parser) (g.C.Parser.means d.parser) (g.D.Parser.means e.parser) (g.F.Parser.means f.parser)
    a.one b.one d.one e.one f.one
