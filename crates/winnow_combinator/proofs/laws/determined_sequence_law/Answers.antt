use Rattle.winnow_parser.specs.Determined.{Shows}
use Rattle.winnow_parser.specs.Meanings.{IsPreceded, IsTerminated}
use Rattle.winnow_parser.proofs.lemmas.DeterminedLemmas.{determined-pair}
use Rattle.winnow_combinator.proofs.lemmas.PartLemmas.{determined-preceded, determined-terminated}
use Rattle.winnow_combinator.proofs.laws.determined_sequence_law.Goals as goal

pub returns-clause-preceded : goal.returns-clause-preceded
returns-clause-preceded g c = λ v w a b. determined-preceded (Shows v) (Shows w) (g.A.Parser.means a.parser) (g.B.Parser.means b.parser) a.one b.one

pub returns-clause-terminated : goal.returns-clause-terminated
returns-clause-terminated g c = λ v w a b. determined-terminated (Shows v) (Shows w) (g.A.Parser.means a.parser) (g.B.Parser.means b.parser) a.one b.one

pub returns-clause-delimited : goal.returns-clause-delimited
returns-clause-delimited g c = λ v w x a b d.
    let last = IsTerminated (g.B.Parser.means b.parser) (g.C.Parser.means d.parser) in
    determined-preceded (Shows v) (Shows w) (g.A.Parser.means a.parser) last a.one
    (determined-terminated (Shows w) (Shows x) (g.B.Parser.means b.parser) (g.C.Parser.means d.parser) b.one d.one)

pub returns-clause-separated_pair : goal.returns-clause-separated_pair
returns-clause-separated_pair g c = λ v w x a b d.
    let last = IsPreceded (g.B.Parser.means b.parser) (g.C.Parser.means d.parser) in
    determined-pair (Shows v) (Shows x) (g.A.Parser.means a.parser) last a.one
    (determined-preceded (Shows w) (Shows x) (g.B.Parser.means b.parser) (g.C.Parser.means d.parser) b.one d.one)
