use Rattle.winnow_parser.specs.Determined.{Shows}
use Rattle.winnow_parser.specs.Meanings.{IsAlt2}
use Rattle.winnow_parser.proofs.lemmas.DeterminedLemmas.{determined-alt2}
use Rattle.winnow_combinator.specs.Alt.{IsAlt3, IsAlt4, IsAlt5, IsAlt6, IsAlt7, IsAlt8, IsAlt9, IsAlt10}
use Rattle.winnow_combinator.proofs.lemmas.CombinedLemmas.{determined-appending, determined-alt3, determined-alt4, determined-alt5, determined-alt6, determined-alt7, determined-alt8, determined-alt9, determined-alt10}
use Rattle.winnow_combinator.proofs.laws.determined_choice_law.Goals as goal

pub returns-clause-two : goal.returns-clause-two
returns-clause-two g c = λ view a b.
    determined-appending g.E.ParserError.append_refusable (Shows view) (IsAlt2 g.E.ParserError.or_refusable (g.A.Parser.means a.parser) (g.B.Parser.means b.parser))
    (determined-alt2 g.E.ParserError.or_refusable (Shows view) (g.A.Parser.means a.parser) (g.B.Parser.means b.parser) a.one b.one)

pub returns-clause-three : goal.returns-clause-three
returns-clause-three g c = λ view a b c.
    determined-appending g.E.ParserError.append_refusable (Shows view) (IsAlt3 g.E.ParserError.or_refusable (g.A.Parser.means a.parser) (g.B.Parser.means b.parser) (g.C.Parser.means c.parser))
    (determined-alt3 g.E.ParserError.or_refusable (Shows view) (g.A.Parser.means a.parser) (g.B.Parser.means b.parser) (g.C.Parser.means c.parser) a.one b.one c.one)

pub returns-clause-four : goal.returns-clause-four
returns-clause-four g c = λ view a b c d.
    determined-appending g.E.ParserError.append_refusable (Shows view) (IsAlt4 g.E.ParserError.or_refusable (g.A.Parser.means a.parser) (g.B.Parser.means b.parser) (g.C.Parser.means c.parser) (g.D.Parser.means d.parser))
    (determined-alt4 g.E.ParserError.or_refusable (Shows view) (g.A.Parser.means a.parser) (g.B.Parser.means b.parser) (g.C.Parser.means c.parser) (g.D.Parser.means d.parser) a.one b.one c.one d.one)

pub returns-clause-five : goal.returns-clause-five
returns-clause-five g c = λ view a b c d f.
    determined-appending g.E.ParserError.append_refusable (Shows view) (IsAlt5 g.E.ParserError.or_refusable (g.A.Parser.means a.parser) (g.B.Parser.means b.parser) (g.C.Parser.means c.parser) (g.D.Parser.means d.parser) (g.F.Parser.means f.parser))
    (determined-alt5 g.E.ParserError.or_refusable (Shows view) (g.A.Parser.means a.parser) (g.B.Parser.means b.parser) (g.C.Parser.means c.parser) (g.D.Parser.means d.parser) (g.F.Parser.means f.parser) a.one b.one c.one d.one f.one)

pub returns-clause-six : goal.returns-clause-six
returns-clause-six g c = λ view a b c d f q.
    determined-appending g.E.ParserError.append_refusable (Shows view) (IsAlt6 g.E.ParserError.or_refusable (g.A.Parser.means a.parser) (g.B.Parser.means b.parser) (g.C.Parser.means c.parser) (g.D.Parser.means d.parser) (g.F.Parser.means f.parser) (g.G.Parser.means q.parser))
    (determined-alt6 g.E.ParserError.or_refusable (Shows view) (g.A.Parser.means a.parser) (g.B.Parser.means b.parser) (g.C.Parser.means c.parser) (g.D.Parser.means d.parser) (g.F.Parser.means f.parser) (g.G.Parser.means q.parser) a.one b.one c.one d.one f.one q.one)

pub returns-clause-seven : goal.returns-clause-seven
returns-clause-seven g c = λ view a b c d f q h.
    determined-appending g.E.ParserError.append_refusable (Shows view) (IsAlt7 g.E.ParserError.or_refusable (g.A.Parser.means a.parser) (g.B.Parser.means b.parser) (g.C.Parser.means c.parser) (g.D.Parser.means d.parser) (g.F.Parser.means f.parser) (g.G.Parser.means q.parser) (g.H.Parser.means h.parser))
    (determined-alt7 g.E.ParserError.or_refusable (Shows view) (g.A.Parser.means a.parser) (g.B.Parser.means b.parser) (g.C.Parser.means c.parser) (g.D.Parser.means d.parser) (g.F.Parser.means f.parser) (g.G.Parser.means q.parser) (g.H.Parser.means h.parser) a.one b.one c.one d.one f.one q.one h.one)

pub returns-clause-eight : goal.returns-clause-eight
returns-clause-eight g c = λ view a b c d f q h j.
    determined-appending g.E.ParserError.append_refusable (Shows view) (IsAlt8 g.E.ParserError.or_refusable (g.A.Parser.means a.parser) (g.B.Parser.means b.parser) (g.C.Parser.means c.parser) (g.D.Parser.means d.parser) (g.F.Parser.means f.parser) (g.G.Parser.means q.parser) (g.H.Parser.means h.parser) (g.J.Parser.means j.parser))
    (determined-alt8 g.E.ParserError.or_refusable (Shows view) (g.A.Parser.means a.parser) (g.B.Parser.means b.parser) (g.C.Parser.means c.parser) (g.D.Parser.means d.parser) (g.F.Parser.means f.parser) (g.G.Parser.means q.parser) (g.H.Parser.means h.parser) (g.J.Parser.means j.parser) a.one b.one c.one d.one f.one q.one h.one j.one)

pub returns-clause-nine : goal.returns-clause-nine
returns-clause-nine g c = λ view a b c d f q h j k.
    determined-appending g.E.ParserError.append_refusable (Shows view) (IsAlt9 g.E.ParserError.or_refusable (g.A.Parser.means a.parser) (g.B.Parser.means b.parser) (g.C.Parser.means c.parser) (g.D.Parser.means d.parser) (g.F.Parser.means f.parser) (g.G.Parser.means q.parser) (g.H.Parser.means h.parser) (g.J.Parser.means j.parser) (g.K.Parser.means k.parser))
    (determined-alt9 g.E.ParserError.or_refusable (Shows view) (g.A.Parser.means a.parser) (g.B.Parser.means b.parser) (g.C.Parser.means c.parser) (g.D.Parser.means d.parser) (g.F.Parser.means f.parser) (g.G.Parser.means q.parser) (g.H.Parser.means h.parser) (g.J.Parser.means j.parser) (g.K.Parser.means k.parser) a.one b.one c.one d.one f.one q.one h.one j.one k.one)

pub returns-clause-ten : goal.returns-clause-ten
returns-clause-ten g c = λ view a b c d f q h j k l.
    determined-appending g.E.ParserError.append_refusable (Shows view) (IsAlt10 g.E.ParserError.or_refusable (g.A.Parser.means a.parser) (g.B.Parser.means b.parser) (g.C.Parser.means c.parser) (g.D.Parser.means d.parser) (g.F.Parser.means f.parser) (g.G.Parser.means q.parser) (g.H.Parser.means h.parser) (g.J.Parser.means j.parser) (g.K.Parser.means k.parser) (g.L.Parser.means l.parser))
    (determined-alt10 g.E.ParserError.or_refusable (Shows view) (g.A.Parser.means a.parser) (g.B.Parser.means b.parser) (g.C.Parser.means c.parser) (g.D.Parser.means d.parser) (g.F.Parser.means f.parser) (g.G.Parser.means q.parser) (g.H.Parser.means h.parser) (g.J.Parser.means j.parser) (g.K.Parser.means k.parser) (g.L.Parser.means l.parser) a.one b.one c.one d.one f.one q.one h.one j.one k.one l.one)
