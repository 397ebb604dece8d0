use Rattle.winnow_parser.specs.Determined.{Shows}
use Rattle.winnow_parser.proofs.lemmas.RowLemmas.{determined-row3, determined-row4, determined-row5, determined-row6, determined-row7, determined-row8, determined-row9, determined-row10}
use Rattle.winnow_combinator.proofs.laws.determined_row_law.Goals as goal

pub returns-clause-three : goal.returns-clause-three
returns-clause-three g c = λ v1 v2 v3 a b c. determined-row3 (Shows v1) (Shows v2) (Shows v3) (g.A.Parser.means a.parser) (g.B.Parser.means b.parser) (g.C.Parser.means c.parser) a.one b.one c.one

pub returns-clause-four : goal.returns-clause-four
returns-clause-four g c = λ v1 v2 v3 v4 a b c d. determined-row4 (Shows v1) (Shows v2) (Shows v3) (Shows v4) (g.A.Parser.means a.parser) (g.B.Parser.means b.parser) (g.C.Parser.means c.parser) (g.D.Parser.means d.parser) a.one b.one c.one d.one

pub returns-clause-five : goal.returns-clause-five
returns-clause-five g c = λ v1 v2 v3 v4 v5 a b c d f. determined-row5 (Shows v1) (Shows v2) (Shows v3) (Shows v4) (Shows v5) (g.A.Parser.means a.parser) (g.B.Parser.means b.parser) (g.C.Parser.means c.parser) (g.D.Parser.means d.parser) (g.F.Parser.means f.parser) a.one b.one c.one d.one f.one

pub returns-clause-six : goal.returns-clause-six
returns-clause-six g c = λ v1 v2 v3 v4 v5 v6 a b c d f q. determined-row6 (Shows v1) (Shows v2) (Shows v3) (Shows v4) (Shows v5) (Shows v6) (g.A.Parser.means a.parser) (g.B.Parser.means b.parser) (g.C.Parser.means c.parser) (g.D.Parser.means d.parser) (g.F.Parser.means f.parser) (g.G.Parser.means q.parser) a.one b.one c.one d.one f.one q.one

pub returns-clause-seven : goal.returns-clause-seven
returns-clause-seven g c = λ v1 v2 v3 v4 v5 v6 v7 a b c d f q h. determined-row7 (Shows v1) (Shows v2) (Shows v3) (Shows v4) (Shows v5) (Shows v6) (Shows v7) (g.A.Parser.means a.parser) (g.B.Parser.means b.parser) (g.C.Parser.means c.parser) (g.D.Parser.means d.parser) (g.F.Parser.means f.parser) (g.G.Parser.means q.parser) (g.H.Parser.means h.parser) a.one b.one c.one d.one f.one q.one h.one

pub returns-clause-eight : goal.returns-clause-eight
returns-clause-eight g c = λ v1 v2 v3 v4 v5 v6 v7 v8 a b c d f q h j. determined-row8 (Shows v1) (Shows v2) (Shows v3) (Shows v4) (Shows v5) (Shows v6) (Shows v7) (Shows v8) (g.A.Parser.means a.parser) (g.B.Parser.means b.parser) (g.C.Parser.means c.parser) (g.D.Parser.means d.parser) (g.F.Parser.means f.parser) (g.G.Parser.means q.parser) (g.H.Parser.means h.parser) (g.J.Parser.means j.parser) a.one b.one c.one d.one f.one q.one h.one j.one

pub returns-clause-nine : goal.returns-clause-nine
returns-clause-nine g c = λ v1 v2 v3 v4 v5 v6 v7 v8 v9 a b c d f q h j k. determined-row9 (Shows v1) (Shows v2) (Shows v3) (Shows v4) (Shows v5) (Shows v6) (Shows v7) (Shows v8) (Shows v9) (g.A.Parser.means a.parser) (g.B.Parser.means b.parser) (g.C.Parser.means c.parser) (g.D.Parser.means d.parser) (g.F.Parser.means f.parser) (g.G.Parser.means q.parser) (g.H.Parser.means h.parser) (g.J.Parser.means j.parser) (g.K.Parser.means k.parser) a.one b.one c.one d.one f.one q.one h.one j.one k.one

pub returns-clause-ten : goal.returns-clause-ten
returns-clause-ten g c = λ v1 v2 v3 v4 v5 v6 v7 v8 v9 v10 a b c d f q h j k l. determined-row10 (Shows v1) (Shows v2) (Shows v3) (Shows v4) (Shows v5) (Shows v6) (Shows v7) (Shows v8) (Shows v9) (Shows v10) (g.A.Parser.means a.parser) (g.B.Parser.means b.parser) (g.C.Parser.means c.parser) (g.D.Parser.means d.parser) (g.F.Parser.means f.parser) (g.G.Parser.means q.parser) (g.H.Parser.means h.parser) (g.J.Parser.means j.parser) (g.K.Parser.means k.parser) (g.L.Parser.means l.parser) a.one b.one c.one d.one f.one q.one h.one j.one k.one l.one
