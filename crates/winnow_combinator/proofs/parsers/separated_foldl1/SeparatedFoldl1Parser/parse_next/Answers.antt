use Rattle.std.proofs.Common.{None, IfErr, subst}
use Rattle.std.specs.List.{FoldsTo}
use Rattle.winnow_parser.specs.Answer.{ahead, outcome}
use Rattle.winnow_parser.specs.Meanings.{Pair}
use Rattle.winnow_parser.specs.Errors.{PairErrors}
use Rattle.winnow_combinator.specs.Misuse.{TakingErrors, GatheredErrors}
use Rattle.winnow_combinator.specs.Repeat.{Repeats, RepeatErrors}
use Rattle.winnow_combinator.specs.Gathering.{Gathered}
use Rattle.winnow_combinator.proofs.lemmas.SeparatedLemmas.{IsSeparatedFoldl1-first}
use Rattle.winnow_combinator.proofs.lemmas.ErrorLemmas.{PairErrors-after}
use Rattle.winnow_combinator.proofs.parsers.separated_foldl1.SeparatedFoldl1Parser.parse_next.Goals as goal

pub returns-clause-means : goal.returns-clause-means
returns-clause-means g c =
    let stands = ahead g.I.Rest.location g.I.Stream.remaining in
    let parser = c.args.self.now in
    let here = stands c.args.input.now in
    let between = stands c.parse_next.new.input in
    let first = c.in_ok-first.first in
    let partial = g.I.StreamIsPartial.expects_more c.args.input.now in
    let answer = outcome c.go_on.result (stands c.go_on.new.input) in
    let flag = g.met.I.StreamIsPartial.keeps_flag c.args.input.now c.parse_next.new.input c.in_ok-first.ensures.kept in
    let separator = g.S.Parser.means parser.separator in
    let inner = g.P.Parser.means parser.inner in
    let step = λ (left : g.row.O.Denot) (pair : g.row.T.Denot × g.row.O.Denot) (new : g.row.O.Denot). goal.F-post g parser.op left pair.0 pair.1 new in
    let rest = subst (λ more. Gathered ⊥ (FoldsTo step first) (Repeats 0 None (Pair separator inner)) more between answer) flag c.go_on.ensures.means in
    IsSeparatedFoldl1-first step separator inner partial here first between answer c.in_ok-first.ensures.means rest

pub returns-clause-error : goal.returns-clause-error
returns-clause-error g c =
    let stands = ahead g.I.Rest.location g.I.Stream.remaining in
    let parser = c.args.self.now in
    let here = stands c.args.input.now in
    let between = stands c.parse_next.new.input in
    let left = c.go_on.new.input in
    let partial = g.I.StreamIsPartial.expects_more c.args.input.now in
    let flag = g.met.I.StreamIsPartial.keeps_flag c.args.input.now c.parse_next.new.input c.in_ok-first.ensures.kept in
    let separator = g.S.Parser.means parser.separator in
    let inner = g.P.Parser.means parser.inner in
    let errors = g.P.Parser.errors parser.inner in
    let pairs = Pair separator inner in
    let later = RepeatErrors pairs (TakingErrors g.E.ParserError.assert_gives pairs (PairErrors separator (g.S.Parser.errors parser.separator) errors)) in
    let rest = subst (λ more. IfErr c.go_on.result (GatheredErrors later more between left)) flag c.go_on.ensures.error in
    PairErrors-after inner errors partial here between left later c.in_ok-first.first c.go_on.result c.in_ok-first.ensures.means rest
