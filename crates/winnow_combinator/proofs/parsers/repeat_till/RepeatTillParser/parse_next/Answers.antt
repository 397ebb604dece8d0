use Rattle.std.proofs.Common.{List, IfErr, inl, refl, subst}
use Rattle.std.specs.List.{FoldsTo}
use Rattle.std.proofs.lemmas.Fn.{chained_keeps}
use Rattle.std.proofs.lemmas.Result.{IfErr-weaker}
use Rattle.winnow_parser.specs.Answer.{ahead, outcome}
use Rattle.winnow_count.specs.CountRange.{least_count, greatest_count}
use Rattle.winnow_combinator.specs.Appended.{Appending, AppendedErrors}
use Rattle.winnow_combinator.specs.Counts.{Ascending}
use Rattle.winnow_combinator.specs.Misuse.{TakingErrors, GatheredErrors, AscendingErrors}
use Rattle.winnow_combinator.specs.Gathering.{Gathered}
use Rattle.winnow_combinator.specs.RepeatTill.{RepeatsTill, MakesOfFirst, RepeatTillErrors}
use Rattle.winnow_combinator.proofs.lemmas.CountLemmas.{Ascending-asks}
use Rattle.winnow_combinator.proofs.lemmas.GatherLemmas.{Gathered-as}
use Rattle.winnow_combinator.proofs.parsers.repeat_till.RepeatTillParser.parse_next.Goals as goal

pub returns-in-Ok-clause-means : goal.returns-in-Ok-clause-means
returns-in-Ok-clause-means g c =
    let stands = ahead g.I.Rest.location g.I.Stream.remaining in
    let parser = c.args.self.now in
    let counts = c.of-counts.result in
    let partial = g.I.StreamIsPartial.expects_more c.args.input.now in
    let here = stands c.args.input.now in
    let answer = outcome c.go_till.result (stands c.go_till.new.input) in
    let takes = g.G.Gather.takes parser.gather in
    let makes = g.G.Gather.makes parser.gather in
    let refusable = g.G.Gather.refusable in
    let inner = Appending g.E.ParserError.append_refusable (g.P.Parser.means parser.inner) in
    let terminator = g.Q.Parser.means parser.terminator in
    let values = RepeatsTill counts.least counts.greatest inner terminator in
    let makes_all = λ (xs : List g.row.P-Output.Denot) (whole : g.row.G-Whole.Denot) (folds : FoldsTo takes c.in-Ok.whole xs whole). chained_keeps takes makes (λ ys old x new made taken. g.met.G.Gather.makes_taken parser.gather ys old new x made taken) xs c.in-Ok.whole whole c.in-Ok.ensures.made folds in
    let both = λ (x : List g.row.P-Output.Denot × g.row.Q-Output.Denot) (y : g.row.G-Whole.Denot × g.row.Q-Output.Denot) (made : MakesOfFirst (FoldsTo takes c.in-Ok.whole) x y). (let all : MakesOfFirst makes x y = (makes_all x.0 y.0 made.0, made.1) in all) in
    let made = Gathered-as refusable (MakesOfFirst (FoldsTo takes c.in-Ok.whole)) (MakesOfFirst makes) values partial here answer both c.go_till.ensures.means in
    let asked = Ascending-asks counts.least (Gathered refusable (MakesOfFirst makes) values) partial here counts.greatest answer (c.if-not-ascend.ensures.0 refl) made in
    subst (λ n. Ascending n.least n.greatest (Gathered refusable (MakesOfFirst makes) (RepeatsTill n.least n.greatest inner terminator)) partial here answer) {y = record { least = least_count parser.counts; greatest = greatest_count parser.counts }} c.of-counts.ensures asked

pub returns-in-Ok-clause-error : goal.returns-in-Ok-clause-error
returns-in-Ok-clause-error g c =
    let stands = ahead g.I.Rest.location g.I.Stream.remaining in
    let stood = ahead g.I.Checkpoint.Rest.location g.I.Stream.remained in
    let parser = c.args.self.now in
    let counts = c.of-counts.result in
    let partial = g.I.StreamIsPartial.expects_more c.args.input.now in
    let here = stands c.args.input.now in
    let left = c.go_till.new.input in
    let asserts = g.E.ParserError.assert_gives in
    let inner = Appending g.E.ParserError.append_refusable (g.P.Parser.means parser.inner) in
    let errors = TakingErrors asserts inner (AppendedErrors stood g.E.ParserError.append_gives (g.P.Parser.errors parser.inner)) in
    let terminator = g.Q.Parser.means parser.terminator in
    let terminator_errors = g.Q.Parser.errors parser.terminator in
    let values = GatheredErrors (RepeatTillErrors counts.least counts.greatest inner errors terminator terminator_errors) in
    let asked = IfErr-weaker c.go_till.result (values partial here left) (AscendingErrors counts.least counts.greatest asserts values partial here left) (λ failure e. inl e) c.go_till.ensures.error in
    subst (λ n. IfErr c.go_till.result (AscendingErrors n.least n.greatest asserts (GatheredErrors (RepeatTillErrors n.least n.greatest inner errors terminator terminator_errors)) partial here left)) {y = record { least = least_count parser.counts; greatest = greatest_count parser.counts }} c.of-counts.ensures asked
