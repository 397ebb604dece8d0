use Rattle.std.proofs.Common.{List, IfErr, inl, refl, subst}
use Rattle.std.specs.List.{FoldsTo}
use Rattle.std.proofs.lemmas.Fn.{chained_keeps}
use Rattle.std.proofs.lemmas.Result.{IfErr-weaker}
use Rattle.winnow_parser.specs.Answer.{ahead, outcome}
use Rattle.winnow_count.specs.CountRange.{least_count, greatest_count}
use Rattle.winnow_combinator.specs.Appended.{AppendingIf, AppendedErrorsIf, needs_some}
use Rattle.winnow_combinator.specs.Counts.{Ascending}
use Rattle.winnow_combinator.specs.Repeat.{Repeats, RepeatErrors}
use Rattle.winnow_combinator.specs.Misuse.{TakingErrors, GatheredErrors, AscendingErrors}
use Rattle.winnow_combinator.specs.Gathering.{Gathered}
use Rattle.winnow_combinator.proofs.lemmas.CountLemmas.{Ascending-asks}
use Rattle.winnow_combinator.proofs.lemmas.GatherLemmas.{Gathered-as}
use Rattle.winnow_combinator.proofs.parsers.repeat.RepeatParser.parse_next.Goals as goal

pub returns-in-Ok-clause-means : goal.returns-in-Ok-clause-means
returns-in-Ok-clause-means g c =
    let stands = ahead g.I.Rest.location g.I.Stream.remaining in
    let parser = c.args.self.now in
    let counts = c.of-counts.result in
    let partial = g.I.StreamIsPartial.expects_more c.args.input.now in
    let answer = outcome c.go_on.result (stands c.go_on.new.input) in
    let takes = g.G.Gather.takes parser.gather in
    let makes = g.G.Gather.makes parser.gather in
    let refusable = g.E.ParserError.append_refusable in
    let repeated = AppendingIf (needs_some counts.least) refusable (Repeats counts.least counts.greatest (g.P.Parser.means parser.inner)) in
    let makes_all = λ (xs : List g.row.P-Output.Denot) (whole : g.row.G-Whole.Denot) (folds : FoldsTo takes c.in-Ok.whole xs whole). chained_keeps takes makes (λ ys old x new made taken. g.met.G.Gather.makes_taken parser.gather ys old new x made taken) xs c.in-Ok.whole whole c.in-Ok.ensures.made folds in
    let made = Gathered-as g.G.Gather.refusable (FoldsTo takes c.in-Ok.whole) makes repeated partial (stands c.args.input.now) answer makes_all c.go_on.ensures.means in
    let asked = Ascending-asks counts.least (Gathered g.G.Gather.refusable makes repeated) partial (stands c.args.input.now) counts.greatest answer (c.if-not-ascend.ensures.0 refl) made in
    subst (λ n. Ascending n.least n.greatest (Gathered g.G.Gather.refusable makes (AppendingIf (needs_some n.least) refusable (Repeats n.least n.greatest (g.P.Parser.means parser.inner)))) partial (stands c.args.input.now) answer) {y = record { least = least_count parser.counts; greatest = greatest_count parser.counts }} c.of-counts.ensures asked

pub returns-in-Ok-clause-error : goal.returns-in-Ok-clause-error
returns-in-Ok-clause-error g c =
    let stands = ahead g.I.Rest.location g.I.Stream.remaining in
    let stood = ahead g.I.Checkpoint.Rest.location g.I.Stream.remained in
    let parser = c.args.self.now in
    let counts = c.of-counts.result in
    let partial = g.I.StreamIsPartial.expects_more c.args.input.now in
    let here = stands c.args.input.now in
    let left = c.go_on.new.input in
    let asserts = g.E.ParserError.assert_gives in
    let appends = g.E.ParserError.append_gives in
    let inner = g.P.Parser.means parser.inner in
    let taking = TakingErrors asserts inner (g.P.Parser.errors parser.inner) in
    let values = GatheredErrors (RepeatErrors inner (AppendedErrorsIf (needs_some counts.least) stood appends taking)) in
    let asked = IfErr-weaker c.go_on.result (values partial here left) (AscendingErrors counts.least counts.greatest asserts values partial here left) (λ failure e. inl e) c.go_on.ensures.error in
    subst (λ n. IfErr c.go_on.result (AscendingErrors n.least n.greatest asserts (GatheredErrors (RepeatErrors inner (AppendedErrorsIf (needs_some n.least) stood appends taking))) partial here left)) {y = record { least = least_count parser.counts; greatest = greatest_count parser.counts }} c.of-counts.ensures asked
