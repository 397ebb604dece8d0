use Rattle.std.proofs.Common.{Result, IfErr, inl, refl, subst}
use Rattle.std.proofs.lemmas.Result.{IfErr-weaker}
use Rattle.winnow_parser.specs.Answer.{ahead, outcome}
use Rattle.winnow_count.specs.CountRange.{least_count, greatest_count}
use Rattle.winnow_combinator.specs.Appended.{AppendedErrorsIf, needs_some}
use Rattle.winnow_combinator.specs.Counts.{Ascending}
use Rattle.winnow_combinator.specs.Misuse.{TakingErrors, GatheredErrors, AscendingErrors}
use Rattle.winnow_combinator.specs.Repeat.{RepeatErrors}
use Rattle.winnow_combinator.proofs.lemmas.CountLemmas.{Ascending-asks}
use Rattle.winnow_combinator.specs.TryFold.{TriesFold, TryFoldErrors}
use Rattle.winnow_combinator.proofs.parsers.try_fold.TryFoldParser.parse_next.Goals as goal

pub returns-clause-means : goal.returns-clause-means
returns-clause-means g c =
    let stands = ahead g.I.Rest.location g.I.Stream.remaining in
    let parser = c.args.self.now in
    let counts = c.of-counts.result in
    let partial = g.I.StreamIsPartial.expects_more c.args.input.now in
    let here = stands c.args.input.now in
    let answer = outcome c.fold_all.result (stands c.fold_all.new.input) in
    let refusable = g.E.ParserError.append_refusable in
    let starts = λ (w : g.row.W.Denot). g.N.Fn.post parser.init tt w in
    let step = λ (whole : g.row.W.Denot) (x : g.row.P-Output.Denot) (made : Result g.row.W.Denot g.row.X.Denot). goal.F-post g parser.op whole x made in
    let inner = g.P.Parser.means parser.inner in
    let asked = Ascending-asks counts.least (TriesFold counts.least counts.greatest refusable starts step inner) partial here counts.greatest answer (c.if-not-ascend.ensures.0 refl) c.fold_all.ensures.means in
    subst (λ n. Ascending n.least n.greatest (TriesFold n.least n.greatest refusable starts step inner) partial here answer) {y = record { least = least_count parser.counts; greatest = greatest_count parser.counts }} c.of-counts.ensures asked

pub returns-clause-error : goal.returns-clause-error
returns-clause-error g c =
    let stands = ahead g.I.Rest.location g.I.Stream.remaining in
    let stood = ahead g.I.Checkpoint.Rest.location g.I.Stream.remained in
    let parser = c.args.self.now in
    let counts = c.of-counts.result in
    let partial = g.I.StreamIsPartial.expects_more c.args.input.now in
    let here = stands c.args.input.now in
    let left = c.fold_all.new.input in
    let asserts = g.E.ParserError.assert_gives in
    let appends = g.E.ParserError.append_gives in
    let starts = λ (w : g.row.W.Denot). g.N.Fn.post parser.init tt w in
    let step = λ (whole : g.row.W.Denot) (x : g.row.P-Output.Denot) (made : Result g.row.W.Denot g.row.X.Denot). goal.F-post g parser.op whole x made in
    let tells = λ (cause : g.row.X.Denot) (input : g.row.I.Denot) (e : g.row.E.Denot). g.E.FromExternalError.from_external_gives input cause e in
    let inner = g.P.Parser.means parser.inner in
    let taking = TakingErrors asserts inner (g.P.Parser.errors parser.inner) in
    let values = TryFoldErrors starts step tells inner (GatheredErrors (RepeatErrors inner (AppendedErrorsIf (needs_some counts.least) stood appends taking))) in
    let asked = IfErr-weaker c.fold_all.result (values partial here left) (AscendingErrors counts.least counts.greatest asserts values partial here left) (λ failure e. inl e) c.fold_all.ensures.error in
    subst (λ n. IfErr c.fold_all.result (AscendingErrors n.least n.greatest asserts (TryFoldErrors starts step tells inner (GatheredErrors (RepeatErrors inner (AppendedErrorsIf (needs_some n.least) stood appends taking)))) partial here left)) {y = record { least = least_count parser.counts; greatest = greatest_count parser.counts }} c.of-counts.ensures asked
