use Rattle.std.proofs.Common.{IfErr, inl, refl, subst}
use Rattle.std.proofs.lemmas.Result.{IfErr-weaker}
use Rattle.winnow_parser.specs.Answer.{ahead, outcome}
use Rattle.winnow_parser.specs.Meanings.{IsPreceded}
use Rattle.winnow_count.specs.CountRange.{least_count, greatest_count}
use Rattle.winnow_combinator.specs.Appended.{AppendingIf, appends_to_first}
use Rattle.winnow_combinator.specs.Counts.{Ascending}
use Rattle.winnow_combinator.specs.Misuse.{GatheredErrors, AscendingErrors}
use Rattle.winnow_combinator.specs.Gathering.{Gathered}
use Rattle.winnow_combinator.specs.Separated.{Chained, IfNeeded, IsSeparated, Countable, SeparatedErrors}
use Rattle.winnow_combinator.proofs.lemmas.AppendedLemmas.{Gathered-appending_if}
use Rattle.winnow_combinator.proofs.lemmas.CountLemmas.{Ascending-asks}
use Rattle.winnow_combinator.proofs.lemmas.SeparatedLemmas.{IsSeparated-asks, Countable-passes}
use Rattle.winnow_combinator.proofs.parsers.separated.SeparatedParser.parse_next.Goals as goal

pub returns-then-allow_more-clause-means : goal.returns-then-allow_more-clause-means
returns-then-allow_more-clause-means g c =
    let stands = ahead g.I.Rest.location g.I.Stream.remaining in
    let list = c.args.self.now in
    let counts = c.of-counts.result in
    let here = stands c.args.input.now in
    let partial = g.I.StreamIsPartial.expects_more c.args.input.now in
    let answer = outcome c.values.result (stands c.values.new.input) in
    let separator = g.S.Parser.means list.separator in
    let inner = g.P.Parser.means list.inner in
    let refusable = g.G.Gather.refusable in
    let makes = g.G.Gather.makes list.gather in
    let appends = g.E.ParserError.append_refusable in
    let first = appends_to_first counts.least counts.greatest in
    let asks = IfNeeded counts.least (Chained counts.least counts.greatest separator inner) in
    let separated = IsSeparated counts.least counts.greatest separator inner in
    let gathered = Gathered refusable makes (AppendingIf first appends separated) in
    let asked = Gathered-appending_if refusable appends makes makes asks separated partial here here
    (λ v h. IsSeparated-asks refusable makes counts.least separator inner partial here counts.greatest v (c.if-allow_more.ensures.0 refl) h) first answer c.values.ensures.means in
    let countable = Countable-passes gathered partial here answer asked in
    let all = Ascending-asks counts.least (Countable gathered) partial here counts.greatest answer (c.if-not-ascend.ensures.0 refl) countable in
    subst (λ n. Ascending n.least n.greatest (Countable (Gathered refusable makes (AppendingIf (appends_to_first n.least n.greatest) appends (IsSeparated n.least n.greatest separator inner)))) partial here answer) {y = record { least = least_count list.counts; greatest = greatest_count list.counts }} c.of-counts.ensures all

pub returns-then-allow_more-clause-error : goal.returns-then-allow_more-clause-error
returns-then-allow_more-clause-error g c =
    let stands = ahead g.I.Rest.location g.I.Stream.remaining in
    let stood = ahead g.I.Checkpoint.Rest.location g.I.Stream.remained in
    let list = c.args.self.now in
    let counts = c.of-counts.result in
    let partial = g.I.StreamIsPartial.expects_more c.args.input.now in
    let here = stands c.args.input.now in
    let left = c.values.new.input in
    let asserts = g.E.ParserError.assert_gives in
    let appends = g.E.ParserError.append_gives in
    let separator = g.S.Parser.means list.separator in
    let separator_errors = g.S.Parser.errors list.separator in
    let inner = g.P.Parser.means list.inner in
    let errors = g.P.Parser.errors list.inner in
    let pairs = IsPreceded separator inner in
    let all = GatheredErrors (SeparatedErrors counts.least counts.greatest stood appends asserts pairs separator separator_errors inner errors) in
    let asked = IfErr-weaker c.values.result (all partial here left) (AscendingErrors counts.least counts.greatest asserts all partial here left) (λ failure e. inl e) c.values.ensures.error in
    subst (λ n. IfErr c.values.result (AscendingErrors n.least n.greatest asserts (GatheredErrors (SeparatedErrors n.least n.greatest stood appends asserts pairs separator separator_errors inner errors)) partial here left)) {y = record { least = least_count list.counts; greatest = greatest_count list.counts }} c.of-counts.ensures asked
