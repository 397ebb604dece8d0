use Rattle.std.proofs.Common.{◌-◌, List, ◌∷◌, IfErr, arith, ap, subst}
use Rattle.winnow_stream.specs.Source.{width}
use Rattle.winnow_stream.proofs.lemmas.FrontLemmas.{width-append}
use Rattle.winnow_parser.specs.Outcome.{Gives, Fails}
use Rattle.winnow_parser.specs.Answer.{ahead, failed, outcome}
use Rattle.winnow_parser.specs.Meanings.{IsPreceded}
use Rattle.winnow_parser.specs.Errors.{PairErrors}
use Rattle.winnow_combinator.specs.Appended.{AppendingIf, AppendedErrorsIf, needs_some, appends_to_first}
use Rattle.winnow_combinator.specs.Counts.{fewer}
use Rattle.winnow_combinator.specs.Misuse.{TakingErrors, GatheredErrors}
use Rattle.winnow_combinator.specs.Repeat.{OneMore, Repeats, RepeatErrors}
use Rattle.winnow_combinator.specs.Gathering.{Gathered}
use Rattle.winnow_combinator.specs.Separated.{Chained, IfNeeded}
use Rattle.winnow_combinator.proofs.lemmas.AppendedLemmas.{Gathered-later, AppendingIf-fails, AppendingIf-gave}
use Rattle.winnow_combinator.proofs.lemmas.GatherLemmas.{Gathered-fails}
use Rattle.winnow_combinator.proofs.lemmas.SeparatedLemmas.{IfNeeded-first, IfNeeded-fails}
use Rattle.winnow_combinator.proofs.lemmas.ErrorLemmas.{PairErrors-after}
use Rattle.winnow_combinator.proofs.parsers.separated.values.Goals as goal

pub rest-requires-clause-room : goal.rest-requires-clause-room
rest-requires-clause-room g c =
    let stands = ahead g.I.Rest.location g.I.Stream.remaining in
    let list = c.args.list.now in
    let partial = g.I.StreamIsPartial.expects_more c.args.input.now in
    let inner = g.P.Parser.means list.inner in
    let here = stands c.args.input.now in
    let next = stands c.one_more.new.input in
    let asked = AppendingIf-gave c.append_to_first-appends.result g.E.ParserError.append_refusable (OneMore c.args.counts.now.least 0 inner) partial here next _ c.in-Ok-Some.ensures.means in
    let means = subst (λ o. OneMore c.args.counts.now.least 0 inner partial here (Gives o next)) c.in-Ok-Some.field-0-is asked in
    let moves = (g.met.P.Parser.lawful list.inner).onward partial here (Gives c.in-Ok-Some.first next) means in
    omega (arith, c.requires.room, ap width moves.whole, width-append moves.taken next.tokens)

pub returns-in-Ok-Some-clause-means : goal.returns-in-Ok-Some-clause-means
returns-in-Ok-Some-clause-means g c =
    let stands = ahead g.I.Rest.location g.I.Stream.remaining in
    let list = c.args.list.now in
    let counts = c.args.counts.now in
    let first = c.in-Ok-Some.first in
    let partial = g.I.StreamIsPartial.expects_more c.args.input.now in
    let separator = g.S.Parser.means list.separator in
    let inner = g.P.Parser.means list.inner in
    let here = stands c.args.input.now in
    let next = stands c.one_more.new.input in
    let answer = outcome c.rest.result (stands c.rest.new.input) in
    let asked = AppendingIf-gave c.append_to_first-appends.result g.E.ParserError.append_refusable (OneMore counts.least 0 inner) partial here next _ c.in-Ok-Some.ensures.means in
    let means = subst (λ o. OneMore counts.least 0 inner partial here (Gives o next)) c.in-Ok-Some.field-0-is asked in
    let flag = g.met.I.StreamIsPartial.keeps_flag c.args.input.now c.one_more.new.input c.in-Ok-Some.ensures.kept in
    let makes = g.G.Gather.makes list.gather in
    let after_first = λ (xs : List g.row.P-Output.Denot) (whole : g.row.G-Whole.Denot). makes (first ∷ xs) whole in
    let refusable = g.E.ParserError.append_refusable in
    let later = Repeats (counts.least - 1) (fewer counts.greatest) (IsPreceded separator inner) in
    let whole = IfNeeded counts.least (Chained counts.least counts.greatest separator inner) in
    let rest = subst (λ more. Gathered g.G.Gather.refusable after_first (AppendingIf (needs_some (counts.least - 1)) refusable later) more next answer) flag c.rest.ensures.means in
    Gathered-later g.G.Gather.refusable refusable after_first makes later whole partial next here
    (λ v h. IfNeeded-first g.G.Gather.refusable makes counts.greatest separator inner partial here counts.least first next v means h) counts.least counts.greatest answer rest

pub returns-in-Err-clause-means : goal.returns-in-Err-clause-means
returns-in-Err-clause-means g c =
    let stands = ahead g.I.Rest.location g.I.Stream.remaining in
    let list = c.args.list.now in
    let counts = c.args.counts.now in
    let partial = g.I.StreamIsPartial.expects_more c.args.input.now in
    let separator = g.S.Parser.means list.separator in
    let inner = g.P.Parser.means list.inner in
    let here = stands c.args.input.now in
    let refusable = g.E.ParserError.append_refusable in
    let whole = IfNeeded counts.least (Chained counts.least counts.greatest separator inner) in
    let f = failed c.in-Err.failure (stands c.one_more.new.input) in
    let first = appends_to_first counts.least counts.greatest in
    let means = subst (λ flag. AppendingIf flag refusable (OneMore counts.least 0 inner) partial here (Fails f)) c.append_to_first-appends.ensures c.in-Err.ensures.means in
    Gathered-fails g.G.Gather.refusable (g.G.Gather.makes list.gather) (AppendingIf first refusable whole) partial here f
    (AppendingIf-fails first refusable (OneMore counts.least 0 inner) whole partial here f
    (λ k h. IfNeeded-fails g.G.Gather.refusable (g.G.Gather.makes list.gather) counts.greatest separator inner partial here counts.least k h.0 h.1) means)

pub returns-in-Ok-Some-clause-error : goal.returns-in-Ok-Some-clause-error
returns-in-Ok-Some-clause-error g c =
    let stands = ahead g.I.Rest.location g.I.Stream.remaining in
    let list = c.args.list.now in
    let first = c.in-Ok-Some.first in
    let partial = g.I.StreamIsPartial.expects_more c.args.input.now in
    let separator = g.S.Parser.means list.separator in
    let inner = g.P.Parser.means list.inner in
    let errors = g.P.Parser.errors list.inner in
    let pairs = IsPreceded separator inner in
    let stood = ahead g.I.Checkpoint.Rest.location g.I.Stream.remained in
    let appends = g.E.ParserError.append_gives in
    let later = RepeatErrors pairs (AppendedErrorsIf (needs_some (c.args.counts.now.least - 1)) stood appends (TakingErrors g.E.ParserError.assert_gives pairs (PairErrors separator (g.S.Parser.errors list.separator) errors))) in
    let here = stands c.args.input.now in
    let next = stands c.one_more.new.input in
    let left = c.rest.new.input in
    let asked = AppendingIf-gave c.append_to_first-appends.result g.E.ParserError.append_refusable (OneMore c.args.counts.now.least 0 inner) partial here next _ c.in-Ok-Some.ensures.means in
    let means = subst (λ o. OneMore c.args.counts.now.least 0 inner partial here (Gives o next)) c.in-Ok-Some.field-0-is asked in
    let flag = g.met.I.StreamIsPartial.keeps_flag c.args.input.now c.one_more.new.input c.in-Ok-Some.ensures.kept in
    let rest = subst (λ more. IfErr c.rest.result (GatheredErrors later more next left)) flag c.rest.ensures.error in
    PairErrors-after inner (AppendedErrorsIf (appends_to_first c.args.counts.now.least c.args.counts.now.greatest) stood appends errors) partial here next left later first c.rest.result means rest
