use Rattle.std.proofs.Common.{◌-◌, List, ◌∷◌, subst}
use Rattle.std.specs.List.{FoldsTo}
use Rattle.std.proofs.lemmas.Fn.{chained_keeps}
use Rattle.winnow_parser.specs.Answer.{ahead, outcome}
use Rattle.winnow_parser.specs.Meanings.{IsPreceded}
use Rattle.winnow_combinator.specs.Appended.{AppendingIf, needs_some}
use Rattle.winnow_combinator.specs.Counts.{fewer}
use Rattle.winnow_combinator.specs.Repeat.{Repeats}
use Rattle.winnow_combinator.specs.Gathering.{Gathered}
use Rattle.winnow_combinator.proofs.lemmas.GatherLemmas.{Gathered-as}
use Rattle.winnow_combinator.proofs.parsers.separated.rest.Goals as goal

pub returns-in-Ok-clause-means : goal.returns-in-Ok-clause-means
returns-in-Ok-clause-means g c =
    let stands = ahead g.I.Rest.location g.I.Stream.remaining in
    let list = c.args.list.now in
    let gather = list.gather in
    let first = c.args.first in
    let counts = c.args.counts.now in
    let here = stands c.args.input.now in
    let partial = g.I.StreamIsPartial.expects_more c.args.input.now in
    let answer = outcome c.go_on.result (stands c.go_on.new.input) in
    let pairs = IsPreceded (g.S.Parser.means list.separator) (g.P.Parser.means list.inner) in
    let takes = g.G.Gather.takes gather in
    let makes = λ (xs : List g.row.P-Output.Denot) (whole : g.row.G-Whole.Denot). g.G.Gather.makes gather (first ∷ xs) whole in
    let makes_all = λ (xs : List g.row.P-Output.Denot) (whole : g.row.G-Whole.Denot) (folds : FoldsTo takes c.in-Ok.whole xs whole). chained_keeps takes makes (λ ys old x new made taken. g.met.G.Gather.makes_taken gather (first ∷ ys) old new x made taken) xs c.in-Ok.whole whole c.in-Ok.ensures.made folds in
    let refusable = g.E.ParserError.append_refusable in
    let means = subst (λ n. Gathered g.G.Gather.refusable (FoldsTo takes c.in-Ok.whole) (AppendingIf (needs_some n.least) refusable (Repeats n.least n.greatest pairs)) partial here answer) {y = record { least = counts.least - 1; greatest = fewer counts.greatest }} c.after_one.ensures c.go_on.ensures.means in
    Gathered-as g.G.Gather.refusable (FoldsTo takes c.in-Ok.whole) makes (AppendingIf (needs_some (counts.least - 1)) refusable (Repeats (counts.least - 1) (fewer counts.greatest) pairs)) partial here answer makes_all means
