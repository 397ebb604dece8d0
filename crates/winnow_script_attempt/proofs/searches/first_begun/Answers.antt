use Rattle.std.proofs.Common.{◌+◌, ap, refl, sym, ◌∙◌, arith}
use Rattle.winnow_match.specs.Search.{hit, bytes_of_needles}
use Rattle.winnow_match.specs.Stretch.{mover}
use Rattle.winnow_script_attempt.specs.Fitting.{first_bytes}
use Rattle.winnow_script_attempt.proofs.lemmas.BegunLemmas.{begun-at, begun-nowhere, none-empty_found, passed-place, passed-to, passed-all}
use Rattle.winnow_script_attempt.proofs.searches.first_begun.Goals as goal

pub overflow_add-place : goal.overflow_add-place
overflow_add-place c =
    let ls = bytes_of_needles c.args.needles.now in
    let to = passed-to ls c.args.bytes.now c.requires.none c.loop-start.place c.in-Some.start c.loop-start.invariant.none (ap (hit (first_bytes ls)) (sym c.behind.ensures) ∙ sym c.in-Some.ensures) in
    omega (arith, to.1)

pub behind-requires-in-Some : goal.behind-requires-in-Some
behind-requires-in-Some c =
    let ls = bytes_of_needles c.args.needles.now in
    let to = passed-to ls c.args.bytes.now c.requires.none c.loop-start.place c.in-Some.start c.loop-start.invariant.none (ap (hit (first_bytes ls)) (sym c.behind.ensures) ∙ sym c.in-Some.ensures) in
    omega (arith, to.1)

pub overflow_sub-result : goal.overflow_sub-result
overflow_sub-result c =
    let ls = bytes_of_needles c.args.needles.now in
    let to = passed-to ls c.args.bytes.now c.requires.none c.loop-start.place c.in-Some.start c.loop-start.invariant.none (ap (hit (first_bytes ls)) (sym c.behind.ensures) ∙ sym c.in-Some.ensures) in
    omega (arith, to.1)

pub returns-in-Some-mover : goal.returns-in-Some-mover
returns-in-Some-mover c =
    let ls = bytes_of_needles c.args.needles.now in
    let bs = c.args.bytes.now in
    let to = passed-to ls bs c.requires.none c.loop-start.place c.in-Some.start c.loop-start.invariant.none (ap (hit (first_bytes ls)) (sym c.behind.ensures) ∙ sym c.in-Some.ensures) in
    begun-at ls bs _ (none-empty_found ls bs c.requires.none) to.0 (ap (mover ls) (sym c.behind-in-Some.ensures) ∙ sym c.mover.ensures ∙ c.in-Some-mover.is) refl

pub loop-start-preserved : goal.loop-start-preserved
loop-start-preserved c =
    let ls = bytes_of_needles c.args.needles.now in
    let bs = c.args.bytes.now in
    let to = passed-to ls bs c.requires.none c.loop-start.place c.in-Some.start c.loop-start.invariant.none (ap (hit (first_bytes ls)) (sym c.behind.ensures) ∙ sym c.in-Some.ensures) in
    record { none = passed-place ls bs (c.loop-start.place + c.in-Some.start.start) c.requires.none to.0 to.1 (ap (mover ls) (sym c.behind-in-Some.ensures) ∙ sym c.in_default-mover.ensures) }

pub returns : goal.returns
returns c =
    let ls = bytes_of_needles c.args.needles.now in
    let bs = c.args.bytes.now in
    begun-nowhere ls bs _ (passed-all ls bs c.requires.none c.loop-start.place c.loop-start.invariant.none (ap (hit (first_bytes ls)) (sym c.behind.ensures) ∙ sym c.in_default.ensures)) refl refl
