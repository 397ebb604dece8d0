use Rattle.std.proofs.Common.{None, Some, sym, ◌∙◌, arith}
use Rattle.std.proofs.lemmas.List.{take_rest}
use Rattle.winnow_match.specs.Search.{bytes_of_needles}
use Rattle.winnow_match.specs.declared.needles.Stretch.{Stretch}
use Rattle.winnow_match.proofs.lemmas.PlaceLemmas.{hit-span, hit-finds, place-over, place-later, place-first}
use Rattle.winnow_match.proofs.lemmas.TailLemmas.{definite-says}
use Rattle.winnow_match.proofs.movers.stretch.Goals as goal

pub slice_bounds-stands-count : goal.slice_bounds-stands-count
slice_bounds-stands-count c =
    let some = sym c.has_empty.ensures ∙ c.if-has_empty.false in
    omega (arith, hit-span (bytes_of_needles c.args.needles.now) c.args.input.now some c.args.hit.now c.requires)

pub slice_bounds-stands-start : goal.slice_bounds-stands-start
slice_bounds-stands-start c =
    let some = sym c.has_empty.ensures ∙ c.if-has_empty.false in
    omega (arith, hit-span (bytes_of_needles c.args.needles.now) c.args.input.now some c.args.hit.now c.requires)

pub slice_bounds-stands-end : goal.slice_bounds-stands-end
slice_bounds-stands-end c =
    let some = sym c.has_empty.ensures ∙ c.if-has_empty.false in
    omega (arith, hit-span (bytes_of_needles c.args.needles.now) c.args.input.now some c.args.hit.now c.requires)

pub first_place-place-requires : goal.first_place-place-requires
first_place-place-requires c =
    let some = sym c.has_empty.ensures ∙ c.if-has_empty.false in
    hit-finds (bytes_of_needles c.args.needles.now) c.args.input.now some c.args.hit.now c.requires

-- no needle stretches up to the hit
pub returns-then-hit-place-clause-value : goal.returns-then-hit-place-clause-value
returns-then-hit-place-clause-value c =
    let some = sym c.has_empty.ensures ∙ c.if-has_empty.false in
    sym (place-over (bytes_of_needles c.args.needles.now) c.args.input.now some c.args.hit.now c.requires c.first_place-place.result c.first_place-place.ensures c.if-hit-place.true)

pub returns-then-hit-place-clause-definite : goal.returns-then-hit-place-clause-definite
returns-then-hit-place-clause-definite c = definite-says (bytes_of_needles c.args.needles.now) c.args.input.now c.args.hit.now None c.requires (returns-then-hit-place-clause-value c)

pub returns-in-Some-clause-value : goal.returns-in-Some-clause-value
returns-in-Some-clause-value c =
    let some = sym c.has_empty.ensures ∙ c.if-has_empty.false in
    sym (place-first (bytes_of_needles c.args.needles.now) c.args.input.now some c.args.hit.now c.requires c.first_place-place.result c.first_place-place.ensures c.if-hit-place.false c.in-Some.needle (sym (rw (take_rest c.args.input.now c.first_place-place.result) at c.mover.ensures) ∙ c.in-Some.is))

pub returns-in-Some-clause-definite : goal.returns-in-Some-clause-definite
returns-in-Some-clause-definite c =
    let s : Stretch = record { needle = c.in-Some.needle; place = c.first_place-place.result } in
    definite-says (bytes_of_needles c.args.needles.now) c.args.input.now c.args.hit.now (Some s) c.requires (returns-in-Some-clause-value c)

-- one stretches at the hit, but is listed after the one that stands there
pub returns-in-None-clause-value : goal.returns-in-None-clause-value
returns-in-None-clause-value c =
    let some = sym c.has_empty.ensures ∙ c.if-has_empty.false in
    sym (place-later (bytes_of_needles c.args.needles.now) c.args.input.now some c.args.hit.now c.requires c.first_place-place.result c.first_place-place.ensures c.if-hit-place.false (sym (rw (take_rest c.args.input.now c.first_place-place.result) at c.mover.ensures) ∙ c.in-None.is))

pub returns-in-None-clause-definite : goal.returns-in-None-clause-definite
returns-in-None-clause-definite c = definite-says (bytes_of_needles c.args.needles.now) c.args.input.now c.args.hit.now None c.requires (returns-in-None-clause-value c)
