use Rattle.std.proofs.Common.{◌≡◌, ◌-◌, Some, sym, ◌∙◌, subst, arith, drop, false, ◌+◌}
use Rattle.std.proofs.lemmas.Option.{none-some, same_Some}
use Rattle.std.proofs.lemmas.List.{take_rest}
use Rattle.memchr.specs.Find.{FindsNeedle}
use Rattle.winnow_match.specs.Stretch.{stretches}
use Rattle.winnow_match.proofs.lemmas.PlaceLemmas.{place-short, place-behind, place-here}
use Rattle.winnow_match.proofs.movers.place_of.Goals as goal

pub overflow_sub-input : goal.overflow_sub-input
overflow_sub-input c = omega (arith, c.requires.1.fits)

pub returns-then-needle-input : goal.returns-then-needle-input
returns-then-needle-input c =
    place-short c.args.needle.now c.args.input.now c.args.stands.now c.args.at c.requires (c.args.at + 1) (omega arith) c.if-needle-input.true

-- what stands there stands nowhere in the needle
pub returns-in_default : goal.returns-in_default
returns-in_default c =
    place-behind c.args.needle.now c.args.input.now c.args.stands.now c.args.at c.requires c.find.result (c.args.at + 1) c.find.ensures (omega arith) (λ q low is. absurd (none-some (c.args.at - q) (sym c.in_default.is ∙ is)))

-- what stands there stands too late in the needle
pub returns-then-at-distance : goal.returns-then-at-distance
returns-then-at-distance c =
    place-behind c.args.needle.now c.args.input.now c.args.stands.now c.args.at c.requires c.find.result (c.args.at + 1) c.find.ensures (omega arith)
    (λ q low is. absurd (omega (arith, same_Some c.in-Some.distance (c.args.at - q) (sym c.in-Some.is ∙ is), c.if-at-distance.true)))

pub returns-then-ends_inside : goal.returns-then-ends_inside
returns-then-ends_inside c =
    let place = c.args.at - c.in-Some.distance in
    let is : c.in-Some.distance ≡ c.args.at - place = omega (arith, c.if-at-distance.false) in
    let finds = subst (λ d. FindsNeedle c.args.needle.now c.args.stands.now 0 (Some d)) is (subst (FindsNeedle c.args.needle.now c.args.stands.now 0) c.in-Some.is c.find.ensures) in
    place-here c.args.needle.now c.args.input.now c.args.stands.now c.args.at c.requires place finds (omega arith) (sym (rw (take_rest c.args.input.now place) at c.ends_inside.ensures) ∙ c.if-ends_inside.true)

-- the needle does not stretch at the one place at which it could
pub returns-else-ends_inside : goal.returns-else-ends_inside
returns-else-ends_inside c =
    place-behind c.args.needle.now c.args.input.now c.args.stands.now c.args.at c.requires c.find.result (c.args.at + 1) c.find.ensures (omega arith)
    (λ q low is.
    let at : c.args.at - c.in-Some.distance ≡ q = omega (arith, low, same_Some c.in-Some.distance (c.args.at - q) (sym c.in-Some.is ∙ is), c.if-at-distance.false) in
    subst (λ k. stretches c.args.needle.now (drop k c.args.input.now) ≡ false) at (sym (rw (take_rest c.args.input.now (c.args.at - c.in-Some.distance)) at c.ends_inside.ensures) ∙ c.if-ends_inside.false))
