use Rattle.std.proofs.Common.{◌≡◌, ◌-◌, length, ◌∙◌, refl, sym, subst, arith}
use Rattle.winnow_match.specs.Search.{bytes_of_needles}
use Rattle.winnow_match.proofs.lemmas.MoveLemmas.{stretch-within}
use Rattle.winnow_script_attempt.specs.Settled.{NoneOccurs}
use Rattle.winnow_script_attempt.proofs.lemmas.AttemptLemmas.{searched-none}
use Rattle.winnow_script_attempt.proofs.lemmas.BegunLemmas.{begun-hit, later-place}
use Rattle.winnow_script_attempt.proofs.searches.searched.Goals as goal

pub returns-in-Some-stretch-clause-settled : goal.returns-in-Some-stretch-clause-settled
returns-in-Some-stretch-clause-settled c = begun-hit (bytes_of_needles c.args.needles.now) c.args.bytes.now _ _ _ (sym c.in-Some.is ∙ c.requires.found) c.in-Some-stretch.ensures.value refl refl refl

pub overflow_sub-begun : goal.overflow_sub-begun
overflow_sub-begun c = stretch-within (bytes_of_needles c.args.needles.now) c.args.bytes.now c.in-Some.hit c.in-Some-stretch.stretch (sym c.requires.found ∙ c.in-Some.is) (sym c.in-Some-stretch.ensures.value)

pub first_begun-requires-clause-from : goal.first_begun-requires-clause-from
first_begun-requires-clause-from c =
    let ls = bytes_of_needles c.args.needles.now in
    let bs = c.args.bytes.now in
    let e : c.saturating_sub.result ≡ length bs - (c.longest.result - 1) = omega (arith, c.saturating_sub.ensures, c.saturating_sub-last.ensures) in
    let none = subst (NoneOccurs ls bs) (sym e) (searched-none ls bs c.longest.result c.longest.ensures (sym c.in-None.is ∙ c.requires.found)) in
    later-place ls bs _ _ _ c.max-from.ensures c.requires.settled.none none
