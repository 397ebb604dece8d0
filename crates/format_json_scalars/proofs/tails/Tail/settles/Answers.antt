use Rattle.std.proofs.Common.{◌≡◌, length, ◌∙◌, refl, subst, inl, inr, arith}
use Rattle.std.proofs.lemmas.Bool.Decides.{nat_tests}
use Rattle.std.proofs.lemmas.List.{take_all}
use Rattle.format_json_scalars.specs.Strings.{SpellsChars}
use Rattle.format_json_scalars.specs.Escapes.{MayBeChar}
use Rattle.format_json_scalars.proofs.tails.Tail.settles.Goals as goal

pub returns-in-Taken : goal.returns-in-Taken
returns-in-Taken c = λ e.
    let seen = c.seen-seen.result.now in
    let cs = c.in-Taken.ensures.1.2.0 in
    let whole : c.in-Taken.width ≡ length seen = grind (arith, nat_tests, e) in
    inl (refl, (cs, subst (SpellsChars cs) (take_all c.in-Taken.width seen (omega (arith, whole)) ∙ c.seen-seen.ensures) c.in-Taken.ensures.1.2.1.0))

pub returns-in-Begun : goal.returns-in-Begun
returns-in-Begun c = λ e. inr (refl, subst MayBeChar c.seen-seen.ensures c.in-Begun.ensures)
