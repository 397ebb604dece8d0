use Rattle.std.proofs.Common.{ap, ◌∙◌}
use Rattle.winnow_binary.proofs.lemmas.NumberLemmas.{halves-number, halves-place}
use Rattle.winnow_binary.proofs.next_number.sixteen.Goals as goal

pub returns-clause-number : goal.returns-clause-number
returns-clause-number g c =
    c.join_eights.ensures ∙ halves-number c.args.order 8 _ _ _ _ c.requires.enough (ap (λ p. p.tokens) c.eight-first.ensures.stands) c.eight-first.ensures.number c.eight-second.ensures.number

pub returns-clause-stands : goal.returns-clause-stands
returns-clause-stands g c = halves-place 8 _ _ _ c.eight-first.ensures.stands c.eight-second.ensures.stands
