use Rattle.std.proofs.Common.{ap, ◌∙◌}
use Rattle.winnow_binary.proofs.lemmas.NumberLemmas.{halves-number, halves-place}
use Rattle.winnow_binary.proofs.next_number.eight.Goals as goal

pub returns-clause-number : goal.returns-clause-number
returns-clause-number g c =
    c.join_quads.ensures ∙ halves-number c.args.order 4 _ _ _ _ c.requires.enough (ap (λ p. p.tokens) c.four-first.ensures.stands) c.four-first.ensures.number c.four-second.ensures.number

pub returns-clause-stands : goal.returns-clause-stands
returns-clause-stands g c = halves-place 4 _ _ _ c.four-first.ensures.stands c.four-second.ensures.stands
