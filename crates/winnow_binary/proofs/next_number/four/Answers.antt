use Rattle.std.proofs.Common.{ap, ◌∙◌}
use Rattle.winnow_binary.proofs.lemmas.NumberLemmas.{halves-number, halves-place}
use Rattle.winnow_binary.proofs.next_number.four.Goals as goal

pub returns-clause-number : goal.returns-clause-number
returns-clause-number g c =
    c.join_pairs.ensures ∙ halves-number c.args.order 2 _ _ _ _ c.requires.enough (ap (λ p. p.tokens) c.two-first.ensures.stands) c.two-first.ensures.number c.two-second.ensures.number

pub returns-clause-stands : goal.returns-clause-stands
returns-clause-stands g c = halves-place 2 _ _ _ c.two-first.ensures.stands c.two-second.ensures.stands
