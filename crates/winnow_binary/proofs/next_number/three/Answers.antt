use Rattle.std.proofs.Common.{ap, ◌∙◌}
use Rattle.winnow_binary.proofs.lemmas.NumberLemmas.{three-number, three-place}
use Rattle.winnow_binary.proofs.next_number.three.Goals as goal

pub returns-clause-number : goal.returns-clause-number
returns-clause-number g c =
    c.join_three.ensures.number ∙ three-number c.args.order _ _ _ _ _ _ c.requires.enough (ap (λ p. p.tokens) c.one-first.ensures.stands) (ap (λ p. p.tokens) c.one-second.ensures.stands) c.one-first.ensures.number c.one-second.ensures.number c.one-third.ensures.number

pub returns-clause-stands : goal.returns-clause-stands
returns-clause-stands g c = three-place _ _ _ _ c.one-first.ensures.stands c.one-second.ensures.stands c.one-third.ensures.stands
