use Rattle.std.proofs.Common.{ap, ◌∙◌}
use Rattle.winnow_binary.proofs.lemmas.NumberLemmas.{halves-number, halves-place}
use Rattle.winnow_binary.proofs.next_number.two.Goals as goal

pub returns-clause-number : goal.returns-clause-number
returns-clause-number g c =
    c.join_bytes.ensures ∙ halves-number c.args.order 1 _ _ _ _ c.requires.enough (ap (λ p. p.tokens) c.one-first.ensures.stands) c.one-first.ensures.number c.one-second.ensures.number

pub returns-clause-stands : goal.returns-clause-stands
returns-clause-stands g c = halves-place 1 _ _ _ c.one-first.ensures.stands c.one-second.ensures.stands
