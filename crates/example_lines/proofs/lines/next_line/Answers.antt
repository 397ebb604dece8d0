use Rattle.std.proofs.Common.{ap, ◌∙◌}
use Rattle.winnow_base.specs.CountRange.{least_count, greatest_count}
use Rattle.winnow_base.specs.Flag.{flag}
use Rattle.winnow.specs.Answer.{outcome}
use Rattle.winnow.specs.Place.{stands}
use Rattle.example_lines.proofs.lemmas.LineLemmas.{line-slice}
use Rattle.example_lines.proofs.lines.next_line.Goals as goal

pub returns : goal.returns
returns c =
    let made = c.terminated.ensures in
    let p = c.terminated.result in
    line-slice p.first.literal.now p.second.text.now (least_count p.first.counts) (greatest_count p.first.counts)
    (flag c.args.input.now) (stands c.args.input.now) (outcome c.parse_next.result (stands c.parse_next.new.input))
    (ap (λ p. p.first.literal.now) made ∙ ap (λ s. s.now) c.take_until.ensures.literal)
    (ap (λ p. p.second.text.now) made ∙ ap (λ l. l.text.now) c.literal.ensures)
    (ap (λ p. least_count p.first.counts) made ∙ c.take_until.ensures.counts.0)
    (ap (λ p. greatest_count p.first.counts) made ∙ c.take_until.ensures.counts.1)
    c.parse_next.ensures.means
