use Rattle.std.proofs.Common.{refl, subst}
use Rattle.winnow_parser.specs.Outcome.{Gives}
use Rattle.winnow_parser.specs.Answer.{ahead}
use Rattle.winnow_ascii.proofs.parsers.escaped.escape.Goals as goal

pub returns-in-Ok-parse_next-clause-means : goal.returns-in-Ok-parse_next-clause-means
returns-in-Ok-parse_next-clause-means g c =
    let stands = ahead g.I.Rest.location g.I.Stream.remaining in
    let between = c.parse_next.new.input in
    let y = c.in-Ok-parse_next.value in
    let flag = g.met.I.StreamIsPartial.keeps_flag c.args.input.now between c.in-Ok.ensures.kept in
    let read = subst (λ more. g.Q.Parser.means c.args.escapable.now more (stands between) (Gives y (stands c.parse_next-in-Ok.new.input))) flag c.in-Ok-parse_next.ensures.means in
    ((c.in-Ok.field-0, y), (refl, (stands between, (c.in-Ok.ensures.means, read))))
