use Rattle.std.proofs.Common.{Some, ◌∙◌, subst}
use Rattle.winnow_parser.specs.Outcome.{Gives, Fails}
use Rattle.winnow_parser.specs.Answer.{ahead, failed}
use Rattle.winnow_parser.proofs.lemmas.TakenLemmas.{same-place}
use Rattle.winnow_ascii.specs.Escaped.{Escape}
use Rattle.winnow_ascii.proofs.parsers.escaped.next_fragment.Goals as goal

pub returns-in-Ok-Some-clause-means : goal.returns-in-Ok-Some-clause-means
returns-in-Ok-Some-clause-means g c =
    let stands = ahead g.I.Rest.location g.I.Stream.remaining in
    let start = c.args.input.now in
    let back = c.reset.new.self in
    let after = stands c.escape.new.input in
    let escape = Escape (g.C.Parser.means c.args.text.now.control) (g.Q.Parser.means c.args.text.now.escapable) in
    let kept = g.met.I.Stream.keeps_transitive start c.parse_next.new.input back c.in-Err-Backtrack.ensures.kept c.reset.ensures.kept in
    let flag = g.met.I.StreamIsPartial.keeps_flag start back kept in
    let place = same-place (stands back) (stands start) (c.reset.ensures.location ∙ c.checkpoint-start.ensures.location) (c.reset.ensures.remains ∙ c.checkpoint-start.ensures.means) in
    let at_some = subst (λ o. escape (g.I.StreamIsPartial.expects_more back) (stands back) (Gives o after)) c.in-Ok-Some.field-0-is c.in-Ok-Some.ensures.means in
    let at_flag = subst (λ more. escape more (stands back) (Gives (Some c.in-Ok-Some.value) after)) flag at_some in
    let read = subst (λ s. escape (g.I.StreamIsPartial.expects_more start) s (Gives (Some c.in-Ok-Some.value) after)) place at_flag in
    let there = stands c.parse_next.new.input in
    let absent = subst (λ f. g.P.Parser.means c.args.text.now.normal (g.I.StreamIsPartial.expects_more start) (stands start) (Fails (failed f there))) c.in-Err-Backtrack.field-0-is c.in-Err-Backtrack.ensures.means in
    ((there, absent), read)
