use Rattle.std.proofs.Common.{◌-◌, ap, subst, sym, ◌∙◌, inr}
use Rattle.winnow_stream.specs.Source.{width}
use Rattle.winnow_parser.specs.Outcome.{Gives, Fails, Backtracks, Cuts, Needs}
use Rattle.winnow_parser.specs.Answer.{ahead, failed}
use Rattle.winnow_parser.proofs.whole.read_complete.Goals as goal

pub unreachable-requires : goal.unreachable-requires
unreachable-requires g c =
    let stands = ahead g.I.Rest.location g.I.Stream.remaining in
    let here = stands c.args.input in
    let left = stands c.parse_next.new.input in
    let needed = subst (λ failure. g.P.Parser.means c.args.parser.now (g.I.StreamIsPartial.expects_more c.args.input) here (Fails (failed failure left))) c.in-Err-Incomplete.field-0-is c.in-Err-Incomplete.ensures.means in
    (g.met.P.Parser.lawful c.args.parser.now).final here c.in-Err-Incomplete.field-0-0
    (subst (λ partial. g.P.Parser.means c.args.parser.now partial here (Fails (Needs c.in-Err-Incomplete.field-0-0))) c.requires.complete needed)

pub returns-then-eof_offset-eq0-clause-value : goal.returns-then-eof_offset-eq0-clause-value
returns-then-eof_offset-eq0-clause-value g c =
    let stands = ahead g.I.Rest.location g.I.Stream.remaining in
    let next = stands c.parse_next.new.input in (
      next,
      (
        subst (λ partial. g.P.Parser.means c.args.parser.now partial (stands c.args.input) (Gives c.in-Ok.value next)) c.requires.complete c.in-Ok.ensures.means,
        c.taken_law.ensures.none (g.I.Stream.remaining c.parse_next.new.input) (g.met.I.Stream.positive_widths c.parse_next.new.input c.in-Ok.ensures.valid) (sym c.eof_offset.ensures ∙ c.if-eof_offset-eq0.true),
      ),
    )

pub returns-else-eof_offset-eq0-clause-stopped : goal.returns-else-eof_offset-eq0-clause-stopped
returns-else-eof_offset-eq0-clause-stopped g c =
    let stands = ahead g.I.Rest.location g.I.Stream.remaining in
    let next = stands c.parse_next.new.input in
    let means = subst (λ partial. g.P.Parser.means c.args.parser.now partial (stands c.args.input) (Gives c.in-Ok.value next)) c.requires.complete c.in-Ok.ensures.means in (
      next,
      (
        inr (inr (c.in-Ok.value, (means, λ none. c.if-eof_offset-eq0.false (c.eof_offset.ensures ∙ ap width none)))),
        c.stopped.ensures.offset ∙ ap (λ r. width r - width next.tokens) c.checkpoint-start.ensures.means,
      ),
    )

pub stopped-requires-clause-moved : goal.stopped-requires-clause-moved
stopped-requires-clause-moved g c =
    let stands = ahead g.I.Rest.location g.I.Stream.remaining in
    rw (c.checkpoint-start.ensures.location, c.checkpoint-start.ensures.means)
    ((g.met.P.Parser.lawful c.args.parser.now).onward (g.I.StreamIsPartial.expects_more c.args.input) (stands c.args.input) (Gives c.in-Ok.value (stands c.parse_next.new.input)) c.in-Ok.ensures.means)

pub stopped-requires-in-Err-Backtrack-clause-moved : goal.stopped-requires-in-Err-Backtrack-clause-moved
stopped-requires-in-Err-Backtrack-clause-moved g c =
    let stands = ahead g.I.Rest.location g.I.Stream.remaining in
    let left = stands c.parse_next.new.input in
    let means = subst (λ failure. g.P.Parser.means c.args.parser.now (g.I.StreamIsPartial.expects_more c.args.input) (stands c.args.input) (Fails (failed failure left))) c.in-Err-Backtrack.field-0-is c.in-Err-Backtrack.ensures.means in
    rw (c.checkpoint-start.ensures.location, c.checkpoint-start.ensures.means)
    ((g.met.P.Parser.lawful c.args.parser.now).onward (g.I.StreamIsPartial.expects_more c.args.input) (stands c.args.input) (Fails (Backtracks left)) means)

pub stopped-requires-in-Err-Cut-clause-moved : goal.stopped-requires-in-Err-Cut-clause-moved
stopped-requires-in-Err-Cut-clause-moved g c =
    let stands = ahead g.I.Rest.location g.I.Stream.remaining in
    let left = stands c.parse_next.new.input in
    let means = subst (λ failure. g.P.Parser.means c.args.parser.now (g.I.StreamIsPartial.expects_more c.args.input) (stands c.args.input) (Fails (failed failure left))) c.in-Err-Cut.field-0-is c.in-Err-Cut.ensures.means in
    rw (c.checkpoint-start.ensures.location, c.checkpoint-start.ensures.means)
    ((g.met.P.Parser.lawful c.args.parser.now).onward (g.I.StreamIsPartial.expects_more c.args.input) (stands c.args.input) (Fails (Cuts left)) means)

pub returns-else-eof_offset-eq0-clause-error : goal.returns-else-eof_offset-eq0-clause-error
returns-else-eof_offset-eq0-clause-error g c =
    let stands = ahead g.I.Rest.location g.I.Stream.remaining in
    let next = c.parse_next.new.input in
    let means = subst (λ partial. g.P.Parser.means c.args.parser.now partial (stands c.args.input) (Gives c.in-Ok.value (stands next))) c.requires.complete c.in-Ok.ensures.means in
    let made = subst (g.E.ParserError.from_input_gives next) (sym c.stopped.ensures.inner) c.from_input-error.ensures in
    let offset = c.stopped.ensures.offset ∙ ap (λ r. width r - width (g.I.Stream.remaining next)) c.checkpoint-start.ensures.means in
    (next, (inr (inr (c.in-Ok.value, (made, means, λ none. c.if-eof_offset-eq0.false (c.eof_offset.ensures ∙ ap width none)))), offset))
