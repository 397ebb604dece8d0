use Rattle.std.proofs.Common.{inr, subst}
use Rattle.winnow_parser.specs.Outcome.{Fails}
use Rattle.winnow_parser.specs.Answer.{ahead, failed}
use Rattle.winnow_binary.specs.Lengths.{Times, TimesErrors}
use Rattle.winnow_binary.proofs.lemmas.LengthLemmas.{times-asked, times-errors}
use Rattle.winnow_binary.proofs.parsers.length_repeat.LengthRepeatParser.parse_next.Goals as goal

pub returns-in-Err-clause-means : goal.returns-in-Err-clause-means
returns-in-Err-clause-means g c =
    let stands = ahead g.I.Rest.location g.I.Stream.remaining in
    let between = stands c.parse_next.new.input in
    let fails = Fails (failed c.in-Err.failure (stands c.parse_next-2.new.input)) in
    let flag = g.met.I.StreamIsPartial.keeps_flag c.args.input.now c.parse_next.new.input c.in_ok-count.ensures.kept in
    let counts = c.repeat.ensures.counts in
    let asked = times-asked g.A.Accumulate.refusable g.E.ParserError.append_refusable (λ values whole. g.A.Accumulate.holds whole values) (λ q. g.Q.Parser.means q.now) _ _ c.length-count.result _ _ c.repeat.ensures.inner counts.0 counts.1
    (g.I.StreamIsPartial.expects_more c.parse_next.new.input) between fails c.in-Err.ensures.means in
    let second = subst (λ partial. Times g.A.Accumulate.refusable g.E.ParserError.append_refusable (λ values whole. g.A.Accumulate.holds whole values) (g.Q.Parser.means c.args.self.now.inner) c.length-count.result partial between fails) flag asked in
    inr (c.in_ok-count.count, (between, (c.length-count.result, (c.in_ok-count.ensures.means, c.length-count.ensures, second))))

pub returns-in-Err-clause-error : goal.returns-in-Err-clause-error
returns-in-Err-clause-error g c =
    let stands = ahead g.I.Rest.location g.I.Stream.remaining in
    let between = stands c.parse_next.new.input in
    let left = c.parse_next-2.new.input in
    let asserts = g.E.ParserError.assert_gives in
    let stood = ahead g.I.Checkpoint.Rest.location g.I.Stream.remained in
    let appends = g.E.ParserError.append_gives in
    let flag = g.met.I.StreamIsPartial.keeps_flag c.args.input.now c.parse_next.new.input c.in_ok-count.ensures.kept in
    let expects = g.I.StreamIsPartial.expects_more c.parse_next.new.input in
    let counts = c.repeat.ensures.counts in
    let n = c.length-count.result in
    let inner = c.args.self.now.inner in
    let own = times-errors stood appends asserts (λ q. g.Q.Parser.means q.now) (λ q. g.Q.Parser.errors q.now) expects between left c.in-Err.failure _ _ n _ _ c.repeat.ensures.inner counts.0 counts.1 c.in-Err.ensures.error in
    let second = subst (λ partial. TimesErrors stood appends asserts (g.Q.Parser.means inner) (g.Q.Parser.errors inner) n partial between left c.in-Err.failure) flag own in
    inr (c.in_ok-count.count, (between, (n, (c.in_ok-count.ensures.means, c.length-count.ensures, second))))
