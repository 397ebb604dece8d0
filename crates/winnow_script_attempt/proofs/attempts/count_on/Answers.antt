use Rattle.std.proofs.Common.{◌≡◌, ◌+◌, length, subst, sym, ap, ◌∙◌}
use Rattle.winnow_stream.specs.Front.{back}
use Rattle.winnow_script_attempt.specs.Settled.{AreCounted}
use Rattle.winnow_script_attempt.proofs.lemmas.AttemptLemmas.{counted-whole}
use Rattle.winnow_script_attempt.proofs.attempts.count_on.Goals as goal

pub returns : goal.returns
returns g c =
    let r = g.S.Stream.remaining c.args.rest in
    let total : c.args.settled.tokens + c.tokens_left.result ≡ c.args.settled.tokens + length (back r c.args.settled.width) = ap (λ n. c.args.settled.tokens + n) (c.tokens_left.ensures ∙ ap length c.next_slice.ensures.remains) in
    subst (λ n. AreCounted c.args.asked r n (c.args.settled.tokens + c.tokens_left.result)) (sym c.eof_offset.ensures)
    (counted-whole c.args.asked r c.args.settled.width c.args.settled.tokens (c.args.settled.tokens + c.tokens_left.result) (g.met.S.Stream.positive_widths _ c.requires.valid) c.requires.settled c.requires.waits total)
