use Rattle.std.proofs.Common.{sym, ap, ◌∙◌, arith}
use Rattle.std.specs.Prelude.{is_some}
use Rattle.winnow_script_attempt.proofs.lemmas.AttemptLemmas.{length-width, one-left}
use Rattle.winnow_script_attempt.proofs.attempts.tokens_left.Goals as goal

pub overflow_add-tokens : goal.overflow_add-tokens
overflow_add-tokens g c =
    let r = g.S.Stream.remaining c.loop-tokens.later in
    let some = one-left r (sym (ap is_some c.next_token.ensures.answer) ∙ sym c.is_some.ensures ∙ c.if-is_some.true) in
    let most = length-width (g.S.Stream.remaining c.args.rest) (g.met.S.Stream.positive_widths _ c.requires) in
    omega (arith, some, most)
