use Rattle.std.proofs.Common.{◌≡◌, ◌<◌, ◌≤◌, length, drop, inl, ap, ◌∙◌, subst, arith}
use Rattle.winnow_reader.specs.Skips.{skipped}
use Rattle.format_json.specs.Language.{after_blanks}
use Rattle.format_json_events.proofs.lemmas.BlankLemmas.{before-after}
use Rattle.format_json_events.proofs.blanks.drop_blanks.Goals as goal

pub returns-then-blanks-gt0 : goal.returns-then-blanks-gt0
returns-then-blanks-gt0 c =
    let f = c.args.tokens.now in
    let n = c.blank_count-blanks.result in
    let within = subst (λ l. n ≤ length l) c.ahead.ensures c.blank_count-blanks.ensures.within in
    let rest = subst (λ l. drop n l ≡ after_blanks l) c.ahead.ensures c.blank_count-blanks.ensures.rest in
    let some : 0 < n = omega (arith, c.if-blanks-gt0.true) in
    let all : c.skip.result ≡ n = omega (arith, c.skip.ensures.count, within) in
    inl (n, (some, before-after n f.ahead within rest, rest, c.skip.ensures.state ∙ ap (skipped f) all))
