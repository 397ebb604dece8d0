use Rattle.std.proofs.Common.{◌≡◌, ◌-◌, length, ap, arith}
use Rattle.format_resp_events.proofs.lemmas.HeadLemmas.{fails-inside, cause-here, breaks-within}
use Rattle.format_resp_events.proofs.heads.cause_at.Goals as goal

pub returns : goal.returns
returns c =
    let f = c.args.replies.now in
    let k = c.args.place - f.place in
    let bytes = c.ahead-ahead.result.now in
    let within : c.min-width.result ≡ k =
    omega (arith, c.min-width.ensures, c.saturating_sub.ensures, c.place.ensures, fails-inside f c.args.place c.requires, ap length c.ahead-ahead.ensures) in
    breaks-within f c.args.place c.cause_of.result c.requires
    (cause-here c.cause_of.result k c.min-width.result bytes f.ahead c.ahead-ahead.ensures within c.cause_of.ensures)
