use Rattle.std.proofs.Common.{◌+◌, ◌-◌, ◌≤◌, length, take, drop, ap, sym, ◌∙◌, arith}
use Rattle.format_resp.specs.Language.{greatest_count}
use Rattle.format_resp_events.proofs.lemmas.LineLemmas.{after-kind, line-width, line-front}
use Rattle.format_resp_events.proofs.heads.array_head.Goals as goal

pub slice_bounds-after-start : goal.slice_bounds-after-start
slice_bounds-after-start c = let b = c.requires in omega (arith, ap length b.1.1.1.1)

pub count_in-requires : goal.count_in-requires
count_in-requires c =
    let b = c.requires in
    let text = b.0 in
    let n = b.1.0 in
    let after = b.1.1.0 in
    let is = b.1.1.1.0 in
    let ahead = c.args.ahead.now in
    let bytes = take (length ahead - 1) (drop 1 ahead) in
    let here = after-kind ahead text after b.1.1.1.1 in
    (n, (is.1, line-front bytes text after n c.text_width-width.result here is c.text_width-width.ensures.width ∙ is.2))

pub returns : goal.returns
returns c =
    let b = c.requires in
    let text = b.0 in
    let n = b.1.0 in
    let after = b.1.1.0 in
    let is = b.1.1.1.0 in
    let ahead = c.args.ahead.now in
    let bytes = take (length ahead - 1) (drop 1 ahead) in
    let here = after-kind ahead text after b.1.1.1.1 in
    let width = c.text_width-width.ensures.width ∙ line-width bytes text after n here is in
    let count = sym (line-front bytes text after n c.text_width-width.result here is c.text_width-width.ensures.width) ∙ c.count_in.ensures in
    let within : c.count_in.result ≤ greatest_count = omega (arith, c.count_in.type_inv) in
    (text, (after, ((within, c.count_in.type_inv, count), b.1.1.1.1, ap (λ w. w + 3) width)))
