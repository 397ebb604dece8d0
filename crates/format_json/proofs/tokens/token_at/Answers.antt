use Rattle.std.proofs.Common.{◌-◌, length, take, drop, subst}
use Rattle.std.proofs.lemmas.List.{take_rest}
use Rattle.format_json.specs.TokenAnswers.{IsTokenFound}
use Rattle.format_json.proofs.lemmas.TokenStreamLemmas.{damage-after}
use Rattle.format_json.proofs.tokens.token_at.Goals as goal

pub returns-in-Damaged : goal.returns-in-Damaged
returns-in-Damaged c =
    let b = c.args.bytes.now in
    let at = c.blank_count-at.result in
    let rest = take (length b - at) (drop at b) in
    damage-after c.args.partial b rest at c.in-Damaged.width c.blank_count-at.ensures.within c.blank_count-at.ensures.rest (take_rest b at)
    (subst (IsTokenFound c.args.partial rest rest) c.in-Damaged.is c.in_ok-token.ensures)
