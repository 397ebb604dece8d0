use Rattle.std.proofs.Common.{arith}
use Rattle.format_json_scalars.proofs.lemmas.CharLemmas.{text-not_cut, text-cut}
use Rattle.format_json_scalars.proofs.characters.is_cut_text.Goals as goal

pub returns-then-plain_count-bytes : goal.returns-then-plain_count-bytes
returns-then-plain_count-bytes c =
    let count = c.plain_count.ensures in
    text-not_cut c.args.bytes.now c.plain_count.result count.within count.plain c.requires.none c.requires.some c.requires.no_slash count.ends
    (λ e. absurd (omega (arith, e, c.if-plain_count-bytes.true)))

pub returns : goal.returns
returns c =
    let count = c.plain_count.ensures in
    text-cut c.args.bytes.now c.plain_count.result count.within count.plain c.requires.none c.requires.some c.requires.no_slash count.ends
    (omega (arith, c.if-plain_count-bytes.false)) c.is_cut_char.result c.is_cut_char.ensures
