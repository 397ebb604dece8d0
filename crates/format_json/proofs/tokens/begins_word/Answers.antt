use Rattle.std.proofs.lemmas.Bool.Decides.{Decides-eqb}
use Rattle.std.proofs.lemmas.Slice.Eq.{starts_is}
use Rattle.format_json.proofs.lemmas.CauseLemmas.{word-tells}
use Rattle.format_json.proofs.tokens.begins_word.Goals as goal

pub returns : goal.returns
returns c =
    let b = c.args.bytes.now in
    let word = c.in-Some.both.1.now in
    let both = starts_is Decides-eqb word b _ c.starts_with.ensures.value in
    word-tells b word c.in-Some.both.0 c.requires c.in-Some.ensures.0 c.in-Some.ensures.1 c.starts_with.result
    (λ e. (_, both.0 e)) (λ r e. both.1 r e)
