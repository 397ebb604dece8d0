use Rattle.std.proofs.Common.{◌≡◌, cond, drop, lit<, sym, ap, ◌∙◌}
use Rattle.std.specs.Str.Parse.{without_leading_plus}
use Rattle.winnow_script_lines.proofs.lemmas.OptionLemmas.{SomeIff-result_ok}
use Rattle.winnow_script_lines.proofs.words.read_number.Goals as goal

pub returns : goal.returns
returns c =
    let word = c.args.word.now in
    let unsigned = sym (c.starts_with.ensures.byte (lit< tt) (lit< tt) (λ w o found. found)) ∙ c.if-starts_with.false in
    let whole : without_leading_plus word ≡ word = ap (λ signed. drop (cond signed 1 0) word) unsigned in
    rw c.ok.ensures.value (SomeIff-result_ok c.parse.result _ _ (rw whole at c.parse.ensures.value.0))
