use Rattle.std.proofs.Common.{◌<◌, subst, sym, ◌∙◌}
use Rattle.std.specs.Option.{SomeIff}
use Rattle.winnow_script_lines.proofs.lemmas.OptionLemmas.{SomeIff-result_ok, SomeIff-and}
use Rattle.winnow_script_lines.proofs.words.read_char.Goals as goal

pub returns : goal.returns
returns c =
    let number = c.in_ok-number.ensures in
    let cast = SomeIff-result_ok c.try_from.result _ _ c.try_from.ensures in
    let fits = subst (λ found. SomeIff found (c.in_ok-number.number < 4294967296) c.in_ok-number.number) (sym c.in_ok-ok.ensures.value) cast in
    SomeIff-and c.from_u32.result _ _ _ number.0.0 (rw (fits.1 ∙ number.1) at c.from_u32.ensures.value)
