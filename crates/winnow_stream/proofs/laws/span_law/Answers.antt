use Rattle.std.proofs.Common.{ap, sym, ◌∙◌}
use Rattle.std.proofs.lemmas.Option.{same_Some}
use Rattle.winnow_stream.specs.Location.{location_behind}
use Rattle.winnow_stream.proofs.laws.span_law.Goals as goal

pub returns-clause-end : goal.returns-clause-end
returns-clause-end g c = λ located s t n moved. same_Some _ _ (sym (located t).0 ∙ moved ∙ ap (λ p. location_behind p n) (located s).1)

pub returns-clause-start : goal.returns-clause-start
returns-clause-start g c = λ located s t n moved. same_Some _ _ (sym (located t).1 ∙ moved ∙ ap (λ p. location_behind p n) (located s).1)
