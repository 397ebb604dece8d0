use Rattle.std.proofs.Common.{◌∙◌, ◌+◌, ◌/◌, ◌%◌, ap, ◌∷◌, []}
use Rattle.std.proofs.lemmas.List.{nil_from_length}
use Rattle.std.proofs.lemmas.Result.{IfOk-weaker}
use Rattle.winnow_script_run.specs.declared.script.Answer.TheVariants as answer
use Rattle.law_streams.proofs.bit_scripts.take_three_at_one.Goals as goal

pub returns : goal.returns
returns c =
    IfOk-weaker c.take_by_script.result _ _ (λ out taken. (
      taken.0,
      nil_from_length _ (taken.2 ∙ ap (λ p. (3 + p) / 8) c.requires.place),
      taken.1 ∙ ap (λ p. answer.Slice (taken.0, p, (3 + p) % 8) ∷ []) c.requires.place,
    )) c.take_by_script.ensures.slice
