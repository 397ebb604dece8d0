use Rattle.std.proofs.Common.{subst, ap, refl}
use Rattle.std.specs.Str.{IsUtf8}
use Rattle.std.proofs.lemmas.Str.{IsUtf8-string_bytes}
use Rattle.winnow_script_lines.proofs.contents.StringContents.from_bytes.Goals as goal

-- the bytes of a text are UTF-8
pub returns-in-Ok-clause-found : goal.returns-in-Ok-clause-found
returns-in-Ok-clause-found c =
    (λ _. subst IsUtf8 (ap (λ v. v.items) c.in-Ok.ensures.ok) (IsUtf8-string_bytes c.in-Ok.text), λ _. refl)
