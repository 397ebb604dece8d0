use Rattle.std.proofs.Common.{◌∙◌, sym}
use Rattle.std.proofs.lemmas.Bool.Decides.{Decides-eqb}
use Rattle.std.proofs.lemmas.Slice.Eq.{slice_eq-Decides}
use Rattle.winnow_script_lines.proofs.lemmas.WordLemmas.{DenotesNamed-alone}
use Rattle.winnow_script_lines.proofs.inputs.read_named.Goals as goal
use Rattle.winnow_script_lines.proofs.inputs.read_named.Goals.{in_default-via-in-Some+else-eq, in_default-via-in_default}

-- the line has another first word, or no word after it
pub returns-in_default : goal.returns-in_default
returns-in_default g c =
    elim c.in_default.branch [
      | in_default-via-in-Some+else-eq w ↦
          λ literal told. cc (sym ((slice_eq-Decides Decides-eqb _ _ _ w.eq.ensures).1 (w.in-Some.ensures.first ∙ told.0)) ∙ w.if-eq.false)
      | in_default-via-in_default w ↦
          let alone = rw w.in_default.is at c.split_word.ensures.found in
          DenotesNamed-alone g.L.Contents.bytes c.args.name.now c.args.line.now (λ spaced. cc (alone.1 spaced))
    ]
