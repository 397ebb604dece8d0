use Rattle.std.proofs.Common.{ap, sym, ◌∙◌}
use Rattle.std.proofs.lemmas.List.{drop_all}
use Rattle.format_json_scalars.specs.Parts.{run}
use Rattle.format_json_scalars.proofs.parts.last_part.Goals as goal

pub returns : goal.returns
returns c =
    ap (run c.loop-byte.part) (sym (drop_all c.loop-byte.byte-index c.args.text.now c.loop-byte-test.false)) ∙ c.loop-byte.invariant
