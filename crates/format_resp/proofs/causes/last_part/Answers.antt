use Rattle.std.proofs.Common.{ap, sym, ◌∙◌, length-drop, arith}
use Rattle.format_resp.specs.Parts.{part_width}
use Rattle.format_resp.proofs.lemmas.PartLemmas.{rest-all, ends-on}
use Rattle.format_resp.proofs.causes.last_part.Goals as goal

pub loop-width-preserved : goal.loop-width-preserved
loop-width-preserved c =
    let bytes = c.args.bytes.now in
    let i = c.loop-width.at in
    let part = ap part_width (sym (rest-all i bytes)) ∙ sym c.in-Some.ensures.part in
    record {
      within = omega (arith, length-drop i bytes, c.in-Some.ensures.within);
      last = λ begun h. c.loop-width.invariant.last begun (ends-on bytes begun i c.in-Some.width part h);
    }
