use Rattle.std.proofs.Common.{take, sym, ◌∙◌, subst, arith}
use Rattle.std.proofs.lemmas.List.{take_more}
use Rattle.format_lemmas.specs.Bytes.{Each}
use Rattle.format_json_scalars.specs.Numbers.{is_number_byte}
use Rattle.format_json_scalars.proofs.lemmas.RunLemmas.{each-grows}
use Rattle.format_json_scalars.proofs.numbers.number_count.Goals as goal

pub loop-index-preserved : goal.loop-index-preserved
loop-index-preserved c =
    subst (Each is_number_byte) (sym (take_more c.args.bytes.now c.loop-index.index 0 (omega (arith, c.loop-index-test.true))))
    (each-grows is_number_byte (take c.loop-index.index c.args.bytes.now) _ c.loop-index.invariant (sym c.is_number_byte.ensures ∙ c.if-not-is_number_byte.false))
