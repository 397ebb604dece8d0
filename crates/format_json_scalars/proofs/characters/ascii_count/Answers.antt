use Rattle.std.proofs.Common.{take, sym, ◌∙◌, subst, arith}
use Rattle.std.proofs.lemmas.List.{take_more}
use Rattle.format_lemmas.specs.Bytes.{Each}
use Rattle.format_json_scalars.specs.Strings.{is_plain_ascii}
use Rattle.format_json_scalars.proofs.lemmas.RunLemmas.{each-grows}
use Rattle.format_json_scalars.proofs.characters.ascii_count.Goals as goal

pub loop-index-preserved : goal.loop-index-preserved
loop-index-preserved c =
    subst (Each is_plain_ascii) (sym (take_more c.args.bytes.now c.loop-index.index 0 (omega (arith, c.loop-index-test.true))))
    (each-grows is_plain_ascii (take c.loop-index.index c.args.bytes.now) _ c.loop-index.invariant (sym c.is_plain_ascii.ensures ∙ c.if-not-is_plain_ascii.false))
