use Rattle.std.proofs.Common.{◌≡◌, ◌+◌, Some, length, refl, sym, ap, ◌∙◌, arith, subst}
use Rattle.std.specs.Prelude.{slice_get}
use Rattle.std.proofs.lemmas.Option.{slice_get_read}
use Rattle.winnow_script_feed.specs.NamedMarks.{AreEnds}
use Rattle.winnow_script_feed.proofs.lemmas.EndLemmas.{AreEnds-more, AreEnds-fewer, length-ended}
use Rattle.winnow_script_feed.proofs.named_marks.ends_of.Goals as goal

pub loop-i-preserved : goal.loop-i-preserved
loop-i-preserved g c =
    let xs = c.args.script.now in
    let i = c.loop-i.i in
    let s = c.index-script-i.result in
    let is : slice_get xs i ≡ Some s = slice_get_read xs (length xs) i s refl c.loop-i-test.true c.index-script-i.is in
    record {
      ends = subst (AreEnds xs (i + 1)) (sym c.set_end.ensures) (AreEnds-more xs c.loop-i.ends.items i s c.loop-i.invariant.ends is c.step_mark.result (sym c.step_mark.ensures));
      len = ap length c.set_end.ensures ∙ length-ended c.loop-i.ends.items c.step_mark.result (i + 1) ∙ c.loop-i.invariant.len;
    }

pub returns-clause-ends : goal.returns-clause-ends
returns-clause-ends g c = AreEnds-fewer _ _ _ _ (omega (arith, c.loop-i-test.false)) c.loop-i.invariant.ends
