use Rattle.std.proofs.Common.{inl, inr, lit<, sym, ◌∙◌, length}
use Rattle.std.proofs.lemmas.Bool.Decides.{Decides-eqb}
use Rattle.std.proofs.lemmas.Slice.Eq.{slice_eq-Decides}
use Rattle.std.proofs.lemmas.Iterator.Consumers.{YieldsList-end, YieldsList-turn}
use Rattle.std.proofs.lemmas.Iterator.Splits.{YieldsList-from_str_split}
use Rattle.winnow_script_lines.specs.Words.{DenotesRange}
use Rattle.winnow_script_lines.specs.Readings.{DenotesNothing}
use Rattle.winnow_script_lines.proofs.lemmas.RangeLemmas.{DenotesRanges-nothing}
use Rattle.winnow_script_lines.proofs.lemmas.ZipLemmas.{AllZip-push, AllZip-map}
use Rattle.winnow_script_lines.proofs.words.read_ranges.Goals as goal

pub loop-part-preserved : goal.loop-part-preserved
loop-part-preserved c =
    rw c.in_ok-push.ensures.items (AllZip-push (λ part range. DenotesRange part.now range) c.loop-part.yielded c.loop-part.ranges.items c.in-Some.part c.in-Some-read_range.range c.loop-part.invariant c.in-Some-read_range.ensures)

pub returns : goal.returns
returns c =
    let same = c.into_iter-part-iterator.ensures.into_iter_gives in
    let split = c.split-part-items.ensures in
    let parts = YieldsList-end (YieldsList-from_str_split 44 c.args.word.now (lit< tt) (rw same split.text) (rw same split.has_more) (rw same split.pattern)) c.loop-part.yielded _ c.loop-part.yielded_by _ _ c.in-None.is c.next.ensures.steps in
    inr (rw parts.0 at (AllZip-map (λ part. part.now) DenotesRange c.loop-part.yielded c.loop-part.ranges.items c.loop-part.invariant))

-- the next part means no range, and the word is not `-`
pub returns-in_default : goal.returns-in_default
returns-in_default c =
    let same = c.into_iter-part-iterator.ensures.into_iter_gives in
    let split = c.split-part-items.ensures in
    let turn = YieldsList-turn (YieldsList-from_str_split 44 c.args.word.now (lit< tt) (rw same split.text) (rw same split.has_more) (rw same split.pattern)) c.loop-part.yielded _ c.loop-part.yielded_by _ _ c.in-Some.part c.in-Some.is c.next.ensures.steps in
    let none : DenotesNothing DenotesRange c.in-Some.part.now = rw c.in_default.is at c.read_range.ensures in
    λ ranges told. elim told [
      | inl dash ↦ cc (sym ((slice_eq-Decides Decides-eqb _ _ _ c.eq.ensures).1 dash.0) ∙ c.if-eq.false)
      | inr parts ↦ DenotesRanges-nothing _ (length c.loop-part.yielded) c.in-Some.part.now turn.0 (rw turn.1 at none) ranges.items parts
    ]
