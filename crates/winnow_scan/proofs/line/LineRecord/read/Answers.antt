use Rattle.std.proofs.Common.{inl, inr}
use Rattle.winnow_parser.specs.Outcome.{Gives, Fails}
use Rattle.winnow_parser.specs.Answer.{failed}
use Rattle.winnow_wrap.specs.Flag.{flag}
use Rattle.winnow_reader.specs.Place.{stands}
use Rattle.winnow_scan.proofs.lemmas.LineLemmas.{line-of}
use Rattle.winnow_scan.proofs.line.LineRecord.read.Goals as goal

pub returns-in-Ok-from_slice-clause-means : goal.returns-in-Ok-from_slice-clause-means
returns-in-Ok-from_slice-clause-means c =
    let parts = c.before_feed.ensures in
    let old = c.args.input.now in
    let new = c.parse_next.new.input in
    let line = line-of c.before_feed.result.second.inner.set (flag old) (stands old) (Gives c.in-Ok.text (stands new)) parts.2
    (rw (parts.0, parts.1.0, parts.1.1) at c.in-Ok.ensures.means) in
    (c.in-Ok.text, (line, c.in-Ok-from_slice.ensures.items))

pub returns-in-Err-from_slice-clause-means : goal.returns-in-Err-from_slice-clause-means
returns-in-Err-from_slice-clause-means c =
    let parts = c.before_feed.ensures in
    let old = c.args.input.now in
    let new = c.parse_next.new.input in
    let line = line-of c.before_feed.result.second.inner.set (flag old) (stands old) (Gives c.in-Ok.text (stands new)) parts.2
    (rw (parts.0, parts.1.0, parts.1.1) at c.in-Ok.ensures.means) in
    inr (tt, (c.in-Ok.text, (stands new, line)))

pub returns-in-Err-clause-means : goal.returns-in-Err-clause-means
returns-in-Err-clause-means c =
    let parts = c.before_feed.ensures in
    let old = c.args.input.now in
    let new = c.parse_next.new.input in
    inl (line-of c.before_feed.result.second.inner.set (flag old) (stands old) (Fails (failed c.in-Err.failure (stands new))) parts.2
    (rw (parts.0, parts.1.0, parts.1.1) at c.in-Err.ensures.means))
