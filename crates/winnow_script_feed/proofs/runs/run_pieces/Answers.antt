use Rattle.std.proofs.Common.{take, arith, ◌∙◌, []}
use Rattle.std.proofs.lemmas.List.{take_all}
use Rattle.winnow_script_feed.specs.Inputs.{byte_input, joined, pieces_in}
use Rattle.winnow_script_feed.specs.Feeding.{Fits}
use Rattle.winnow_script_feed.proofs.lemmas.InputLemmas.{bytes-input}
use Rattle.winnow_script_feed.proofs.lemmas.FeedLemmas.{fed}
use Rattle.winnow_script_feed.proofs.lemmas.PieceLemmas.{taken-more, taken-fits}
use Rattle.winnow_script_feed.proofs.runs.run_pieces.Goals as goal

pub feed-requires : goal.feed-requires
feed-requires c =
    let i = c.loop-piece.piece-index in
    let small = taken-fits c.args.pieces.now i (record { ref_ptr = (0, 0); now = [] }) c.loop-piece-test.true in
    let stored = fed byte_input bytes-input (joined (pieces_in (take i c.args.pieces.now))) c.loop-piece.feed c.loop-piece.invariant.fits.stands in
    omega (arith, c.requires, small, stored)

pub loop-piece-preserved : goal.loop-piece-preserved
loop-piece-preserved c =
    let e = c.in_ok-feed-2.ensures in
    let fits = e.fits _ c.loop-piece.invariant.fits in
    record {
      script = e.script ∙ c.loop-piece.invariant.script;
      fits = rw (taken-more c.args.pieces.now c.loop-piece.piece-index (record { ref_ptr = (0, 0); now = [] }) c.loop-piece-test.true) fits;
    }

pub returns : goal.returns
returns c =
    let whole : Fits byte_input c.loop-piece.feed (pieces_in c.args.pieces.now) = rw (take_all c.loop-piece.piece-index c.args.pieces.now (omega arith)) at c.loop-piece.invariant.fits in
    rw (← c.loop-piece.invariant.script) (c.end.ensures _ whole)
