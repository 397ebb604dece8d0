use Rattle.std.proofs.Common.{◌≡◌, ◌+◌, ◌-◌, length, vec_len}
use Rattle.winnow_stream.specs.Source.{Source}
use Rattle.winnow_script_attempt.specs.Looks.{piece_reading}
use Rattle.winnow_script_feed.specs.JoinedInput.{IsRunOver, GoesOn}
use Rattle.winnow_script_feed.specs.ToldAnswers.{capped}
use Rattle.winnow_script_feed.proofs.progress.advance.Given as goal

abbrev pub invariant-loop-progress : goal.invariant-loop-progress
invariant-loop-progress g l = record {
  stands : (all : Source _)
      → IsRunOver (g.S.StreamIsPartial.expects_more l.kept)
      (piece_reading g.S.Token.AsChar.code g.S.Stream.counts_shortage g.S.Kept.write
      g.L.AsBStr.text_bytes) all (g.S.Stream.remaining l.kept) l.initial.progress
      → IsRunOver (g.S.StreamIsPartial.expects_more l.kept)
      (piece_reading g.S.Token.AsChar.code g.S.Stream.counts_shortage g.S.Kept.write
      g.L.AsBStr.text_bytes) all (g.S.Stream.remaining l.kept) l.progress;
  on : GoesOn l.piece l.initial.progress l.progress;
  tried : l.progress.tried
      ≡ capped
      (l.initial.progress.tried +
      (length l.progress.told.items - length l.initial.progress.told.items));
}

abbrev pub decreases-loop-progress : goal.decreases-loop-progress
decreases-loop-progress g l = length l.progress.script.now - vec_len l.progress.told
