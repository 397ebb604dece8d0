use Rattle.std.proofs.Common.{◌≡◌, take}
use Rattle.winnow_script_feed.specs.Inputs.{text_input, pieces_in}
use Rattle.winnow_script_feed.specs.Feeding.{Fits, script_of}
use Rattle.winnow_script_feed.proofs.runs.run_pieces_text.Given as goal

abbrev pub invariant-loop-piece : goal.invariant-loop-piece
invariant-loop-piece l = record {
  script : script_of l.feed ≡ l.fn.script;
  fits : Fits text_input l.feed (pieces_in (take l.piece-index l.pieces));
}
