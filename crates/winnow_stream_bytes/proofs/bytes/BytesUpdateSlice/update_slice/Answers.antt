use Rattle.std.proofs.Common.{length, take, ap, ◌∙◌}
use Rattle.winnow_stream.specs.Checkpoint.{checkpoint_inner}
use Rattle.winnow_stream.specs.Source.{units}
use Rattle.winnow_stream_window.proofs.lemmas.WindowLemmas.{take-front}
use Rattle.winnow_stream_bytes.specs.ByteContents.{bytes_contents}
use Rattle.winnow_stream_bytes.proofs.bytes.BytesUpdateSlice.update_slice.Goals as goal

pub returns-clause-remains : goal.returns-clause-remains
returns-clause-remains c n h e =
    let inner = c.args.inner.now in
    let whole = bytes_contents (checkpoint_inner c.args.at.now) in
    let cut = c.before-2.ensures.contents ∙ ap (λ s. take (length inner) (bytes_contents s)) c.inner.ensures in
    ap units (cut ∙ take-front inner whole n h e) ∙ e
