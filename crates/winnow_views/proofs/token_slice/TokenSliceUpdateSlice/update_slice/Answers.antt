use Rattle.std.proofs.Common.{length, take, ap, ◌∙◌}
use Rattle.winnow_stream.specs.Checkpoint.{checkpoint_inner}
use Rattle.winnow_stream_window.specs.Contents.{slice_of, slice_before}
use Rattle.winnow_views.specs.TokenSources.{tokens_of}
use Rattle.winnow_views.specs.TokenPlaces.{rest_in}
use Rattle.winnow_views.proofs.lemmas.TokenLemmas.{le-from_front, tokens_of-before, now-before}
use Rattle.winnow_views.proofs.token_slice.TokenSliceUpdateSlice.update_slice.Goals as goal

pub before-requires : goal.before-requires
before-requires g c =
    let whole = slice_of g.row.T (checkpoint_inner c.args.at.now).window in
    let front = c.requires.is_prefix in
    rw c.inner.ensures (le-from_front g.row.T c.args.inner whole front.0 front.1.0 front.1.1)

pub returns-clause-rest : goal.returns-clause-rest
returns-clause-rest g c =
    let inner = c.args.inner in
    let whole = slice_of g.row.T (checkpoint_inner c.args.at.now).window in
    let front = c.requires.is_prefix in
    c.before-2.ensures.contents ∙ ap (λ v. take (length inner.now) (rest_in v)) c.inner.ensures ∙ now-before g.row.T inner whole front.0 front.1.0 front.1.1

pub returns-clause-remains : goal.returns-clause-remains
returns-clause-remains g c n h e =
    let inner = c.args.inner in
    let whole = slice_of g.row.T (checkpoint_inner c.args.at.now).window in
    let cut = c.before-2.ensures.slice ∙ ap (λ v. slice_before (length inner.now) (slice_of g.row.T v.window)) c.inner.ensures in
    ap (tokens_of g.row.T) cut ∙ tokens_of-before g.row.T inner whole n h e ∙ e
