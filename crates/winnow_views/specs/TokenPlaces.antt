-- A slice of tokens: its whole list, what remains of it, and its place.
use Rattle.std.specs.Prelude.{◌≡◌, ℕ, List, length, take}
use Rattle.std.specs.Borrow.{Bor, RattleType}
use Rattle.winnow_stream.specs.Source.{Source, width}
use Rattle.winnow_stream.specs.Checkpoint.{checkpoint_inner}
use Rattle.winnow_stream.specs.declared.checkpoint.Checkpoint.{Checkpoint}
use Rattle.winnow_stream_window.specs.Contents.{contents_of, slice_of, start_of}
use Rattle.winnow_views.specs.TokenSources.{tokens_of, width-tokens_of}
use Rattle.winnow_views.specs.declared.token_slice.TokenSlice.{TokenSlice}
use Rattle.winnow_views.specs.declared.token_view.TokenView.{TokenView}

-- the parts of a view: the elements that remain, the same as tokens (a reference to each element),
-- and the place
abbrev pub rest_in : {T : Type 0} → TokenView T → List T
rest_in v = contents_of v.window

abbrev pub remaining_in : (R : RattleType) → TokenView R.Denot → Source (Bor R.Denot)
remaining_in R v = tokens_of R (slice_of R v.window)

abbrev pub place_in : {T : Type 0} → TokenView T → ℕ
place_in v = start_of v.window

-- the width that remains of a view is the number of its elements
pub width-remaining_in : (R : RattleType) (v : TokenView R.Denot)
    → width (remaining_in R v) ≡ length (rest_in v)
width-remaining_in R v = width-tokens_of R (slice_of R v.window)

-- the whole list, with the tokens that were taken
abbrev pub whole_of : {T : Type 0} → TokenSlice T → Bor (List T)
whole_of s = s.whole

-- the elements that remain
abbrev pub rest_of : {T : Type 0} → TokenSlice T → List T
rest_of s = rest_in s.view

-- the elements that remain, as tokens
abbrev pub remaining_of : (R : RattleType) → TokenSlice R.Denot → Source (Bor R.Denot)
remaining_of R s = remaining_in R s.view

-- the number of tokens of the whole list that were taken before what remains
abbrev pub place_of : {T : Type 0} → TokenSlice T → ℕ
place_of s = place_in s.view

-- the elements of the whole list before the place: all of them if the place is past the list
abbrev pub taken_of : {T : Type 0} → TokenSlice T → List T
taken_of s = take (place_of s) (whole_of s).now

-- the parts of a checkpoint: the elements that remained, the same as tokens, and the place
abbrev pub rest_at : {T : Type 0} → Checkpoint (TokenView T) (TokenSlice T) → List T
rest_at c = rest_in (checkpoint_inner c)

abbrev pub remained_at : (R : RattleType) → Checkpoint (TokenView R.Denot) (TokenSlice R.Denot)
    → Source (Bor R.Denot)
remained_at R c = remaining_in R (checkpoint_inner c)

abbrev pub place_at : {T : Type 0} → Checkpoint (TokenView T) (TokenSlice T) → ℕ
place_at c = place_in (checkpoint_inner c)
