-- The tokens that an iterator has ahead, each with its offset.
use Rattle.std.specs.Prelude.{ℕ, ◌+◌, List, length}
use Rattle.std.specs.Borrow.{Bor, RattleType}
use Rattle.winnow_stream.specs.Source.{offsets_from}
use Rattle.winnow_views.specs.TokenSources.{tokens_of}
use Rattle.winnow_views.specs.declared.token_offsets.TokenOffsets.{TokenOffsets}

-- each token with its offset, in the order in which the iterator gives them
abbrev pub offsets_ahead : (R : RattleType) → TokenOffsets R.Denot → List (ℕ × Bor R.Denot)
offsets_ahead R o = offsets_from o.offset (tokens_of R o.rest)

-- the number of those tokens, and the offset after the last
abbrev pub count_ahead : {T : Type 0} → TokenOffsets T → ℕ
count_ahead o = length o.rest.now

abbrev pub end_ahead : {T : Type 0} → TokenOffsets T → ℕ
end_ahead o = o.offset + count_ahead o
