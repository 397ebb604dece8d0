-- What is kept of bytes that are dropped as they are read.
use Rattle.std.specs.Prelude.{◌≡◌, ℕ, ◌+◌, ◌<◌, ◌≤◌, ◌^◌, List, [], ◌++◌, length, ◌⊎◌}
use Rattle.wb_base.specs.Positions.{line_feeds, after_feed}
use Rattle.wb_base.specs.declared.remembering.Recent.{Recent}

-- the last of these bytes: all of them, or at least as many as an excerpt shows of a line
abbrev pub AreLastOf : List ℕ → List ℕ → Type 0
AreLastOf taken last = (first : List ℕ) × ((taken ≡ first ++ last)
    × ((first ≡ []) ⊎ (120 ≤ length last)))

-- so much is kept of these bytes, which are not too many to be counted
pub record IsRecent (taken : List ℕ) (recent : Recent) : Type 0 where
  pub short : length taken + 1 < 2 ^ 64
  pub feeds : recent.feeds ≡ line_feeds taken
  pub column : recent.column ≡ after_feed taken
  pub last : AreLastOf taken recent.last.items
