-- The input around the place of a fault.
use Rattle.std.specs.Prelude.{◌≡◌, ℕ, ◌+◌, ◌≤◌, ◌<◌, ◌^◌, List, ◌++◌, length, take, drop, Option, IfSome, ⊤}
use Rattle.wb_base.specs.Positions.{IsPositionAfter}
use Rattle.wb_base.specs.Excerpts.{IsExcerpt}
use Rattle.wb_base.specs.Recents.{IsRecent}
use Rattle.wb_base.specs.declared.position.Position.{Position}
use Rattle.wb_base.specs.declared.excerpt.Excerpt.{Excerpt}
use Rattle.wb_json.specs.declared.window.Window.{Window}
use Rattle.wb_json.specs.declared.failure.Fault.{Fault}
use Rattle.wb_json.specs.declared.failure.Failure.{Failure}
use Rattle.wb_json.specs.declared.failure.Failure.TheVariants.{Faulty, Stopped}

-- so much is kept of this input: some bytes were dropped, and the others follow; and the input is
-- not too long to be counted
pub record IsWindow (input : List ℕ) (window : Window) : Type 0 where
  pub dropped : List ℕ
  pub splits : input ≡ dropped ++ window.bytes.items
  pub recent : IsRecent dropped window.recent
  pub counted : window.dropped ≡ length dropped
  pub short : length input + 1 < 2 ^ 64

-- the place is within the input; this is its position, and this its line, if it is kept
pub record IsPlaced (input : List ℕ) (place : ℕ) (position : Position) (excerpt : Option Excerpt) : Type 0 where
  pub within : place ≤ length input
  pub stands : IsPositionAfter (take place input) position
  pub line : IfSome excerpt (IsExcerpt (take place input) (drop place input))

-- the failure is of this fault at the place of a text before which this many bytes of the input
-- stand
abbrev pub Tells : List ℕ → ℕ → ℕ → Fault → Failure → Type 0
Tells input start place fault (Faulty position is excerpt) =
    (is ≡ fault) × IsPlaced input (start + place) position excerpt
Tells input start place fault (Stopped trouble) = ⊤
