-- Moving on over a source: what was taken, what remains, and where the stream stands then.
use Rattle.std.specs.Prelude.{◌≡◌, ℕ, ◌++◌, Option}
use Rattle.winnow_stream.specs.Source.{Source, width}
use Rattle.winnow_stream.specs.Location.{location_behind}

-- from location a, where r remained, to location b, where s remains
pub record MovesOn {T : Type 0} (a b : Option ℕ) (r s : Source T) : Type 0 where
  pub taken : Source T
  pub whole : r ≡ taken ++ s
  pub place : b ≡ location_behind a (width taken)
