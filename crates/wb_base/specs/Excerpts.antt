-- The line of a place in an input.
use Rattle.std.specs.Prelude.{◌≡◌, ℕ, List, ◌++◌}
use Rattle.wb_base.specs.Positions.{line_feeds}
use Rattle.wb_base.specs.declared.excerpt.Excerpt.{Excerpt}

-- the excerpt is of one line, and stands on both sides of the place between these bytes
pub record IsExcerpt (before rest : List ℕ) (excerpt : Excerpt) : Type 0 where
  pub start : List ℕ
  pub more : List ℕ
  pub ahead : before ≡ start ++ excerpt.before.items
  pub after : rest ≡ excerpt.after.items ++ more
  pub line_ahead : line_feeds excerpt.before.items ≡ 0
  pub line_after : line_feeds excerpt.after.items ≡ 0
