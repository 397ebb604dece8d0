-- What a tree has at its top: its range, and what it is made of.
use Rattle.std.specs.Prelude.{◌≡◌, ℕ}
use Rattle.std.specs.declared.ops.Range.{Range}
use Rattle.example_two_stages.specs.declared.tree.Operator.{Operator}
use Rattle.example_two_stages.specs.declared.tree.Tree.{Tree, Number, Name, Group', Negative', Binary'}

-- the range of a formula in the source
abbrev pub range_of : Tree → Range ℕ
range_of (Number range) = range
range_of (Name range) = range
range_of (Group' range p inside) = range
range_of (Negative' range p inside) = range
range_of (Binary' range operator p left q right) = range

-- what a formula is, without its range
pub data Shape : Type 0 where
  Digits : Shape
  Letters : Shape
  InParens : Tree → Shape
  Negated : Tree → Shape
  Joined : Tree → Operator → Tree → Shape

-- the shape of a formula
abbrev pub shape_of : Tree → Shape
shape_of (Number range) = Digits
shape_of (Name range) = Letters
shape_of (Group' range p inside) = InParens inside
shape_of (Negative' range p inside) = Negated inside
shape_of (Binary' range operator p left q right) = Joined left operator right

-- the formula has this range and shape
abbrev pub IsTree : Range ℕ → Shape → Tree → Type 0
IsTree range shape tree = (range_of tree ≡ range) × (shape_of tree ≡ shape)
