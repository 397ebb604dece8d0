-- Styles of a terminal: 27 begins a command, and 91 is its bracket.
use Rattle.std.specs.Prelude.{ℕ, List, ◌∷◌, ◌++◌, Option, option_map, codes}
use Rattle.wb_base.specs.declared.terminal.Colours.{Colours}
use Rattle.wb_base.specs.declared.terminal.Colours.TheVariants as colours
use Rattle.wb_base.specs.declared.terminal.Style.{Style}
use Rattle.wb_base.specs.declared.terminal.Style.TheVariants.{Place, Wrong, Caret}

-- the bytes that begin a style: 1 is bold, 31 red and 32 green
abbrev pub start_of : Style → List ℕ
start_of Place = 27 ∷ codes "[1m"
start_of Wrong = 27 ∷ codes "[1;31m"
start_of Caret = 27 ∷ codes "[1;32m"

-- a text in a style that ends with it, where styles are shown, and the text where they are not
abbrev pub painted : Colours → Style → Option (List ℕ) → Option (List ℕ)
painted colours.Shown style text = option_map (λ t. start_of style ++ (t ++ 27 ∷ codes "[0m")) text
painted colours.None style text = text
