-- Which tokens spell a value, and that a parser takes such tokens for each value that it gives.
use Rattle.std.specs.Prelude.{◌≡◌, Bool, List, ◌++◌, map}
use Rattle.winnow_stream.specs.Source.{Source, HasPositiveWidths}
use Rattle.winnow_parser.specs.Outcome.{Ahead, Gives, Meaning}

-- a relation: these tokens spell the value
abbrev pub Spelling : Type 0 → Type 0 → Type 1
Spelling O T = O → List T → Type 0

-- the tokens of a source, without their widths
abbrev pub tokens_of : {T : Type 0} → Source T → List T
tokens_of r = map (λ x. x.0) r

-- the tokens from the one place to the other spell the value
abbrev pub TakesFor : {O T : Type 0} → Spelling O T → O → Ahead T → Ahead T → Type 0
TakesFor {T = T} spells x a b =
    (taken : Source T) × ((a.tokens ≡ taken ++ b.tokens) × spells x (tokens_of taken))

-- the tokens that a parser takes for a value spell it
abbrev pub IsSpelled : {O T : Type 0} → Spelling O T → Meaning O T → Type 0
IsSpelled {O} {T} spells means = (partial : Bool) (a b : Ahead T) (x : O)
    → HasPositiveWidths a.tokens → means partial a (Gives x b) → TakesFor spells x a b

-- what is spelled by the one is spelled by the other
abbrev pub IsWithin : {O T : Type 0} → Spelling O T → Spelling O T → Type 0
IsWithin {O} {T} narrow wide = (x : O) (ts : List T) → narrow x ts → wide x ts
