-- One of two parsers of values of one type.
use Rattle.winnow_parser.specs.Outcome.{Meaning}
use Rattle.winnow_parser.specs.Errors.{Errors}
use Rattle.winnow_parser.specs.Laws.{IsParser}
use Rattle.winnow_macros.specs.declared.chosen.Chosen.{Chosen}
use Rattle.winnow_macros.specs.declared.chosen.Chosen.TheVariants.{First, Other}

-- what the chosen parser means
abbrev pub IsChosen : {A B O T : Type 0} → (A → Meaning O T) → (B → Meaning O T) → Chosen A B
    → Meaning O T
IsChosen first other (First a) = first a
IsChosen first other (Other b) = other b

-- the errors of the chosen parser
abbrev pub ChosenErrors : {A B E S T : Type 0} → (A → Errors E S T) → (B → Errors E S T)
    → Chosen A B → Errors E S T
ChosenErrors first other (First a) = first a
ChosenErrors first other (Other b) = other b

-- the chosen parser may be called
abbrev pub IsReadyChosen : {A B : Type 0} → (A → Type 0) → (B → Type 0) → Chosen A B → Type 0
IsReadyChosen first other (First a) = first a
IsReadyChosen first other (Other b) = other b

-- the chosen parser keeps the laws of a parser
pub IsParser-IsChosen : {A B O T : Type 0} {first : A → Meaning O T} {other : B → Meaning O T}
    → ((a : A) → IsParser (first a)) → ((b : B) → IsParser (other b)) → (c : Chosen A B)
    → IsParser (IsChosen first other c)
IsParser-IsChosen p q (First a) = p a
IsParser-IsChosen p q (Other b) = q b
