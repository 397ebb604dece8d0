-- One of two parsers has one answer where both have one.
use Rattle.winnow_parser.specs.Outcome.{Meaning}
use Rattle.winnow_parser.specs.Determined.{IsDetermined}
use Rattle.winnow_macros.specs.Chosen.{IsChosen}
use Rattle.winnow_macros.specs.declared.chosen.Chosen.{Chosen}
use Rattle.winnow_macros.specs.declared.chosen.Chosen.TheVariants.{First, Other}

-- so has the parser that was chosen
pub determined-chosen : {A B O T : Type 0} (same : O → O → Type 0) {first : A → Meaning O T}
    {other : B → Meaning O T} → ((a : A) → IsDetermined same (first a))
    → ((b : B) → IsDetermined same (other b)) → (c : Chosen A B)
    → IsDetermined same (IsChosen first other c)
determined-chosen same p q (First a) = p a
determined-chosen same p q (Other b) = q b
