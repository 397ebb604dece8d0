-- A grammar that contains itself, to a depth.
use Rattle.std.proofs.Common.{ℕ, zero, suc}
use Rattle.winnow_parser.specs.Outcome.{Meaning}
use Rattle.winnow_exact.specs.Nested.{IsNested}
use Rattle.winnow_liveness.specs.Live.{IsPunctual}
use Rattle.winnow_liveness.proofs.lemmas.PunctualLemmas.{IsPunctual-CutsErr}
use Rattle.winnow_liveness.proofs.lemmas.CountLemmas.{IsPunctual-IsFail}

-- it is punctual, if a layer is whose inner parser is
pub IsPunctual-IsNested : {O T : Type 0} (same : O → O → Type 0) (layer : Meaning O T → Meaning O T)
    → ((inner : Meaning O T) → IsPunctual same inner → IsPunctual same (layer inner)) → (depth : ℕ)
    → IsPunctual same (IsNested layer depth)
IsPunctual-IsNested same layer keeps zero = IsPunctual-CutsErr (IsPunctual-IsFail same)
IsPunctual-IsNested same layer keeps (suc depth) = keeps (IsNested layer depth) (IsPunctual-IsNested same layer keeps depth)
