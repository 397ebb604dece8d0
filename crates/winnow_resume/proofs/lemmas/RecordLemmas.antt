-- What a `Recoverable` has recorded after one failure that was skipped.
use Rattle.std.proofs.Common.{◌≡◌, ◌∙◌, List, ◌++◌, ◌∷◌, [], ap}
use Rattle.std.proofs.lemmas.List.{append_assoc}
use Rattle.winnow_recover.specs.Recovering.{recorded_errors, IsSame, Records, AddsErrors}
use Rattle.winnow_recover.specs.declared.recoverable.Recoverable.{Recoverable}

-- after what two calls added one error is recorded
pub added-one : {I F E C : Type 0} (keeps : I → I → Type 0)
    (recovered : C → C → Recoverable I F → E → F) (s left ended t : Recoverable I F) (start at : C)
    (error : E) → AddsErrors keeps s left → AddsErrors keeps left ended
    → Records recovered ended start at error t
    → (more : List F)
    × ((u : Recoverable I F)
    × (IsSame ended u
    × (recorded_errors t ≡ (recorded_errors s ++ more) ++ recovered start at u error ∷ [])))
added-one keeps recovered s left ended t start at error first second one =
    let both = second.added.1 ∙ ap (λ xs. xs ++ second.added.0) first.added.1 ∙ append_assoc (recorded_errors s) first.added.0 second.added.0 in
    (first.added.0 ++ second.added.0, (one.0, (one.1, one.2.1 ∙ ap (λ xs. xs ++ recovered start at one.0 error ∷ []) both)))
