use Rattle.std.proofs.Common.{◌∙◌, ap}
use Rattle.std.specs.Prelude.{◌++◌, ◌∷◌, [], refl}
use Rattle.winnow_recover.proofs.recoverable.RecoverableRecover.record_err.Goals as goal

-- The stream from which the error is converted has the room for it already.
pub returns-clause-ok : goal.returns-clause-ok
returns-clause-ok g c =
    let errors = c.args.self.now.errors.items in
    let recorded = c.from_recoverable_error-recorded in (
      record { input = c.args.self.now.input; errors = c.reserve.new.self; is_recoverable = c.args.self.now.is_recoverable },
      (refl, c.reserve.ensures.items, refl),
      (refl, c.push_reserved.ensures.items ∙ ap (λ xs. xs ++ recorded.result ∷ []) c.reserve.ensures.items ∙ ap (λ e. errors ++ e ∷ []) recorded.ensures, refl),
    )
