-- If a text could not be written, there is nothing to promise of it.
use Rattle.std.proofs.Common.{◌≡◌, List, ℕ, Option, None, Some, Result, Ok, Err}
use Rattle.std.specs.Result.{IsErr, IsOk}
use Rattle.std.specs.Fmt.{DisplaysOnOk}
use Rattle.std.specs.declared.fmt.Formatter.{Formatter}
use Rattle.std.specs.declared.fmt.Error.{Error}

-- a result is not both `Err` and `Ok`
pub not-both : {T E : Type 0} (r : Result T E) → IsErr r → IsOk r → ⊥
not-both (Ok x) err ok = cc
not-both (Err e) err ok = cc

-- a write that was refused promises nothing, so each text satisfies it
pub displays-refused : {W : Type 0} (took : W → List ℕ → W
    → Type 0) (f : Formatter W) (r : Result (Unit {0}) Error) (o : Option (List ℕ))
    (g : Formatter W) → IsErr r → DisplaysOnOk took f r o g
displays-refused took f r None g err = tt
displays-refused took f r (Some bs) g err = λ _ ok. absurd (not-both r err ok)
