-- Which line a fault names.
use Rattle.std.proofs.Common.{◌≡◌, ℕ, Result}
use Rattle.std.specs.Prelude.{IfErr}
use Rattle.std.proofs.lemmas.Result.{err_from_is_err_and}
use Rattle.std.specs.Result.{IsErrAnd}
use Rattle.winnow_script_lines.specs.Fault.{IsLineWhere}
use Rattle.winnow_script_lines.specs.declared.fault.ScriptFault.{ScriptFault}
use Rattle.winnow_script_lines.specs.declared.fault.ScriptFault.TheVariants.{Line, OutOfMemory}

-- a fault keeps what follows from the line's number
pub IsLineWhere-more : (P Q : ℕ → Type 0) (fault : ScriptFault) → ((k : ℕ) → P k → Q k)
    → IsLineWhere P fault → IsLineWhere Q fault
IsLineWhere-more P Q (Line k) more is = more k is
IsLineWhere-more P Q OutOfMemory more is = tt

-- a fault that `?` passes on keeps what holds of it
pub IfErr-handed : {T : Type 0} (P : ScriptFault
    → Type 0) (result : Result T ScriptFault) (fault : ScriptFault)
    → IsErrAnd result (λ e. e ≡ fault) → P fault → IfErr result P
IfErr-handed P result fault handed holds =
    let out = err_from_is_err_and result handed in
    rw (out.1, out.2) holds
