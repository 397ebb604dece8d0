-- The answer of recording an error.
use Rattle.std.specs.Prelude.{◌≡◌, Bool, true, false, Result, Ok, Err, ⊤}
use Rattle.winnow_recover.specs.declared.record_error.RecordError.{RecordError}
use Rattle.winnow_recover.specs.declared.record_error.RecordError.TheVariants.{Refused, OutOfMemory}

-- success, or the error itself: `Refused` exactly if it is to be refused, and else `OutOfMemory`
abbrev pub IsRecording : {E : Type 0} → Bool → E → Result ⊤ (RecordError E) → Type 0
IsRecording refused err (Ok _) = refused ≡ false
IsRecording refused err (Err (Refused e)) = (refused ≡ true) × (e ≡ err)
IsRecording refused err (Err (OutOfMemory e)) = (refused ≡ false) × (e ≡ err)
