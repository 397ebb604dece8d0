-- What a failure prints.
use Rattle.std.specs.Prelude.{ℕ, List, Option, Some, codes}
use Rattle.std.specs.Fmt.{◌++?◌}
use Rattle.winnow_stream.specs.declared.needed.Needed.{Needed}
use Rattle.winnow_error.specs.ModeText.{needed_text}
use Rattle.winnow_error.specs.declared.failure.Failure.{Failure}
use Rattle.winnow_error.specs.declared.failure.Failure.TheVariants.{Incomplete, Backtrack, Cut, Refused}

-- the text that an error with the same mode has; or that memory was refused
abbrev pub failure_text : {E : Type 0} → (E → Option (List ℕ)) → Failure E Needed → Option (List ℕ)
failure_text debug (Incomplete n) = Some (needed_text n)
failure_text debug (Cut e) = Some (codes "Parsing Failure: ") ++? debug e
failure_text debug (Backtrack e) = Some (codes "Parsing Error: ") ++? debug e
failure_text debug (Refused r) = Some (codes "Memory was refused")
