-- What an `ErrMode` prints.
use Rattle.std.specs.Prelude.{ℕ, List, ◌++◌, Option, Some, codes}
use Rattle.std.specs.Fmt.{◌++?◌, decimal}
use Rattle.winnow_stream.specs.declared.needed.Needed.{Needed}
use Rattle.winnow_stream.specs.declared.needed.Needed.TheVariants.{Unknown, Size}
use Rattle.winnow_error.specs.declared.mode.ErrMode.TheVariants.{Incomplete, Backtrack, Cut}
use Rattle.winnow_error.specs.Mode.{Mode}

-- the text that says how much more input is wanted
abbrev pub needed_text : Needed → List ℕ
needed_text Unknown = codes "Parsing requires more data"
needed_text (Size n) = codes "Parsing requires " ++ decimal n.value ++ codes " more data"

-- the text of the mode, then the debug text of the inner error
abbrev pub mode_text : {E : Type 0} → (E → Option (List ℕ)) → Mode E → Option (List ℕ)
mode_text debug (Incomplete n) = Some (needed_text n)
mode_text debug (Cut e) = Some (codes "Parsing Failure: ") ++? debug e
mode_text debug (Backtrack e) = Some (codes "Parsing Error: ") ++? debug e
