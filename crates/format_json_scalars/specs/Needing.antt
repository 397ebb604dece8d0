-- How many bytes more a reader asks for.
use Rattle.std.specs.Prelude.{◌≡◌, Result, Ok, Err, ⊤}
use Rattle.winnow_stream.specs.Shortage.{needed}
use Rattle.winnow_stream.specs.declared.needed.Needed.{Needed}
use Rattle.winnow_error.specs.declared.failure.Failure.{Failure}
use Rattle.winnow_error.specs.declared.failure.Failure.TheVariants.{Incomplete, Backtrack, Cut, Refused}

-- where more is needed, one byte is
abbrev pub NeedsOneByte : {O E : Type 0} → Result O (Failure E Needed) → Type 0
NeedsOneByte (Ok value) = ⊤
NeedsOneByte (Err (Backtrack e)) = ⊤
NeedsOneByte (Err (Cut e)) = ⊤
NeedsOneByte (Err (Incomplete n)) = n ≡ needed 1
NeedsOneByte (Err (Refused e)) = ⊤
