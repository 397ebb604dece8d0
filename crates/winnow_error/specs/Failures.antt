-- What the calls of a failure give, and how failures and the modes of errors convert.
use Rattle.std.specs.Prelude.{◌≡◌, Bool, true, false, Option, Some, None, Result, Ok, Err, ⊤}
use Rattle.std.specs.declared.alloc.AllocError.{AllocError}
use Rattle.winnow_stream.specs.declared.needed.Needed.{Needed}
use Rattle.winnow_error.specs.declared.mode.ErrMode.TheVariants as modal
use Rattle.winnow_error.specs.Mode.{Mode}
use Rattle.winnow_error.specs.declared.failure.Failure.{Failure}
use Rattle.winnow_error.specs.declared.failure.Failure.TheVariants.{Incomplete, Backtrack, Cut, Refused}

-- another parser may be tried after the failure
abbrev pub failure_backtracks : {E : Type 0} → Failure E Needed → Bool
failure_backtracks (Backtrack e) = true
failure_backtracks (Cut e) = false
failure_backtracks (Incomplete n) = false
failure_backtracks (Refused r) = false

-- how much more input is needed, or `None` if the failure is not `Incomplete`
abbrev pub failure_needs : {E : Type 0} → Failure E Needed → Option Needed
failure_needs (Incomplete n) = Some n
failure_needs (Backtrack e) = None
failure_needs (Cut e) = None
failure_needs (Refused r) = None

-- the failure after which no other parser may be tried
abbrev pub failure_cut : {E : Type 0} → Failure E Needed → Failure E Needed
failure_cut (Backtrack e) = Cut e
failure_cut (Cut e) = Cut e
failure_cut (Incomplete n) = Incomplete n
failure_cut (Refused r) = Refused r

-- the failure after which another parser may be tried
abbrev pub failure_backtrack : {E : Type 0} → Failure E Needed → Failure E Needed
failure_backtrack (Backtrack e) = Backtrack e
failure_backtrack (Cut e) = Backtrack e
failure_backtrack (Incomplete n) = Incomplete n
failure_backtrack (Refused r) = Refused r

-- the error that the failure carries, or the failure itself, which carries none
abbrev pub failure_inner : {E : Type 0} → Failure E Needed → Result E (Failure E Needed)
failure_inner (Backtrack e) = Ok e
failure_inner (Cut e) = Ok e
failure_inner (Incomplete n) = Err (Incomplete n)
failure_inner (Refused r) = Err (Refused r)

-- P holds of the error that the failure carries, if it carries one
abbrev pub IfCarries : {E : Type 0} → Failure E Needed → (E → Type 0) → Type 0
IfCarries (Backtrack e) P = P e
IfCarries (Cut e) P = P e
IfCarries (Incomplete n) P = ⊤
IfCarries (Refused r) P = ⊤

-- the failure is a backtrack whose error is one of these
abbrev pub IsBacktrackOf : {E : Type 0} → (E → Type 0) → Failure E Needed → Type 0
IsBacktrackOf errors (Backtrack e) = errors e
IsBacktrackOf errors (Cut e) = ⊥
IsBacktrackOf errors (Incomplete n) = ⊥
IsBacktrackOf errors (Refused r) = ⊥

-- the failure is a cut whose error is one of these
abbrev pub IsCutOf : {E : Type 0} → (E → Type 0) → Failure E Needed → Type 0
IsCutOf errors (Cut e) = errors e
IsCutOf errors (Backtrack e) = ⊥
IsCutOf errors (Incomplete n) = ⊥
IsCutOf errors (Refused r) = ⊥

-- the second failure is the first one with an error that the relation gives for the old one
abbrev pub FailureMaps : {E F : Type 0} → (E → F → Type 0) → Failure E Needed → Failure F Needed
    → Type 0
FailureMaps gives (Backtrack e) other = IsBacktrackOf (gives e) other
FailureMaps gives (Cut e) other = IsCutOf (gives e) other
FailureMaps gives (Incomplete n) other = other ≡ Incomplete n
FailureMaps gives (Refused r) other = other ≡ Refused r

-- the failure of an error with a mode
abbrev pub failure_of : {E : Type 0} → Mode E → Failure E Needed
failure_of (modal.Backtrack e) = Backtrack e
failure_of (modal.Cut e) = Cut e
failure_of (modal.Incomplete n) = Incomplete n

-- the error with a mode that the failure is, or that memory was refused
abbrev pub mode_of : {E : Type 0} → Failure E Needed → Result (Mode E) AllocError
mode_of (Backtrack e) = Ok (modal.Backtrack e)
mode_of (Cut e) = Ok (modal.Cut e)
mode_of (Incomplete n) = Ok (modal.Incomplete n)
mode_of (Refused r) = Err r
