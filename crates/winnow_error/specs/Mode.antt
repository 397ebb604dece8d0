-- The mode around an error: what the calls of `ErrMode` give, by what the calls of the inner error
-- give.
use Rattle.std.specs.Prelude.{◌≡◌, Bool, true, false, Option, Some, None, Result, Ok, Err, ⊤}
use Rattle.winnow_stream.specs.declared.needed.Needed.{Needed}
use Rattle.winnow_error.specs.declared.mode.ErrMode.{ErrMode}
use Rattle.winnow_error.specs.declared.mode.ErrMode.TheVariants.{Incomplete, Backtrack, Cut}

-- an `ErrMode<E>`
abbrev pub Mode : Type 0 → Type 0
Mode E = ErrMode E Needed

-- how much more input was wanted, or `None` if the error is not `Incomplete`
abbrev pub mode_needs : {E : Type 0} → Mode E → Option Needed
mode_needs (Incomplete n) = Some n
mode_needs (Backtrack e) = None
mode_needs (Cut e) = None

-- another alternative may be tried after the error
abbrev pub mode_backtracks : {E : Type 0} → Mode E → Bool
mode_backtracks (Backtrack e) = true
mode_backtracks (Incomplete n) = false
mode_backtracks (Cut e) = false

-- the error without its mode
abbrev pub mode_inner : {E : Type 0} → Mode E → Result E (Mode E)
mode_inner (Incomplete n) = Err (Incomplete n)
mode_inner (Backtrack e) = Ok e
mode_inner (Cut e) = Ok e

-- the error after which no other alternative may be tried
abbrev pub mode_cut : {E : Type 0} → Mode E → Mode E
mode_cut (Backtrack e) = Cut e
mode_cut (Incomplete n) = Incomplete n
mode_cut (Cut e) = Cut e

-- another alternative may be tried after the error
abbrev pub mode_backtrack : {E : Type 0} → Mode E → Mode E
mode_backtrack (Cut e) = Backtrack e
mode_backtrack (Incomplete n) = Incomplete n
mode_backtrack (Backtrack e) = Backtrack e

-- the same mode, with a function applied to the inner error
abbrev pub mode_map : {E F : Type 0} → (E → F) → Mode E → Mode F
mode_map f (Incomplete n) = Incomplete n
mode_map f (Backtrack e) = Backtrack (f e)
mode_map f (Cut e) = Cut (f e)

-- r is `Backtrack` of an error for which P holds
abbrev pub IsBacktrackOf : {E : Type 0} → (E → Type 0) → Mode E → Type 0
IsBacktrackOf P (Backtrack e) = P e
IsBacktrackOf P (Incomplete n) = ⊥
IsBacktrackOf P (Cut e) = ⊥

-- r is `Cut` of an error for which P holds
abbrev pub IsCutOf : {E : Type 0} → (E → Type 0) → Mode E → Type 0
IsCutOf P (Cut e) = P e
IsCutOf P (Incomplete n) = ⊥
IsCutOf P (Backtrack e) = ⊥

-- P holds for the inner error, if there is one
abbrev pub IfInner : {E : Type 0} → Mode E → (E → Type 0) → Type 0
IfInner (Incomplete n) P = ⊤
IfInner (Backtrack e) P = P e
IfInner (Cut e) P = P e

-- r is the same mode with an inner error that the relation gives for the old one
abbrev pub ModeMaps : {E F : Type 0} → (E → F → Type 0) → Mode E → Mode F → Type 0
ModeMaps gives (Incomplete n) r = r ≡ Incomplete n
ModeMaps gives (Backtrack e) r = IsBacktrackOf (gives e) r
ModeMaps gives (Cut e) r = IsCutOf (gives e) r

-- r is what `append` gives: it adds to the inner error of a `Backtrack` and leaves any other error
-- as it is
abbrev pub ModeAppends : {E : Type 0} → (E → E → Type 0) → Mode E → Mode E → Type 0
ModeAppends gives (Backtrack e) r = IsBacktrackOf (gives e) r
ModeAppends gives (Incomplete n) r = r ≡ Incomplete n
ModeAppends gives (Cut e) r = r ≡ Cut e

-- r is what `or` gives: for two `Backtrack`s, what the inner `or` gives; if either is `Incomplete`,
-- the first of these; and the first `Cut` in the remaining cases
abbrev pub ModeOr : {E : Type 0} → (E → E → E → Type 0) → Mode E → Mode E → Mode E → Type 0
ModeOr gives (Backtrack a) (Backtrack b) r = IsBacktrackOf (gives a b) r
ModeOr gives (Incomplete n) b r = r ≡ Incomplete n
ModeOr gives (Backtrack a) (Incomplete n) r = r ≡ Incomplete n
ModeOr gives (Cut a) (Incomplete n) r = r ≡ Incomplete n
ModeOr gives (Cut a) (Backtrack b) r = r ≡ Cut a
ModeOr gives (Cut a) (Cut b) r = r ≡ Cut a
ModeOr gives (Backtrack a) (Cut b) r = r ≡ Cut b

-- what `or` gives if the inner `or` is a function
abbrev pub mode_joined : {E : Type 0} → (E → E → E) → Mode E → Mode E → Mode E
mode_joined join (Backtrack a) (Backtrack b) = Backtrack (join a b)
mode_joined join (Incomplete n) b = Incomplete n
mode_joined join (Backtrack a) (Incomplete n) = Incomplete n
mode_joined join (Cut a) (Incomplete n) = Incomplete n
mode_joined join (Cut a) (Backtrack b) = Cut a
mode_joined join (Cut a) (Cut b) = Cut a
mode_joined join (Backtrack a) (Cut b) = Cut b
