-- When a failure is not skipped, and which error it then carries.
use Rattle.std.specs.Prelude.{◌≡◌, ◌≤◌, Bool, true, false, List, Result, Ok, Err, ◌⊎◌, ⊤}
use Rattle.winnow_stream.specs.declared.needed.Needed.{Needed}
use Rattle.winnow_stream.specs.Source.{width}
use Rattle.winnow_error.specs.declared.failure.Failure.{Failure}
use Rattle.winnow_error.specs.declared.failure.Failure.TheVariants.{Incomplete, Backtrack, Cut, Refused}
use Rattle.winnow_parser.specs.Outcome.{Ahead, Gives, Fails, Needs, Refuses, Meaning}
use Rattle.winnow_parser.specs.Errors.{Errors}
use Rattle.winnow_resume.specs.Chain.{Chain}
use Rattle.winnow_resume.specs.Skipping.{BreaksAt, Skips, Advances}
use Rattle.winnow_resume.specs.Recording.{FailsAs, IsRecorded}

-- a failure that left the stream so is not skipped: the type of the stream records no errors; or
-- the recovery fails; or it takes nothing, and has to; or the stream refuses the error where the
-- recovery ends
abbrev pub StaysBroken : {S E T : Type 0} → (S → Ahead T) → (S → E → Bool) → Bool
    → Meaning (Unit {0}) T → Bool → Bool → E → S → Type 0
StaysBroken {S = S} {T = T} stands refuses supports recover advances partial error left =
    (supports ≡ false)
    ⊎ (((b : Ahead T) × BreaksAt recover partial (stands left) b)
    ⊎ (((b : Ahead T)
    × (recover partial (stands left) (Gives tt b) × (advances ≡ true) × (width (stands left).tokens ≤ width b.tokens)))
    ⊎ ((ended : S)
    × (recover partial (stands left) (Gives tt (stands ended)) × (refuses ended error ≡ true)))))

-- the error itself
abbrev pub IsError : {S E : Type 0} → E → S → E → Type 0
IsError error t e = e ≡ error

-- the stream is back where the parser failed, and the error is what is made of the parser's
abbrev pub GoesBack : {S C E T : Type 0} → (S → Ahead T) → (C → C → S → E → E) → C → C → E → S → S
    → E → Type 0
GoesBack stands recovered start at error left t e = (stands t ≡ stands left) × (e ≡ recovered start at t error)

-- the stream may record errors, and the recovery needs more input; or memory is refused to it or to
-- the record
abbrev pub RecoveryEnds : {E T : Type 0} → Bool → Meaning (Unit {0}) T → Bool → Ahead T
    → Failure E Needed → Type 0
RecoveryEnds supports recover partial a (Incomplete n) = (supports ≡ true) × recover partial a (Fails (Needs n))
RecoveryEnds {T = T} supports recover partial a (Refused r) = (supports ≡ true)
    × (recover partial a (Fails Refuses) ⊎ ((c : Ahead T) × recover partial a (Gives tt c)))
RecoveryEnds supports recover partial a (Backtrack e) = ⊥
RecoveryEnds supports recover partial a (Cut e) = ⊥

-- what follows a failure with this error: it is recorded; or it is not, and the error is one of
-- these; or the recovery ends otherwise
abbrev pub FollowsFailure : {S C E T : Type 0} → (S → Ahead T) → (S → S → Type 0) → (S → E → Bool)
    → (S → C → C → E → S → Type 0) → (S → E → Type 0) → Bool → Meaning (Unit {0}) T → Bool → Bool
    → C → C → E → S → Result (Result (Unit {0}) E) (Failure E Needed) → S → Type 0
FollowsFailure stands keeps refuses records carries supports recover advances partial start at error left (Ok (Ok u)) t =
    (supports ≡ true)
    × Advances advances (stands left) (stands t)
    × IsRecorded stands keeps records recover partial start at error left t
FollowsFailure stands keeps refuses records carries supports recover advances partial start at error left (Ok (Err e)) t =
    carries t e × StaysBroken stands refuses supports recover advances partial error left
FollowsFailure stands keeps refuses records carries supports recover advances partial start at error left (Err f) t =
    RecoveryEnds supports recover partial (stands left) f

-- the failure is made of one of the parser that is not skipped: the stream goes back to where it
-- failed, and the error is what the stream makes of the parser's
pub record IsBroken {S C E O T : Type 0} (stands : S → Ahead T) (stood : C → Ahead T)
    (keeps : S → S → Type 0) (refuses : S → E → Bool) (recovered : C → C → S → E → E)
    (supports : Bool) (means : Meaning O T) (errors : Errors E S T) (recover : Meaning (Unit {0}) T)
    (advances partial : Bool) (a : Ahead T) (s : S) (mode : E → Failure E Needed) (e : E)
    : Type 0 where
  pub left : S
  pub error : E
  pub start : C
  pub at : C
  pub failed : FailsAs stands means errors partial a left (mode error)
  pub began : stood start ≡ a
  pub broke : stood at ≡ stands left
  pub back : stands s ≡ stands left
  pub kept : keeps left s
  pub carries : e ≡ recovered start at s error
  pub reason : StaysBroken stands refuses supports recover advances partial error left

-- the errors of an attempt
abbrev pub AttemptErrors : {S C E O T : Type 0} → (S → Ahead T) → (C → Ahead T) → (S → S → Type 0)
    → (S → E → Bool) → (C → C → S → E → E) → Bool → Meaning O T → Errors E S T
    → Meaning (Unit {0}) T → Bool → Errors E S T
AttemptErrors stands stood keeps refuses recovered supports means errors recover advances partial a s (Backtrack e) =
    IsBroken stands stood keeps refuses recovered supports means errors recover advances partial a s Backtrack e
AttemptErrors stands stood keeps refuses recovered supports means errors recover advances partial a s (Cut e) =
    IsBroken stands stood keeps refuses recovered supports means errors recover advances partial a s Cut e
AttemptErrors stands stood keeps refuses recovered supports means errors recover advances partial a s (Incomplete n) = ⊤
AttemptErrors stands stood keeps refuses recovered supports means errors recover advances partial a s (Refused r) = ⊤

-- the errors of an attempt after failures that were skipped
abbrev pub RetryErrors : {S C E O T : Type 0} → (S → Ahead T) → (C → Ahead T) → (S → S → Type 0)
    → (S → E → Bool) → (C → C → S → E → E) → Bool → Meaning O T → Errors E S T
    → Meaning (Unit {0}) T → Errors E S T
RetryErrors {T = T} stands stood keeps refuses recovered supports means errors recover partial a s failure =
    (places : List (Ahead T))
    × ((b : Ahead T)
    × (Chain (Skips true supports means recover partial) places a b
    × AttemptErrors stands stood keeps refuses recovered supports means errors recover true partial b s failure))
