-- What a parser with a recovery records: one error for each failure that is skipped.
use Rattle.std.specs.Prelude.{◌≡◌, Bool, ◌⊎◌}
use Rattle.winnow_stream.specs.declared.needed.Needed.{Needed}
use Rattle.winnow_error.specs.declared.failure.Failure.{Failure}
use Rattle.winnow_error.specs.declared.failure.Failure.TheVariants.{Backtrack, Cut}
use Rattle.winnow_parser.specs.Outcome.{Ahead, Gives, Fails, Meaning}
use Rattle.winnow_parser.specs.Answer.{failed}
use Rattle.winnow_parser.specs.Errors.{Errors}

-- the failure is one of the parser, with an error that it may carry, and `left` is the stream that
-- the parser leaves
abbrev pub FailsAs : {S E O T : Type 0} → (S → Ahead T) → Meaning O T → Errors E S T → Bool
    → Ahead T → S → Failure E Needed → Type 0
FailsAs stands means errors partial a left failure = errors partial a left failure × means partial a (Fails (failed failure (stands left)))

-- the parser backtracks or cuts with this error
abbrev pub FailsWith : {S E O T : Type 0} → (S → Ahead T) → Meaning O T → Errors E S T → Bool
    → Ahead T → S → E → Type 0
FailsWith stands means errors partial a left error = FailsAs stands means errors partial a left (Backtrack error)
    ⊎ FailsAs stands means errors partial a left (Cut error)

-- after a failure the recovery succeeds, and the error is recorded where it ends, with the place
-- where the parser began and the place where it failed
pub record IsRecorded {S C E T : Type 0} (stands : S → Ahead T) (keeps : S → S → Type 0)
    (records : S → C → C → E → S → Type 0) (recover : Meaning (Unit {0}) T) (partial : Bool)
    (start at : C) (error : E) (left t : S) : Type 0 where
  pub ended : S
  pub skipped : recover partial (stands left) (Gives tt (stands ended))
  pub kept : keeps left ended
  pub recorded : records ended start at error t
  pub stays : stands t ≡ stands ended

-- one failure is skipped between two streams: the parser began at the first and failed, and its
-- error is the one that is recorded
pub record RecordsOne {S C E O T : Type 0} (stands : S → Ahead T) (stood : C → Ahead T)
    (keeps : S → S → Type 0) (records : S → C → C → E → S → Type 0) (means : Meaning O T)
    (errors : Errors E S T) (recover : Meaning (Unit {0}) T) (partial : Bool) (s t : S)
    : Type 0 where
  pub left : S
  pub error : E
  pub start : C
  pub at : C
  pub began : stood start ≡ stands s
  pub broke : stood at ≡ stands left
  pub failed : FailsWith stands means errors partial (stands s) left error
  pub kept : keeps s left
  pub recorded : IsRecorded stands keeps records recover partial start at error left t
