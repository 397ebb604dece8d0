-- What follows a failure, as the answer of an attempt, as a record, and as an error.
use Rattle.std.proofs.Common.{◌≡◌, Bool, ℕ, Option, Result, Ok, Err, ◌⊎◌, inr, subst, refl}
use Rattle.winnow_stream.specs.Source.{Source}
use Rattle.winnow_stream.specs.declared.needed.Needed.{Needed}
use Rattle.winnow_error.specs.declared.failure.Failure.{Failure}
use Rattle.winnow_error.specs.declared.failure.Failure.TheVariants.{Incomplete, Backtrack, Cut, Refused}
use Rattle.winnow_parser.specs.Outcome.{Ahead, Gives, Fails, Needs, Refuses, Meaning}
use Rattle.winnow_parser.specs.Answer.{ahead, failed}
use Rattle.winnow_parser.specs.Errors.{Errors}
use Rattle.winnow_resume.specs.Skipping.{BreaksAt, Attempts}
use Rattle.winnow_resume.specs.Recording.{FailsAs, FailsWith, IsRecorded, RecordsOne}
use Rattle.winnow_resume.specs.Failing.{RecoveryEnds, StaysBroken, FollowsFailure, GoesBack, IsBroken}

-- the same place, by its two parts
pub same_place : {S C T : Type 0} (location : S → Option ℕ) (remaining : S → Source T)
    (stood_at : C → Option ℕ) (remained : C → Source T) (s : S) (c : C)
    → stood_at c ≡ location s → remained c ≡ remaining s
    → ahead stood_at remained c ≡ ahead location remaining s
same_place {T = T} location remaining stood_at remained s c p q =
    subst (λ a. ahead stood_at remained c ≡ record { location = a; tokens = remaining s }) p
    (subst (λ r. ahead stood_at remained c ≡ record { location = stood_at c; tokens = r }) q refl)

-- where the recovery ends otherwise, so does the attempt
pub RecoveryEnds-attempts : {E O T : Type 0} (supports : Bool) (means : Meaning O T)
    (recover : Meaning (Unit {0}) T) (before partial : Bool) (a b c : Ahead T)
    (f : Failure E Needed) → before ≡ partial → BreaksAt means partial a b
    → RecoveryEnds supports recover before b f
    → Attempts supports means recover partial a (Fails (failed f c))
RecoveryEnds-attempts supports means recover before partial a b c (Incomplete n) flag broke h =
    inr (h.0, (b, (broke, subst (λ more. recover more b (Fails (Needs n))) flag h.1)))
RecoveryEnds-attempts {T = T} supports means recover before partial a b c (Refused r) flag broke h =
    inr (h.0, (b, (broke, subst (λ more. recover more b (Fails Refuses) ⊎ ((d : Ahead T) × recover more b (Gives tt d))) flag h.1)))
RecoveryEnds-attempts supports means recover before partial a b c (Backtrack e) flag broke h = absurd h
RecoveryEnds-attempts supports means recover before partial a b c (Cut e) flag broke h = absurd h

module _ {S C E O T : Type 0} (stands : S → Ahead T) (stood : C → Ahead T) (keeps : S → S → Type 0)
    (refuses : S → E → Bool) (records : S → C → C → E → S → Type 0) (carries : S → E → Type 0)
    (recovered : C → C → S → E → E) (supports : Bool) (means : Meaning O T) (errors : Errors E S T)
    (recover : Meaning (Unit {0}) T) (advances : Bool) where
  -- a failure that is recorded
  pub FollowsFailure-records : (before partial : Bool) (s left t : S) (start at : C) (error : E)
      (o : Result (Unit {0}) E) (u : Unit {0}) → before ≡ partial → o ≡ Ok u
      → stood start ≡ stands s → stood at ≡ stands left → FailsWith stands means errors partial (stands s) left error
      → keeps s left
      → FollowsFailure stands keeps refuses records carries supports recover advances before start at error left (Ok o) t
      → RecordsOne stands stood keeps records means errors recover partial s t
  FollowsFailure-records before partial s left t start at error o u flag is began broke failed kept follows =
      let ok = subst (λ r. FollowsFailure stands keeps refuses records carries supports recover advances before start at error left (Ok r) t) is follows in
      record {
        left = left;
        error = error;
        start = start;
        at = at;
        began = began;
        broke = broke;
        failed = failed;
        kept = kept;
        recorded = subst (λ more. IsRecorded stands keeps records recover more start at error left t) flag ok.2;
      }

  -- a failure that is not skipped
  pub FollowsFailure-broken : (mode : E → Failure E Needed) (before partial : Bool) (s left t : S)
      (start at : C) (error e : E) (o : Result (Unit {0}) E) → before ≡ partial → o ≡ Err e
      → stood start ≡ stands s → stood at ≡ stands left
      → FailsAs stands means errors partial (stands s) left (mode error) → keeps left t
      → FollowsFailure stands keeps refuses records (GoesBack stands recovered start at error left) supports recover advances before start at error left (Ok o) t
      → IsBroken stands stood keeps refuses recovered supports means errors recover advances partial (stands s) t mode e
  FollowsFailure-broken mode before partial s left t start at error e o flag is began broke failed kept follows =
      let err = subst (λ r. FollowsFailure stands keeps refuses records (GoesBack stands recovered start at error left) supports recover advances before start at error left (Ok r) t) is follows in
      record {
        left = left;
        error = error;
        start = start;
        at = at;
        failed = failed;
        began = began;
        broke = broke;
        back = err.0.0;
        kept = kept;
        carries = err.0.1;
        reason = subst (λ more. StaysBroken stands refuses supports recover advances more error left) flag err.1;
      }
