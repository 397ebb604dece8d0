-- What is answered where events were taken, and what a failure says of the input.
use Rattle.std.proofs.Common.{◌≡◌, ℕ, Bool, true, false, List, ◌++◌, subst}
use Rattle.std.specs.Prelude.{None, Result, Ok, Err, OnOk, IfErr}
use Rattle.std.specs.declared.alloc.AllocError.{AllocError}
use Rattle.winnow_reader.specs.declared.next.Next.{Next}
use Rattle.winnow_reader.specs.declared.next.Next.TheVariants as next
use Rattle.format_json_events.specs.Reading.{EventState, IsWhole}
use Rattle.format_json_events.specs.declared.event_reader.EventError.{EventError}
use Rattle.format_json_events.specs.declared.event_reader.EventError.TheVariants as error
use Rattle.example_json.specs.Positions.{LeadsTo}
use Rattle.example_json.specs.Failures.{IsOfText}
use Rattle.example_json.specs.Faults.{StopsAt, IsFailureOf, TellsOf}
use Rattle.example_json.specs.Taking.{PrintsOn, StopsAfter, IsTaken, Answers}
use Rattle.example_json.specs.Printing.{BreaksOn}
use Rattle.example_json.specs.declared.positions.Line.{Line}
use Rattle.example_json.specs.declared.failure.Failure.{Failure}
use Rattle.example_json.specs.declared.failure.Failure.TheVariants.{Damaged, Unexpected, TooDeep, EndsEarly, Stopped}
use Rattle.example_json.specs.declared.program.Progress.{Progress}

-- ---- Failures

-- a failure that tells of the error of a reader is one of the input
told-of : (input piece : List ℕ) (line : Line) (r : EventState) (e : EventError)
    (failure : Failure) → LeadsTo input line
    → StopsAt r e → TellsOf line piece e failure → IsFailureOf (input ++ piece) r failure
told-of input piece line r e (Damaged p cause) leads stops (place, (is, placed)) =
    (place, (subst (StopsAt r) is stops, placed input leads))
told-of input piece line r e (Unexpected p) leads stops (place, (is, placed)) =
    (place, (subst (StopsAt r) is stops, placed input leads))
told-of input piece line r e (TooDeep p) leads stops (place, (is, placed)) =
    (place, (subst (StopsAt r) is stops, placed input leads))
told-of input piece line r e (EndsEarly p) leads stops (place, (is, placed)) =
    (place, (subst (StopsAt r) is stops, placed input leads))
told-of input piece line r e (Stopped trouble) leads stops told = tt

-- where a reader stops after some events, the failure that tells of its error is one of the input
stops-breaks : (old : EventState) (p : Progress) (piece : List ℕ) (e : EventError)
    (failure : Failure) (wrote : List ℕ → Type 0)
    → StopsAfter old p.level e wrote → TellsOf p.line piece e failure
    → BreaksOn old p piece failure wrote
stops-breaks old p piece e failure wrote (r, (there, (prints, going, keeps, stops))) told is input before leads given =
    let more = prints (input ++ piece) before given in
    record {
      reader = r;
      more = more.0;
      given = more.1.0;
      going = going;
      keeps = keeps;
      written = more.1.2;
      told = told-of input piece p.line r e failure leads stops told;
    }

-- refused memory is no failure of the text
refused-tells : (line : Line) (piece : List ℕ) (r : AllocError) (failure : Failure)
    → TellsOf line piece (error.Refused r) failure → ¬ (IsOfText failure)
refused-tells line piece r (Damaged p cause) (place, (is, placed)) = absurd (cc is)
refused-tells line piece r (Unexpected p) (place, (is, placed)) = absurd (cc is)
refused-tells line piece r (TooDeep p) (place, (is, placed)) = absurd (cc is)
refused-tells line piece r (EndsEarly p) (place, (is, placed)) = absurd (cc is)
refused-tells line piece r (Stopped trouble) told = λ t. t

-- what a failure says where the events were taken so
pub answer-breaks : (old new : EventState) (p : Progress) (there : ℕ) (piece : List ℕ)
    (taken : Result (Next (Unit {0})) EventError) (failure : Failure) (wrote : List ℕ → Type 0)
    → IsTaken old p.level taken new there wrote → Answers p.line piece taken (Err failure)
    → BreaksOn old p piece failure wrote
answer-breaks old new p there piece (Ok (next.Value u)) failure wrote h never = λ is. absurd (never is)
answer-breaks old new p there piece (Ok next.NeedsMore) failure wrote h never = λ is. absurd (never is)
answer-breaks old new p there piece (Ok next.Done) failure wrote h never = λ is. absurd (never is)
answer-breaks old new p there piece (Err (error.Damaged place cause)) failure wrote h told =
    stops-breaks old p piece (error.Damaged place cause) failure wrote h told
answer-breaks old new p there piece (Err (error.Unexpected place)) failure wrote h told =
    stops-breaks old p piece (error.Unexpected place) failure wrote h told
answer-breaks old new p there piece (Err (error.TooDeep place)) failure wrote h told =
    stops-breaks old p piece (error.TooDeep place) failure wrote h told
answer-breaks old new p there piece (Err (error.EndsEarly place)) failure wrote h told =
    stops-breaks old p piece (error.EndsEarly place) failure wrote h told
answer-breaks old new p there piece (Err (error.Refused r)) failure wrote h told =
    λ is. absurd (refused-tells p.line piece r failure told is)

-- ---- Success

-- nothing is both true and false
no-both : (b : Bool) → b ≡ true → b ≡ false → ⊥
no-both true e f = absurd (cc)
no-both false e f = absurd (cc)

-- what was taken, where that is answered with success: the reader may go on, its text is whole if
-- its input has ended, and the lines were written
pub record IsReady (old new : EventState) (level there : ℕ) (wrote : List ℕ → Type 0) : Type 0 where
  pub going : new.stopped ≡ None
  pub whole : new.tokens.ended ≡ true → IsWhole new
  pub prints : PrintsOn old level new there wrote

-- so it is where events were taken so
pub answer-ready : (old new : EventState) (level there : ℕ) (line : Line) (piece : List ℕ)
    (taken : Result (Next (Unit {0})) EventError) (wrote : List ℕ → Type 0)
    → IsTaken old level taken new there wrote → Answers line piece taken (Ok tt)
    → IsReady old new level there wrote
answer-ready old new level there line piece (Ok (next.Value u)) wrote h never = absurd never
answer-ready old new level there line piece (Ok next.NeedsMore) wrote h _ =
    record { going = h.0; whole = λ e. absurd (no-both new.tokens.ended e h.2); prints = h.1 }
answer-ready old new level there line piece (Ok next.Done) wrote h _ =
    record { going = h.0; whole = λ e. h.2; prints = h.1 }
answer-ready old new level there line piece (Err e) wrote h never = absurd never

-- what an answer says where the events were taken so
pub answer-says : (old new : EventState) (p : Progress) (there : ℕ) (piece : List ℕ)
    (taken : Result (Next (Unit {0})) EventError) (r : Result (Unit {0}) Failure)
    (wrote : List ℕ → Type 0)
    → IsTaken old p.level taken new there wrote → Answers p.line piece taken r
    → OnOk r (IsReady old new p.level there wrote)
    × IfErr r (λ failure. BreaksOn old p piece failure wrote)
answer-says old new p there piece taken (Ok done) wrote h says =
    (answer-ready old new p.level there p.line piece taken wrote h says, tt)
answer-says old new p there piece taken (Err failure) wrote h says =
    (tt, answer-breaks old new p there piece taken failure wrote h says)
