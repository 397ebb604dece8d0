-- What a failure says of an input.
use Rattle.std.proofs.Common.{ℕ, ◌+◌, List, ◌++◌, sym, subst}
use Rattle.std.specs.Prelude.{Option}
use Rattle.format_json_events.specs.Reading.{EventState}
use Rattle.wb_json.specs.Windows.{IsWindow, Tells}
use Rattle.wb_json.specs.Faults.{FindsFault, IsFailureOf}
use Rattle.wb_json.specs.Taking.{StopsAfter}
use Rattle.wb_json.specs.Printing.{BreaksOn}
use Rattle.wb_json.specs.declared.failure.Fault.{Fault}
use Rattle.wb_json.specs.declared.failure.Failure.{Failure}
use Rattle.wb_json.specs.declared.failure.Failure.TheVariants.{Faulty, Stopped}
use Rattle.wb_json.specs.declared.printing.Printing.{Printing}
use Rattle.wb_json.proofs.lemmas.WindowLemmas.{placed-longer}

-- a failure that tells of the fault of a reader is one of the input
told-of : (limit : ℕ) (input : List ℕ) (start place : ℕ) (r : EventState) (fault : Fault)
    (failure : Failure) → FindsFault limit r fault place → Tells input start place fault failure
    → IsFailureOf limit input start r failure
told-of limit input start place r fault (Faulty position is excerpt) finds (same, placed) =
    (place, (subst (λ f. FindsFault limit r f place) (sym same) finds, placed))
told-of limit input start place r fault (Stopped trouble) finds told = tt

-- where a reader stops after some events, the failure that tells of its fault is one of the input
pub stops-breaks : (old : Printing) (place : ℕ) (fault : Fault) (failure : Failure)
    (held now : Option (List ℕ))
    → StopsAfter old.settings old.reader old.path fault place held now
    → ((input : List ℕ) → IsWindow input old.window → Tells input old.window.start place fault failure)
    → BreaksOn old failure held now
stops-breaks old place fault failure held now (r, (there, (prints, going, keeps, stops))) tells is head text before window start given =
    let more = prints text before given in
    record {
      reader = r;
      more = more.0;
      given = more.1.0;
      going = going;
      keeps = keeps;
      wrote = more.1.2;
      told = subst (λ n. IsFailureOf old.settings.limit (head ++ text) n r failure) start
          (told-of old.settings.limit (head ++ text) old.window.start place r fault failure stops (tells (head ++ text) window));
    }

-- a failure of a front of the input is one of the input
pub failure-longer : (limit : ℕ) (input rest : List ℕ) (start : ℕ) (r : EventState)
    (failure : Failure)
    → IsFailureOf limit input start r failure → IsFailureOf limit (input ++ rest) start r failure
failure-longer limit input rest start r (Faulty position fault excerpt) (place, (finds, placed)) =
    (place, (finds, placed-longer input rest (start + place) position excerpt placed))
failure-longer limit input rest start r (Stopped trouble) h = tt
