-- What was read and printed, as a piece comes.
use Rattle.std.proofs.Common.{◌≡◌, ℕ, ◌+◌, ◌<◌, ◌^◌, Bool, true, false, List, [], ◌++◌, length, refl, ap, sym, ◌∙◌, subst, arith, append-nil, append_assoc, length-append}
use Rattle.std.specs.Prelude.{Option, None, Some, IfSome, Result, Ok, Err, OnOk, IfErr}
use Rattle.std.specs.Io.KnownBytes.{Appends}
use Rattle.winnow_reader.specs.State.{fed_of}
use Rattle.format_json_events.specs.Reading.{EventState, events_ended, HasGiven, GivesOn, GivesAlso, KeepsLimits}
use Rattle.format_json_events.specs.declared.event_reader.Event.{Event}
use Rattle.example_json.specs.Positions.{LeadsTo}
use Rattle.example_json.specs.Lines.{level_by, lines_at, lines_of}
use Rattle.example_json.specs.Faults.{IsFailureOf}
use Rattle.example_json.specs.Taking.{PrintsOn, IsDone}
use Rattle.example_json.specs.Printing.{IsBegun, BreaksOn, FollowsOn, FailsOn, Prints, PrintsAll, PrintsUntil, TellsInput}
use Rattle.example_json.specs.declared.failure.Failure.{Failure}
use Rattle.example_json.specs.declared.failure.Failure.TheVariants.{Damaged, Unexpected, TooDeep, EndsEarly, Stopped}
use Rattle.example_json.specs.declared.program.Progress.{Progress}
use Rattle.example_json.proofs.lemmas.PositionLemmas.{placed-longer}
use Rattle.example_json.proofs.lemmas.LineLemmas.{level-append, lines-append}
use Rattle.format_json_events.proofs.lemmas.ReaderPlaceLemmas.{given-fed}
use Rattle.example_json.proofs.lemmas.KnownLemmas.{appends-start, appends-more}

-- the line of what was begun counts the bytes that the reader has
pub begun-fed : (r : EventState) (p : Progress) → IsBegun r p → fed_of r.tokens ≡ p.line.bytes
begun-fed r p (input, (events, h)) = given-fed r input events h.given ∙ sym h.leads.counted

-- more events were given with a piece, and their lines were written
pub follows-piece : (old middle new : EventState) (p q : Progress) (piece : List ℕ)
    (wrote : List ℕ → Type 0)
    → GivesAlso old piece middle → PrintsOn middle p.level new q.level wrote → new.stopped ≡ None
    → p.line.bytes + length piece + 1 < 2 ^ 64
    → ((input : List ℕ) → LeadsTo input p.line → LeadsTo (input ++ piece) q.line)
    → FollowsOn old p piece new q wrote
follows-piece old middle new p q piece wrote also prints going fits leads input before h =
    let more = prints (input ++ piece) before (also input before h.given) in (
      more.0,
      (
        record {
          given = more.1.0;
          going = going;
          leads = leads input h.leads;
          level = more.1.1 ∙ ap (λ n. level_by n more.0) h.level ∙ sym (level-append 0 before more.0);
          fits = omega (arith, fits, h.leads.counted, length-append input piece);
        },
        more.1.2,
      ),
    )

-- a failure of what is ahead is one with the piece
pub fails-piece : (old middle limits : EventState) (p : Progress) (piece : List ℕ)
    (failure : Failure) (wrote : List ℕ → Type 0)
    → GivesAlso old piece middle → KeepsLimits limits middle → BreaksOn middle p piece failure wrote
    → FailsOn old p piece limits failure wrote
fails-piece old middle limits p piece failure wrote also same breaks is input before h =
    let b = breaks is input before h.leads (also input before h.given) in record {
      reader = b.reader;
      more = b.more;
      given = b.given;
      going = b.going;
      keeps = (b.keeps.0 ∙ same.0, b.keeps.1 ∙ same.1);
      written = b.written;
      told = b.told;
    }

-- at the end, nothing more was given and nothing more follows
pub also-none : (old middle : EventState) → GivesOn old [] middle → GivesAlso old [] middle
also-none old middle gives input events h =
    subst (λ es. HasGiven middle (input ++ []) es) (append-nil events)
    (subst (λ xs. HasGiven middle xs (events ++ [])) (sym (append-nil input)) (gives input events h))

-- what is printed at the end is printed after what was given before it
pub prints-ended : (old middle new : EventState) (level there : ℕ) (wrote : List ℕ → Type 0)
    → GivesOn old [] middle → PrintsOn middle level new there wrote → PrintsOn old level new there wrote
prints-ended old middle new level there wrote gives prints input before h =
    prints input before (subst (λ es. HasGiven middle input es) (append-nil before) (gives input before h))

-- ---- The whole input

-- at first nothing is printed
pub prints-start : (depth : ℕ) (r : EventState) (p : Progress) (held : Option (List ℕ))
    → HasGiven r [] [] → r.stopped ≡ None → LeadsTo [] p.line → p.level ≡ 0
    → r.text.depth ≡ depth → r.tokens.ended ≡ false → Prints depth [] held held r p
prints-start depth r p held given going leads level limit goes_on = record {
  events = [];
  follows = record { given = given; going = going; leads = leads; level = level; fits = omega arith };
  wrote = appends-start held;
  limit = limit;
  goes_on = goes_on;
}

-- what was begun is begun with a piece
pub begun-piece : (r s : EventState) (p q : Progress) (piece : List ℕ) (wrote : List ℕ → Type 0)
    → IsBegun r p → FollowsOn r p piece s q wrote → IsBegun s q
begun-piece r s p q piece wrote begun on =
    let more = on begun.0 begun.1.0 begun.1.1 in (begun.0 ++ piece, (begun.1.0 ++ more.0, more.1.0))

-- the lines of more events were written
wrote-more : (held now new : Option (List ℕ)) (events more : List Event) (level : ℕ)
    → Appends held now (lines_of events) → level ≡ level_by 0 events
    → Appends now new (lines_at level more) → Appends held new (lines_of (events ++ more))
wrote-more held now new events more level wrote e added =
    subst (λ bs. Appends held new bs)
    (ap (λ n. lines_of events ++ lines_at n more) e ∙ sym (lines-append 0 events more))
    (appends-more held now new (lines_of events) (lines_at level more) wrote added)

-- a piece more is read and printed
pub prints-piece : (depth : ℕ) (input : List ℕ) (r s : EventState) (p q : Progress)
    (held now new : Option (List ℕ)) (piece : List ℕ) → Prints depth input held now r p
    → FollowsOn r p piece s q (Appends now new) → KeepsLimits r s
    → Prints depth (input ++ piece) held new s q
prints-piece depth input r s p q held now new piece h on keeps =
    let more = on input h.events h.follows in record {
      events = h.events ++ more.0;
      follows = more.1.0;
      wrote = wrote-more held now new h.events more.0 p.level h.wrote h.follows.level more.1.1;
      limit = keeps.0 ∙ h.limit;
      goes_on = keeps.1 ∙ h.goes_on;
    }

-- a failure of a front of the input is one of the input
failure-longer : (input rest : List ℕ) (r : EventState) (failure : Failure)
    → IsFailureOf input r failure → IsFailureOf (input ++ rest) r failure
failure-longer input rest r (Damaged p cause) (place, (stops, placed)) =
    (place, (stops, placed-longer input rest place p placed))
failure-longer input rest r (Unexpected p) (place, (stops, placed)) =
    (place, (stops, placed-longer input rest place p placed))
failure-longer input rest r (TooDeep p) (place, (stops, placed)) =
    (place, (stops, placed-longer input rest place p placed))
failure-longer input rest r (EndsEarly p) (place, (stops, placed)) =
    (place, (stops, placed-longer input rest place p placed))
failure-longer input rest r (Stopped trouble) h = tt

-- nothing is both true and false
pub no-both : (b : Bool) → b ≡ true → b ≡ false → ⊥
no-both true e f = absurd (cc)
no-both false e f = absurd (cc)

-- where a piece makes the program fail, the failure is one of the input, whatever is left of it: at
-- the end nothing is
pub prints-fails : (depth : ℕ) (input rest : List ℕ) (r : EventState) (p : Progress)
    (held now new : Option (List ℕ)) (piece : List ℕ) (limits : EventState) (failure : Failure)
    → Prints depth input held now r p → limits.text.depth ≡ r.text.depth
    → (limits.tokens.ended ≡ true → rest ≡ [])
    → FailsOn r p piece limits failure (Appends now new)
    → PrintsUntil depth ((input ++ piece) ++ rest) failure held new
prints-fails depth input rest r p held now new piece limits failure h deep leaves fails is =
    let b = fails is input h.events h.follows in record {
      reader = b.reader;
      events = h.events ++ b.more;
      limit = b.keeps.0 ∙ deep ∙ h.limit;
      front = input ++ piece;
      rest = rest;
      splits = refl;
      ends = λ end. leaves (sym b.keeps.1 ∙ end);
      given = b.given;
      going = b.going;
      wrote = wrote-more held now new h.events b.more p.level h.wrote h.follows.level b.written;
      told = failure-longer (input ++ piece) rest b.reader failure b.told;
    }

-- a piece fails so while more may follow
pub fails-more : (depth : ℕ) (input rest : List ℕ) (r : EventState) (p : Progress)
    (held now new : Option (List ℕ)) (piece : List ℕ) (failure : Failure)
    → Prints depth input held now r p → FailsOn r p piece r failure (Appends now new)
    → PrintsUntil depth (input ++ (piece ++ rest)) failure held new
fails-more depth input rest r p held now new piece failure h fails =
    subst (λ all. PrintsUntil depth all failure held new) (append_assoc input piece rest)
    (prints-fails depth input rest r p held now new piece r failure h refl (λ e. absurd (no-both r.tokens.ended e h.goes_on)) fails)

-- what the end returns is told of the input
pub tells-end : (depth : ℕ) (input : List ℕ) (r s : EventState) (p q : Progress)
    (held now new : Option (List ℕ)) (result : Result (Unit {0}) Failure)
    → Prints depth input held now r p → OnOk result (s.text.depth ≡ r.text.depth)
    → OnOk result (IsDone s) → OnOk result (PrintsOn r p.level s q.level (Appends now new))
    → IfErr result (λ failure. FailsOn r p [] (events_ended r) failure (Appends now new))
    → TellsInput depth input held new result
tells-end depth input r s p q held now new (Ok done) h limit is prints fails =
    let more = prints input h.events h.follows.given in record {
      reader = s;
      events = h.events ++ more.0;
      limit = limit ∙ h.limit;
      given = more.1.0;
      done = is;
      wrote = wrote-more held now new h.events more.0 p.level h.wrote h.follows.level more.1.2;
    }
tells-end depth input r s p q held now new (Err failure) h limit is prints fails =
    subst (λ all. PrintsUntil depth all failure held new) (append-nil (input ++ []) ∙ append-nil input)
    (prints-fails depth input [] r p held now new [] (events_ended r) failure h refl (λ e. refl) fails)

-- ---- Answers

-- what is told of the input, if that is known
module _ (depth : ℕ) (held now : Option (List ℕ)) where
  pub printed-known : (input : Option (List ℕ)) (result : Result (Unit {0}) Failure)
      → IfSome input (λ bytes. TellsInput depth bytes held now result)
      → OnOk result (IfSome input (λ bytes. PrintsAll depth bytes held now))
  printed-known input (Err failure) told = tt
  printed-known None (Ok done) told = tt
  printed-known (Some bytes) (Ok done) told = told

  pub stopped-known : (input : Option (List ℕ)) (result : Result (Unit {0}) Failure)
      → IfSome input (λ bytes. TellsInput depth bytes held now result)
      → IfErr result (λ failure. IfSome input (λ bytes. PrintsUntil depth bytes failure held now))
  stopped-known input (Ok done) told = tt
  stopped-known None (Err failure) told = tt
  stopped-known (Some bytes) (Err failure) told = told

-- what is said of an answer's value follows from two such facts
pub on-both : {T E P Q R : Type 0} (r : Result T E) → (P → Q → R) → OnOk r P → OnOk r Q → OnOk r R
on-both (Ok x) f h k = f h k
on-both (Err e) f h k = tt

-- what is said of an answer's value follows from what is said of it
pub on-ok : {T E P Q : Type 0} (r : Result T E) → (P → Q) → OnOk r P → OnOk r Q
on-ok (Ok x) f h = f h
on-ok (Err e) f h = tt

-- and so does what is said of its error
pub if-err : {T E : Type 0} {P Q : E → Type 0} (r : Result T E) → ((e : E) → P e → Q e)
    → IfErr r P → IfErr r Q
if-err (Ok x) f h = tt
if-err (Err e) f h = f e h
