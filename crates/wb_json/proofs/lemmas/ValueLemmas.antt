-- What is written of a text that is a value, and that no failure comes of such a text.
use Rattle.std.proofs.Common.{◌≡◌, ℕ, Bool, true, false, List, [], ◌++◌, length, refl, ap, sym, ◌∙◌, subst, inl, inr, append-nil}
use Rattle.std.specs.Prelude.{Option, None, Some, IfSome, Result, Ok, Err, OnOk, IfErr}
use Rattle.std.specs.Io.KnownBytes.{Appends}
use Rattle.std.proofs.lemmas.Option.{same_Some}
use Rattle.winnow_reader.specs.Reading.{MayFollow}
use Rattle.format_json.specs.Documents.{IsDocument, IsDamage}
use Rattle.format_json_events.specs.Reading.{EventState, HasGiven, GivesOn, IsWhole, IsNext}
use Rattle.format_json_events.specs.ValueEvents.{events_of, ReadsValue, AreAllOf, IsRefusal}
use Rattle.format_json.specs.declared.value.Value.{Value}
use Rattle.format_json.specs.declared.reading.Damage.{Damage}
use Rattle.format_json_events.specs.declared.event_reader.Event.{Event}
use Rattle.format_json_events.specs.declared.event_reader.EventError.{EventError}
use Rattle.wb_json.specs.Failures.{IsOfText, IsNoText}
use Rattle.wb_json.specs.Faults.{StopsAt, error_of, IsFailureOf}
use Rattle.wb_json.specs.Texts.{IsBefore, IsAfter, InputHas}
use Rattle.wb_json.specs.Printing.{PrintsAll, PrintsFront, PrintsUntil}
use Rattle.wb_json.specs.Whole.{PrintsValue, IsOfNoValue}
use Rattle.wb_json.specs.declared.settings.Settings.{Settings}
use Rattle.wb_json.specs.declared.failure.Fault.{Fault}
use Rattle.wb_json.specs.declared.failure.Fault.TheVariants.{Damaged, Unexpected, TooDeep, EndsEarly, TooLong}
use Rattle.wb_json.specs.declared.failure.Failure.{Failure}
use Rattle.wb_json.specs.declared.failure.Failure.TheVariants.{Faulty, Stopped}
use Rattle.wb_json.proofs.lemmas.PlaceLemmas.{same-lines}

-- ---- Readers

-- the law of the events of a value: of all of them
abbrev pub GivesAll : Type 0
GivesAll = (r : EventState) (input : List ℕ) (events : List Event) (value : Value)
    → ReadsValue r input events value → IsWhole r → AreAllOf events value

-- the law of the events of a value: no error but want of memory
abbrev pub FailsNever : Type 0
FailsNever = (r new : EventState) (input : List ℕ) (events : List Event) (value : Value)
    (e : EventError) → ReadsValue r input events value → IsNext r (Err e) new → IsRefusal e

-- the law of whole texts: none is damaged
abbrev pub IsNoDamage : Type 0
IsNoDamage = (r : EventState) (input : List ℕ) (events : List Event) (damage : Damage)
    → HasGiven r input events → r.stopped ≡ None → IsWhole r → ¬ (IsDamage r.text.depth input damage)

-- nothing may follow
none-follows : (ended : Bool) → MayFollow ended [] false
none-follows false = tt
none-follows true = (refl, refl)

-- what is left may follow, if it is nothing once the input has ended
rest-follows : (ended : Bool) (rest : List ℕ) → (ended ≡ true → rest ≡ [])
    → MayFollow ended rest false
rest-follows false rest h = tt
rest-follows true rest h = (h refl, refl)

-- a reader has given what it has given
gives-same : (r : EventState) → GivesOn r [] r
gives-same r input before h = subst (λ es. HasGiven r input es) (sym (append-nil before)) h

-- a reader that stops answers so
next-of : (r : EventState) (e : EventError) → r.stopped ≡ None → StopsAt r e
    → (new : EventState) × IsNext r (Err e) new
next-of r e going (inl none) =
    (r, (r, ((gives-same r, going, (refl, refl)), inl (refl, none))))
next-of r e going (inr (new, misplaced)) =
    (record { tokens = new.tokens; text = r.text; stopped = Some e }, (r, ((gives-same r, going, (refl, refl)), inr (refl, refl, misplaced))))

-- an error of a fault is no refusal
no-refusal : (fault : Fault) (place : ℕ) (e : EventError) → error_of fault place ≡ Some e
    → IsRefusal e → ⊥
no-refusal (Damaged cause) place e is h = subst IsRefusal (sym (same_Some _ _ is)) h
no-refusal Unexpected place e is h = subst IsRefusal (sym (same_Some _ _ is)) h
no-refusal TooDeep place e is h = subst IsRefusal (sym (same_Some _ _ is)) h
no-refusal EndsEarly place e is h = subst IsRefusal (sym (same_Some _ _ is)) h
no-refusal (TooLong limit) place e is h = cc is

-- a failure that says that a text is none is one of the text
no-text : (failure : Failure) → IsNoText failure → IsOfText failure
no-text (Faulty position fault excerpt) is = tt
no-text (Stopped trouble) is = is

-- ---- The input

-- where all was printed, so was the value that the input is
all-value : GivesAll → IsNoDamage → (s : Settings) (input : List ℕ) (held now : Option (List ℕ))
    → s.by_lines ≡ false → PrintsAll s input held now → PrintsValue s input held now
all-value gives clean s input held now plain (events, (has, wrote)) =
    let text = subst (λ b. InputHas b s input events) plain has in
    let r = text.0 in
    let limit = text.1.0 in
    let given = text.1.1 in
    let done = text.1.2 in
    record {
      sound = λ damage is. clean r input events damage given done.0 done.1 (subst (λ d. IsDamage d input damage) (sym limit) is);
      lines = λ value is.
          let whole = subst (λ d. IsDocument d (input ++ []) value) (sym limit) (subst (λ xs. IsDocument s.depth xs value) (sym (append-nil input)) is) in
          let same = gives r input events value (record { given = given; more = []; may = none-follows r.tokens.ended; whole = whole }) done.1 in
          subst (λ bs. Appends held now bs) (same-lines s events (events_of value) same) wrote;
    }

-- after a text that is the whole input nothing follows
after-none : (by_lines : Bool) (rest : List ℕ) → by_lines ≡ false → IsAfter by_lines rest
    → rest ≡ []
after-none by_lines rest plain (inl is) = is
after-none by_lines rest plain (inr (lines, more)) = absurd (cc)

-- where a failure is one of the text, the input is no value
front-none : FailsNever → (s : Settings) (input : List ℕ) (failure : Failure)
    (held now : Option (List ℕ)) → s.by_lines ≡ false → PrintsFront s input failure held now
    → IsNoText failure → (value : Value) → ¬ (IsDocument s.depth input value)
front-none never s input failure held now plain h is value document =
    by failure is h.told
  where
    none : (h.head ≡ []) × (h.earlier ≡ [])
    none = subst (λ b. IsBefore b s h.head h.earlier) plain h.before

    splits : input ≡ h.front ++ h.rest
    splits = h.splits ∙ ap (λ xs. xs ++ (h.front ++ h.rest)) none.0

    reads : ReadsValue h.reader h.front h.events value
    reads = record {
      given = h.given;
      more = h.rest;
      may = rest-follows h.reader.tokens.ended h.rest (λ end. after-none s.by_lines h.rest plain (h.ends end));
      whole = subst (λ d. IsDocument d (h.front ++ h.rest) value) (sym h.limit) (subst (λ xs. IsDocument s.depth xs value) splits document);
    }

    by : (failure : Failure) → IsNoText failure
        → IsFailureOf s.limit input (length h.head) h.reader failure → ⊥
    by (Faulty position fault excerpt) is (place, (inl (e, (of_fault, stops)), placed)) =
        let next = next-of h.reader e h.going stops in
        no-refusal fault place e of_fault (never h.reader next.0 h.front h.events value e reads next.1)
    by (Faulty position fault excerpt) is (place, (inr (long, there), placed)) =
        subst (λ f. IsNoText (Faulty position f excerpt)) long is
    by (Stopped trouble) is told = is

-- what a program that printed all has printed of a value
pub prints-value : GivesAll → IsNoDamage → (s : Settings) (r : Result (Unit {0}) Failure)
    (had held now : Option (List ℕ)) → s.by_lines ≡ false
    → OnOk r (IfSome had (λ bytes. PrintsAll s bytes held now))
    → OnOk r (IfSome had (λ bytes. PrintsValue s bytes held now))
prints-value gives clean s (Ok done) None held now plain h = tt
prints-value gives clean s (Ok done) (Some bytes) held now plain h =
    all-value gives clean s bytes held now plain h
prints-value gives clean s (Err failure) had held now plain h = tt

-- of a value comes no failure that is one of the text
pub prints-none : FailsNever → (s : Settings) (r : Result (Unit {0}) Failure)
    (had held now : Option (List ℕ)) → s.by_lines ≡ false
    → IfErr r (λ failure. IfSome had (λ bytes. PrintsUntil s bytes failure held now))
    → IfErr r (λ failure. IfSome had (λ bytes. IsOfNoValue s.depth bytes failure))
prints-none never s (Ok done) had held now plain h = tt
prints-none never s (Err failure) None held now plain h = tt
prints-none never s (Err failure) (Some bytes) held now plain until =
    λ is. front-none never s bytes failure held now plain (until (no-text failure is)) is
