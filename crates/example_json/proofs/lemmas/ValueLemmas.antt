-- What is written of a text that is a value, and that no failure comes of such a text.
use Rattle.std.proofs.Common.{◌≡◌, ℕ, ◌*◌, replicate, Bool, true, false, List, [], ◌∷◌, ◌++◌, refl, ap, sym, ◌∙◌, subst, inl, inr, append-nil}
use Rattle.std.specs.Prelude.{min, Option, None, Some, IfSome, Result, Ok, Err, OnOk, IfErr}
use Rattle.std.specs.Io.KnownBytes.{Appends}
use Rattle.winnow_reader.specs.Reading.{MayFollow}
use Rattle.format_json.specs.Quoting.{written_string}
use Rattle.format_json.specs.Language.{bool_word}
use Rattle.format_json.specs.SameValues.{SameAll}
use Rattle.format_json.specs.Documents.{IsDocument, IsDamage}
use Rattle.format_json_events.specs.Reading.{EventState, HasGiven, GivesOn, IsWhole, IsNext}
use Rattle.format_json_events.specs.ValueEvents.{events_of, SameEvent, ReadsValue, AreAllOf, IsRefusal}
use Rattle.format_json.specs.declared.value.Value.{Value}
use Rattle.format_json.specs.declared.reading.Damage.{Damage}
use Rattle.format_json_events.specs.declared.event_reader.Event.{Event}
use Rattle.format_json_events.specs.declared.event_reader.Event.TheVariants as event
use Rattle.format_json_events.specs.declared.event_reader.EventError.{EventError}
use Rattle.format_json_events.specs.declared.event_reader.EventError.TheVariants as error
use Rattle.example_json.specs.Lines.{shown, line_of, level_after, lines_at}
use Rattle.example_json.specs.Failures.{IsOfText}
use Rattle.example_json.specs.Faults.{StopsAt, IsFailureOf}
use Rattle.example_json.specs.Printing.{PrintsAll, PrintsFront, PrintsUntil}
use Rattle.example_json.specs.Whole.{PrintsValue, IsOfNoValue}
use Rattle.example_json.specs.declared.failure.Failure.{Failure}
use Rattle.example_json.specs.declared.failure.Failure.TheVariants.{Damaged, Unexpected, TooDeep, EndsEarly, Stopped}

-- ---- The same events

-- the same events are shown alike
same-shown : (x y : Event) → SameEvent x y → shown x ≡ shown y
same-shown event.StartArray event.StartArray h = refl
same-shown event.EndArray event.EndArray h = refl
same-shown event.StartObject event.StartObject h = refl
same-shown event.EndObject event.EndObject h = refl
same-shown (event.Key v) (event.Key w) h = ap (λ s. written_string s ++ 58 ∷ []) h
same-shown event.Null event.Null h = refl
same-shown (event.Bool a) (event.Bool b) h = ap bool_word h
same-shown (event.Number n) (event.Number m) h = h.0
same-shown (event.String v) (event.String w) h = ap written_string h
same-shown x y h = absurd h

-- the same events open and close as much
same-level : (n : ℕ) (x y : Event) → SameEvent x y → level_after n x ≡ level_after n y
same-level n event.StartArray event.StartArray h = refl
same-level n event.EndArray event.EndArray h = refl
same-level n event.StartObject event.StartObject h = refl
same-level n event.EndObject event.EndObject h = refl
same-level n (event.Key v) (event.Key w) h = refl
same-level n event.Null event.Null h = refl
same-level n (event.Bool a) (event.Bool b) h = refl
same-level n (event.Number k) (event.Number m) h = refl
same-level n (event.String v) (event.String w) h = refl
same-level n x y h = absurd h

-- the same events have the same lines
same-lines : (n : ℕ) (xs ys : List Event) → SameAll SameEvent xs ys → lines_at n xs ≡ lines_at n ys
same-lines n [] [] h = refl
same-lines n [] (y ∷ ys) h = absurd h
same-lines n (x ∷ xs) [] h = absurd h
same-lines n (x ∷ xs) (y ∷ ys) h =
    let level = same-level n x y h.0 in
    ap (λ l. line_of (min n (level_after n x)) x ++ l) (same-lines (level_after n x) xs ys h.1)
    ∙ ap (λ m. line_of (min n m) x ++ lines_at m ys) level
    ∙ ap (λ s. (replicate (2 * min n (level_after n y)) 32 ++ (s ++ 10 ∷ [])) ++ lines_at (level_after n y) ys) (same-shown x y h.0)

-- ---- What may follow

-- nothing may follow
none-follows : (ended : Bool) → MayFollow ended [] false
none-follows false = tt
none-follows true = (refl, refl)

-- what is left may follow, if it is nothing once the input has ended
rest-follows : (ended : Bool) (rest : List ℕ) → (ended ≡ true → rest ≡ [])
    → MayFollow ended rest false
rest-follows false rest h = tt
rest-follows true rest h = (h refl, refl)

-- ---- Readers

-- the law of the events of a value: of all of them
abbrev pub GivesAll : Type 0
GivesAll = (r : EventState) (input : List ℕ) (events : List Event) (value : Value)
    → ReadsValue r input events value → IsWhole r → AreAllOf events value

-- the law of the events of a value: no error but want of memory
abbrev pub FailsNever : Type 0
FailsNever = (r new : EventState) (input : List ℕ) (events : List Event) (value : Value)
    (e : EventError) → ReadsValue r input events value → IsNext r (Err e) new → IsRefusal e

-- the law of whole texts: none is damaged
abbrev pub IsNoDamage : Type 0
IsNoDamage = (r : EventState) (input : List ℕ) (events : List Event) (damage : Damage)
    → HasGiven r input events → r.stopped ≡ None → IsWhole r → ¬ (IsDamage r.text.depth input damage)

-- a reader has given what it has given
gives-same : (r : EventState) → GivesOn r [] r
gives-same r input before h = subst (λ es. HasGiven r input es) (sym (append-nil before)) h

-- a reader that stops answers so
next-of : (r : EventState) (e : EventError) → r.stopped ≡ None → StopsAt r e
    → (new : EventState) × IsNext r (Err e) new
next-of r e going (inl none) =
    (r, (r, ((gives-same r, going, (refl, refl)), inl (refl, none))))
next-of r e going (inr (new, misplaced)) =
    (record { tokens = new.tokens; text = r.text; stopped = Some e }, (r, ((gives-same r, going, (refl, refl)), inr (refl, refl, misplaced))))

-- where all was printed, so was the value that the input is
all-value : GivesAll → IsNoDamage → (depth : ℕ) (input : List ℕ) (held now : Option (List ℕ))
    → PrintsAll depth input held now → PrintsValue depth input held now
all-value gives clean depth input held now h = record {
  sound = λ damage is. clean h.reader input h.events damage h.given h.done.0 h.done.1 (subst (λ d. IsDamage d input damage) (sym h.limit) is);
  lines = λ value is.
      let whole = subst (λ d. IsDocument d (input ++ []) value) (sym h.limit) (subst (λ xs. IsDocument depth xs value) (sym (append-nil input)) is) in
      let same = gives h.reader input h.events value (record { given = h.given; more = []; may = none-follows h.reader.tokens.ended; whole = whole }) h.done.1 in
      subst (λ bs. Appends held now bs) (same-lines 0 h.events (events_of value) same) h.wrote;
}

-- where a failure is one of the text, the input is no value
front-none : FailsNever → (depth : ℕ) (input : List ℕ) (failure : Failure)
    (held now : Option (List ℕ)) → PrintsFront depth input failure held now
    → IsOfText failure → (value : Value) → ¬ (IsDocument depth input value)
front-none never depth input failure held now h is value document =
    by failure is h.told
  where
    reads : ReadsValue h.reader h.front h.events value
    reads = record {
      given = h.given;
      more = h.rest;
      may = rest-follows h.reader.tokens.ended h.rest h.ends;
      whole = subst (λ d. IsDocument d (h.front ++ h.rest) value) (sym h.limit) (subst (λ xs. IsDocument depth xs value) h.splits document);
    }

    refuses : (e : EventError) → StopsAt h.reader e → IsRefusal e
    refuses e stops =
        let next = next-of h.reader e h.going stops in never h.reader next.0 h.front h.events value e reads next.1

    by : (failure : Failure) → IsOfText failure → IsFailureOf input h.reader failure → ⊥
    by (Damaged p cause) is (place, (stops, placed)) = refuses (error.Damaged place cause) stops
    by (Unexpected p) is (place, (stops, placed)) = refuses (error.Unexpected place) stops
    by (TooDeep p) is (place, (stops, placed)) = refuses (error.TooDeep place) stops
    by (EndsEarly p) is (place, (stops, placed)) = refuses (error.EndsEarly place) stops
    by (Stopped trouble) is told = is

-- a property of a known byte is carried over
if-some : {A : Type 0} {P Q : A → Type 0} (o : Option A) → ((a : A) → P a → Q a)
    → IfSome o P → IfSome o Q
if-some None f h = tt
if-some (Some a) f h = f a h

-- what a program that printed all has printed of a value
pub prints-value : GivesAll → IsNoDamage → (depth : ℕ) (r : Result (Unit {0}) Failure)
    (had held now : Option (List ℕ))
    → OnOk r (IfSome had (λ bytes. PrintsAll depth bytes held now))
    → OnOk r (IfSome had (λ bytes. PrintsValue depth bytes held now))
prints-value gives clean depth (Ok done) had held now h =
    if-some had (λ bytes all. all-value gives clean depth bytes held now all) h
prints-value gives clean depth (Err failure) had held now h = tt

-- of a value comes no failure that is one of the text
pub prints-none : FailsNever → (depth : ℕ) (r : Result (Unit {0}) Failure)
    (had held now : Option (List ℕ))
    → IfErr r (λ failure. IfSome had (λ bytes. PrintsUntil depth bytes failure held now))
    → IfErr r (λ failure. IfSome had (λ bytes. IsOfNoValue depth bytes failure))
prints-none never depth (Ok done) had held now h = tt
prints-none never depth (Err failure) had held now h =
    if-some had (λ bytes until is. front-none never depth bytes failure held now (until is) is) h
