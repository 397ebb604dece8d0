-- Events that are taken, and the lines that are written of them.
use Rattle.std.proofs.Common.{◌≡◌, ℕ, false, List, [], ◌∷◌, ◌++◌, refl, ap, sym, ◌∙◌, subst, inl, inr, append_assoc, append-nil}
use Rattle.std.specs.Prelude.{min, Result, Ok, Err}
use Rattle.winnow_reader.specs.declared.next.Next.{Next}
use Rattle.winnow_reader.specs.declared.next.Next.TheVariants as next
use Rattle.format_json_events.specs.Reading.{EventState, HasGiven, GivesOn, KeepsLimits, StaysAt, Awaits, IsNext}
use Rattle.format_json_events.specs.declared.event_reader.Event.{Event}
use Rattle.format_json_events.specs.declared.event_reader.EventError.{EventError}
use Rattle.format_json_events.specs.declared.event_reader.EventError.TheVariants as error
use Rattle.format_json_events.proofs.lemmas.WaitLemmas.{waits-ended}
use Rattle.example_json.specs.Lines.{line_of, level_after, level_by, lines_at}
use Rattle.example_json.specs.Taking.{PrintsOn, StopsAfter, IsTaken}
use Rattle.example_json.proofs.lemmas.LineLemmas.{level-append, lines-append}

-- ---- Texts

-- a text that the lines were appended to
abbrev pub Adds : List ℕ → List ℕ → List ℕ → Type 0
Adds old new lines = new ≡ old ++ lines

-- lines that are printed by a relation are printed by each wider one
pub prints-map : (old new : EventState) (level there : ℕ) (wrote other : List ℕ → Type 0)
    → ((lines : List ℕ) → wrote lines → other lines)
    → PrintsOn old level new there wrote → PrintsOn old level new there other
prints-map old new level there wrote other f h input before given =
    let p = h input before given in (p.0, (p.1.0, p.1.1, f (lines_at level p.0) p.1.2))

-- a reader that stops after lines of a relation stops after lines of each wider one
stops-map : (old : EventState) (level : ℕ) (e : EventError) (wrote other : List ℕ → Type 0)
    → ((lines : List ℕ) → wrote lines → other lines)
    → StopsAfter old level e wrote → StopsAfter old level e other
stops-map old level e wrote other f (r, (there, (prints, going, keeps, stops))) =
    (r, (there, (prints-map old r level there wrote other f prints, going, keeps, stops)))

-- an event that prints lines of a relation prints lines of each wider one
pub taken-map : (old new : EventState) (level there : ℕ)
    (taken : Result (Next (Unit {0})) EventError) (wrote other : List ℕ → Type 0)
    → ((lines : List ℕ) → wrote lines → other lines)
    → IsTaken old level taken new there wrote → IsTaken old level taken new there other
taken-map old new level there (Ok (next.Value u)) wrote other f h =
    (h.0, prints-map old new level there wrote other f h.1)
taken-map old new level there (Ok next.NeedsMore) wrote other f h =
    (h.0, prints-map old new level there wrote other f h.1, h.2)
taken-map old new level there (Ok next.Done) wrote other f h =
    (h.0, prints-map old new level there wrote other f h.1, h.2)
taken-map old new level there (Err (error.Damaged place cause)) wrote other f h =
    stops-map old level (error.Damaged place cause) wrote other f h
taken-map old new level there (Err (error.Unexpected place)) wrote other f h =
    stops-map old level (error.Unexpected place) wrote other f h
taken-map old new level there (Err (error.TooDeep place)) wrote other f h =
    stops-map old level (error.TooDeep place) wrote other f h
taken-map old new level there (Err (error.EndsEarly place)) wrote other f h =
    stops-map old level (error.EndsEarly place) wrote other f h
taken-map old new level there (Err (error.Refused r)) wrote other f h = tt

-- ---- One event

-- a reader that gave nothing more
pub prints-none : (old new : EventState) (level : ℕ) (text : List ℕ) → GivesOn old [] new
    → PrintsOn old level new level (Adds text text)
prints-none old new level text gives input before given =
    ([], (gives input before given, refl, sym (append-nil text)))

-- a reader that gave an event, of which the line was appended
pub prints-event : (old new : EventState) (level there : ℕ) (text now : List ℕ) (event : Event)
    → GivesOn old (event ∷ []) new → there ≡ level_after level event
    → now ≡ text ++ line_of (min level (level_after level event)) event
    → PrintsOn old level new there (Adds text now)
prints-event old new level there text now event gives leads wrote input before given = (
  event ∷ [],
  (
    gives input before given,
    leads,
    wrote ∙ ap (λ l. text ++ l) (sym (append-nil (line_of (min level (level_after level event)) event))),
  ),
)

-- the input of a reader that needs more goes on
pub waits-open : (old new : EventState) → StaysAt old new → Awaits old.tokens
    → new.tokens.ended ≡ false
waits-open old new stays awaits =
    waits-ended old.tokens new.tokens stays.1 ∙ awaits.0

-- a reader that stops, after tokens that have no event
stops-after : (old new : EventState) (level : ℕ) (text : List ℕ) (e : EventError)
    → IsNext old (Err e) new → StopsAfter old level e (Adds text text)
stops-after old new level text e (r, (passed, inl (same, none))) =
    (r, (level, (prints-none old r level text passed.0, passed.1, passed.2, inl none)))
stops-after old new level text e (r, (passed, inr (text_same, stopped, misplaced))) =
    (r, (level, (prints-none old r level text passed.0, passed.1, passed.2, inr (new, misplaced))))

-- what is taken where the reader has an error
pub taken-error : (old new : EventState) (level : ℕ) (text : List ℕ) (e : EventError)
    → IsNext old (Err e) new → IsTaken old level (Err e) new level (Adds text text)
taken-error old new level text (error.Damaged place cause) h = stops-after old new level text (error.Damaged place cause) h
taken-error old new level text (error.Unexpected place) h = stops-after old new level text (error.Unexpected place) h
taken-error old new level text (error.TooDeep place) h = stops-after old new level text (error.TooDeep place) h
taken-error old new level text (error.EndsEarly place) h = stops-after old new level text (error.EndsEarly place) h
taken-error old new level text (error.Refused r) h = tt

-- ---- Several events

-- at first no event is printed
pub prints-still : (r : EventState) (level : ℕ) (text : List ℕ)
    → PrintsOn r level r level (Adds text text)
prints-still r level text input before given = (
  [],
  (
    subst (λ es. HasGiven r input es) (sym (append-nil before)) given,
    refl,
    sym (append-nil text),
  ),
)

-- events that are printed after others are printed after all of them
pub prints-more : (a b c : EventState) (la lb lc : ℕ) (ta tb tc : List ℕ)
    → PrintsOn a la b lb (Adds ta tb) → PrintsOn b lb c lc (Adds tb tc)
    → PrintsOn a la c lc (Adds ta tc)
prints-more a b c la lb lc ta tb tc first second input before given =
    let p = first input before given in
    let q = second input (before ++ p.0) p.1.0 in
    let leads = p.1.1 in (
      p.0 ++ q.0,
      (
        subst (λ es. HasGiven c input es) (append_assoc before p.0 q.0) q.1.0,
        q.1.1 ∙ ap (λ n. level_by n q.0) leads ∙ sym (level-append la p.0 q.0),
        q.1.2 ∙ ap (λ t. t ++ lines_at lb q.0) p.1.2 ∙ append_assoc ta (lines_at la p.0) (lines_at lb q.0)
            ∙ ap (λ n. ta ++ (lines_at la p.0 ++ lines_at n q.0)) leads
            ∙ ap (λ l. ta ++ l) (sym (lines-append la p.0 q.0)),
      ),
    )

-- a reader that stops after others stops after all of them
stops-more : (a b : EventState) (la lb : ℕ) (ta tb tc : List ℕ) (e : EventError)
    → PrintsOn a la b lb (Adds ta tb) → KeepsLimits a b → StopsAfter b lb e (Adds tb tc)
    → StopsAfter a la e (Adds ta tc)
stops-more a b la lb ta tb tc e first same (r, (there, (prints, going, keeps, stops))) =
    (r, (there, (prints-more a b r la lb there ta tb tc first prints, going, (keeps.0 ∙ same.0, keeps.1 ∙ same.1), stops)))

-- what is taken after others is taken after all of them
pub taken-more : (a b c : EventState) (la lb lc : ℕ) (ta tb tc : List ℕ)
    (taken : Result (Next (Unit {0})) EventError) → PrintsOn a la b lb (Adds ta tb)
    → KeepsLimits a b → IsTaken b lb taken c lc (Adds tb tc) → IsTaken a la taken c lc (Adds ta tc)
taken-more a b c la lb lc ta tb tc (Ok (next.Value u)) first same h =
    (h.0, prints-more a b c la lb lc ta tb tc first h.1)
taken-more a b c la lb lc ta tb tc (Ok next.NeedsMore) first same h =
    (h.0, prints-more a b c la lb lc ta tb tc first h.1, h.2)
taken-more a b c la lb lc ta tb tc (Ok next.Done) first same h =
    (h.0, prints-more a b c la lb lc ta tb tc first h.1, h.2)
taken-more a b c la lb lc ta tb tc (Err (error.Damaged place cause)) first same h =
    stops-more a b la lb ta tb tc (error.Damaged place cause) first same h
taken-more a b c la lb lc ta tb tc (Err (error.Unexpected place)) first same h =
    stops-more a b la lb ta tb tc (error.Unexpected place) first same h
taken-more a b c la lb lc ta tb tc (Err (error.TooDeep place)) first same h =
    stops-more a b la lb ta tb tc (error.TooDeep place) first same h
taken-more a b c la lb lc ta tb tc (Err (error.EndsEarly place)) first same h =
    stops-more a b la lb ta tb tc (error.EndsEarly place) first same h
taken-more a b c la lb lc ta tb tc (Err (error.Refused r)) first same h = tt
