-- Events that are taken, and the lines that are written of them.
use Rattle.std.proofs.Common.{◌≡◌, false, List, ℕ, [], ◌∷◌, ◌++◌, refl, ap, sym, ◌∙◌, subst, inl, inr, append_assoc, append-nil}
use Rattle.std.specs.Prelude.{Option, Some, Result, Ok, Err}
use Rattle.std.specs.Io.KnownBytes.{Appends}
use Rattle.winnow_reader.specs.declared.next.Next.{Next}
use Rattle.winnow_reader.specs.declared.next.Next.TheVariants as next
use Rattle.format_json_events.specs.Reading.{EventState, HasGiven, GivesOn, KeepsLimits, StaysAt, Awaits, IsNext}
use Rattle.format_json_events.specs.declared.event_reader.Event.{Event}
use Rattle.format_json_events.specs.Lengths.{IsNextWithin}
use Rattle.format_json_events.specs.declared.event_reader.EventError.{EventError}
use Rattle.format_json_events.specs.declared.event_reader.WithinError.{WithinError}
use Rattle.format_json_events.specs.declared.event_reader.WithinError.TheVariants as within
use Rattle.format_json_events.proofs.lemmas.WaitLemmas.{waits-ended}
use Rattle.wb_json.specs.Paths.{Place, moved, moved_by}
use Rattle.wb_json.specs.Lines.{line_of, lines_at}
use Rattle.wb_json.specs.Faults.{error_of}
use Rattle.wb_json.specs.Taking.{PrintsOn, StopsAfter, IsTaken, IsStopAt, IsStopOf}
use Rattle.wb_json.specs.declared.settings.Layout.{Layout}
use Rattle.wb_json.specs.declared.settings.Settings.{Settings}
use Rattle.wb_json.specs.declared.failure.Fault.{Fault}
use Rattle.wb_json.specs.declared.taking.Stop.{Stop}
use Rattle.wb_json.specs.declared.taking.Stop.TheVariants as stop
use Rattle.wb_json.proofs.lemmas.LineLemmas.{moved-append, lines-append}
use Rattle.wb_json.proofs.lemmas.KnownLemmas.{appends-start, appends-more}

-- ---- One event

-- a reader that gave nothing more
pub prints-none : (layout : Layout) (old new : EventState) (p : Place) (held : Option (List ℕ))
    → GivesOn old [] new → PrintsOn layout old p new p held held
prints-none layout old new p held gives text before given =
    ([], (gives text before given, refl, appends-start held))

-- a reader that gave an event, of which the line was written
pub prints-event : (layout : Layout) (old new : EventState) (p there : Place)
    (held now : Option (List ℕ)) (event : Event) → GivesOn old (event ∷ []) new
    → there ≡ moved p event → Appends held now (line_of layout p event)
    → PrintsOn layout old p new there held now
prints-event layout old new p there held now event gives leads wrote text before given = (
  event ∷ [],
  (
    gives text before given,
    leads,
    subst (λ bs. Appends held now bs) (sym (append-nil (line_of layout p event))) wrote,
  ),
)

-- the input of a reader that needs more goes on
pub waits-open : (old new : EventState) → StaysAt old new → Awaits old.tokens
    → new.tokens.ended ≡ false
waits-open old new stays awaits =
    waits-ended old.tokens new.tokens stays.1 ∙ awaits.0

-- a reader that stops, after tokens that have no event
stops-after : (s : Settings) (old new : EventState) (p : Place) (held : Option (List ℕ))
    (e : EventError) (fault : Fault) (at : ℕ) → IsNext old (Err e) new → error_of fault at ≡ Some e
    → StopsAfter s old p fault at held held
stops-after s old new p held e fault at (r, (passed, inl (same, none))) is =
    (r, (p, (prints-none s.layout old r p held passed.0, passed.1, passed.2, inl (e, (is, inl none)))))
stops-after s old new p held e fault at (r, (passed, inr (text_same, stopped, misplaced))) is =
    (r, (p, (prints-none s.layout old r p held passed.0, passed.1, passed.2, inl (e, (is, inr (new, misplaced))))))

-- what is taken where the reader has an error
taken-failed : (s : Settings) (old new : EventState) (p : Place) (held : Option (List ℕ))
    (e : EventError) (t : Stop) → IsNext old (Err e) new → IsStopAt e t
    → IsTaken s old p (Err t) new p held held
taken-failed s old new p held e (stop.Faulty at fault) h is =
    stops-after s old new p held e fault at h is
taken-failed s old new p held e (stop.Stopped trouble) h is = tt

-- the same within a limit
pub taken-error : (s : Settings) (old new : EventState) (p : Place) (held : Option (List ℕ))
    (e : WithinError) (t : Stop) → IsNextWithin s.limit old (Err e) new → IsStopOf s.limit e t
    → IsTaken s old p (Err t) new p held held
taken-error s old new p held (within.TooLong place) t (r, (passed, long)) is =
    subst (λ x. IsTaken s old p (Err x) new p held held) (sym is)
    (r, (p, (prints-none s.layout old r p held passed.0, passed.1, passed.2, inr (refl, long))))
taken-error s old new p held (within.Failed e) t h is = taken-failed s old new p held e t h is

-- ---- Several events

-- at first no event is printed
pub prints-still : (layout : Layout) (r : EventState) (p : Place) (held : Option (List ℕ))
    → PrintsOn layout r p r p held held
prints-still layout r p held text before given = (
  [],
  (
    subst (λ es. HasGiven r text es) (sym (append-nil before)) given,
    refl,
    appends-start held,
  ),
)

-- events that are printed after others are printed after all of them
pub prints-more : (layout : Layout) (a b c : EventState) (pa pb pc : Place)
    (wa wb wc : Option (List ℕ))
    → PrintsOn layout a pa b pb wa wb → PrintsOn layout b pb c pc wb wc
    → PrintsOn layout a pa c pc wa wc
prints-more layout a b c pa pb pc wa wb wc first second text before given =
    let p = first text before given in
    let q = second text (before ++ p.0) p.1.0 in
    let leads = p.1.1 in (
      p.0 ++ q.0,
      (
        subst (λ es. HasGiven c text es) (append_assoc before p.0 q.0) q.1.0,
        q.1.1 ∙ ap (λ n. moved_by n q.0) leads ∙ sym (moved-append pa p.0 q.0),
        subst (λ bs. Appends wa wc bs)
            (ap (λ n. lines_at layout pa p.0 ++ lines_at layout n q.0) leads ∙ sym (lines-append layout pa p.0 q.0))
            (appends-more wa wb wc (lines_at layout pa p.0) (lines_at layout pb q.0) p.1.2 q.1.2),
      ),
    )

-- a reader that stops after others stops after all of them
stops-more : (s : Settings) (a b : EventState) (pa pb : Place) (wa wb wc : Option (List ℕ))
    (fault : Fault) (at : ℕ) → PrintsOn s.layout a pa b pb wa wb → KeepsLimits a b
    → StopsAfter s b pb fault at wb wc → StopsAfter s a pa fault at wa wc
stops-more s a b pa pb wa wb wc fault at first same (r, (there, (prints, going, keeps, finds))) =
    (r, (there, (prints-more s.layout a b r pa pb there wa wb wc first prints, going, (keeps.0 ∙ same.0, keeps.1 ∙ same.1), finds)))

-- what is taken after others is taken after all of them
pub taken-more : (s : Settings) (a b c : EventState) (pa pb pc : Place)
    (wa wb wc : Option (List ℕ)) (taken : Result (Next (Unit {0})) Stop)
    → PrintsOn s.layout a pa b pb wa wb → KeepsLimits a b
    → IsTaken s b pb taken c pc wb wc → IsTaken s a pa taken c pc wa wc
taken-more s a b c pa pb pc wa wb wc (Ok (next.Value u)) first same h =
    (h.0, prints-more s.layout a b c pa pb pc wa wb wc first h.1)
taken-more s a b c pa pb pc wa wb wc (Ok next.NeedsMore) first same h =
    (h.0, prints-more s.layout a b c pa pb pc wa wb wc first h.1, h.2)
taken-more s a b c pa pb pc wa wb wc (Ok next.Done) first same h =
    (h.0, prints-more s.layout a b c pa pb pc wa wb wc first h.1, h.2)
taken-more s a b c pa pb pc wa wb wc (Err (stop.Faulty at fault)) first same h =
    stops-more s a b pa pb wa wb wc fault at first same h
taken-more s a b c pa pb pc wa wb wc (Err (stop.Stopped trouble)) first same h = tt
