-- What was read and printed of a text, as a part of it comes.
use Rattle.std.proofs.Common.{◌≡◌, ℕ, ◌+◌, ◌<◌, ◌^◌, true, false, List, [], ◌++◌, length, ap, sym, ◌∙◌, subst, arith, append-nil, append_assoc, length-append}
use Rattle.std.specs.Prelude.{Option, None}
use Rattle.std.specs.Io.KnownBytes.{Appends}
use Rattle.winnow_reader.specs.State.{fed_of}
use Rattle.format_json_events.specs.Reading.{EventState, events_pushed, events_ended, HasGiven, GivesOn, GivesAlso, KeepsLimits, IsWhole}
use Rattle.format_json_events.specs.declared.event_reader.Event.{Event}
use Rattle.format_json_events.specs.Lengths.{IsShortTo, KeepsShort}
use Rattle.format_json_events.proofs.lemmas.ReaderPlaceLemmas.{given-fed}
use Rattle.format_json_events.proofs.lemmas.LengthLemmas.{short-pushed, short-ended, short-text}
use Rattle.wb_json.specs.Paths.{Place, moved_by}
use Rattle.wb_json.specs.Lines.{lines_at}
use Rattle.wb_json.specs.Windows.{IsWindow}
use Rattle.wb_json.specs.Faults.{IsFailureOf}
use Rattle.wb_json.specs.Taking.{PrintsOn}
use Rattle.wb_json.specs.Printing.{IsBegun, KeepsAll, BreaksOn, FollowsOn, FailsOn, EndsText, reached}
use Rattle.wb_json.specs.declared.settings.Settings.{Settings}
use Rattle.wb_json.specs.declared.window.Window.{Window}
use Rattle.wb_json.specs.declared.failure.Failure.{Failure}
use Rattle.wb_json.specs.declared.printing.Printing.{Printing}
use Rattle.wb_json.proofs.lemmas.LineLemmas.{reached-more}

-- the reader of a text that was begun goes on
pub begun-going : (p : Printing) → IsBegun p → p.reader.stopped ≡ None
begun-going p (head, (text, (earlier, (events, h)))) = h.going

pub begun-open : (p : Printing) → IsBegun p → p.reader.tokens.ended ≡ false
begun-open p (head, (text, (earlier, (events, h)))) = h.goes_on

-- a part that the window takes is not too long for the reader
pub begun-fits : (p : Printing) (w : Window) (part : List ℕ) → IsBegun p
    → ((input : List ℕ) → IsWindow input p.window → IsWindow (input ++ part) w)
    → fed_of p.reader.tokens + length part < 2 ^ 64
begun-fits p w part (head, (text, (earlier, (events, h)))) window =
    let all = window (head ++ text) h.window in
    omega (arith, all.short, given-fed p.reader text events h.given, length-append (head ++ text) part, length-append head text)

-- a part more is read of a text: `middle` is what the part was passed to
module _ (old middle : Printing) (part : List ℕ) (held now : Option (List ℕ))
    (settings : middle.settings ≡ old.settings) (path : middle.path ≡ old.path)
    (start : middle.window.start ≡ old.window.start) where
  -- lines that begin at the one place begin at the other
  lines-same : (more : List Event)
      → Appends held now (lines_at middle.settings.layout middle.path more)
      → Appends held now (lines_at old.settings.layout old.path more)
  lines-same more wrote =
      subst (λ (s : Settings). Appends held now (lines_at s.layout old.path more)) settings
      (subst (λ (q : Place). Appends held now (lines_at middle.settings.layout q more)) path wrote)

  -- where more events lead from there
  leads-on : (there : Place) (earlier events more : List Event)
      → old.path ≡ reached old.settings (earlier ++ events) → there ≡ moved_by middle.path more
      → there ≡ reached old.settings (earlier ++ (events ++ more))
  leads-on there earlier events more at leads =
      leads ∙ ap (λ (q : Place). moved_by q more) (path ∙ at)
      ∙ sym (reached-more old.settings (earlier ++ events) more)
      ∙ ap (reached old.settings) (append_assoc earlier events more)

  -- where short tokens lead from there
  short-on : (new : Printing) → KeepsAll middle new → (text : List ℕ)
      → IsShortTo old.settings.limit middle.reader.tokens text
      → IsShortTo old.settings.limit new.reader.tokens text
  short-on new keeps text h =
      subst (λ (s : Settings). KeepsShort s.limit middle.reader new.reader) settings keeps.short text h

  pub follows-part : (new : Printing) → GivesAlso old.reader part middle.reader
      → middle.reader ≡ events_pushed old.reader part
      → ((input : List ℕ) → IsWindow input old.window → IsWindow (input ++ part) middle.window)
      → KeepsAll middle new
      → PrintsOn middle.settings.layout middle.reader middle.path new.reader new.path held now
      → FollowsOn old part new held now
  follows-part new also state window keeps prints head text earlier events h =
      let more = prints (text ++ part) events (also text events h.given) in
      let same = keeps.settings ∙ settings in (
        more.0,
        (
          record {
            given = more.1.0;
            going = keeps.going;
            goes_on = keeps.limits.1 ∙ ap (λ (r : EventState). r.tokens.ended) state ∙ h.goes_on;
            limit = keeps.limits.0 ∙ ap (λ (r : EventState). r.text.depth) state ∙ h.limit ∙ ap (λ (s : Settings). s.depth) (sym same);
            short = subst (λ (s : Settings). IsShortTo s.limit new.reader.tokens (text ++ part)) (sym same)
                (short-on new keeps (text ++ part)
                (subst (λ (r : EventState). IsShortTo old.settings.limit r.tokens (text ++ part)) (sym state)
                (short-pushed old.settings.limit old.reader.tokens text part h.goes_on h.short)));
            path = leads-on new.path earlier events more.0 h.path more.1.1
                ∙ ap (λ (s : Settings). reached s (earlier ++ (events ++ more.0))) (sym same);
            window = subst (λ xs. IsWindow xs new.window) (append_assoc head text part)
                (keeps.window ((head ++ text) ++ part) (window (head ++ text) h.window));
            start = keeps.start ∙ start ∙ h.start;
          },
          lines-same more.0 more.1.2,
        ),
      )

  pub fails-part : (limits : EventState) (failure : Failure)
      → GivesAlso old.reader part middle.reader → KeepsLimits limits middle.reader
      → ((input : List ℕ) → IsWindow input old.window → IsWindow (input ++ part) middle.window)
      → BreaksOn middle failure held now → FailsOn old part limits failure held now
  fails-part limits failure also keeps window breaks is head text earlier events h =
      let whole = subst (λ xs. IsWindow xs middle.window) (append_assoc head text part) (window (head ++ text) h.window) in
      let b = breaks is head (text ++ part) events whole (start ∙ h.start) (also text events h.given) in record {
        reader = b.reader;
        more = b.more;
        given = b.given;
        going = b.going;
        keeps = (b.keeps.0 ∙ keeps.0, b.keeps.1 ∙ keeps.1);
        wrote = lines-same b.more b.wrote;
        told = subst (λ (s : Settings). IsFailureOf s.limit (head ++ (text ++ part)) (length head) b.reader failure) settings b.told;
      }

  pub ends-text : (new : Printing) → GivesOn old.reader [] middle.reader
      → middle.reader ≡ events_ended old.reader
      → ((input : List ℕ) → IsWindow input old.window → IsWindow input middle.window)
      → KeepsAll middle new → (new.reader.tokens.ended ≡ true → IsWhole new.reader)
      → PrintsOn middle.settings.layout middle.reader middle.path new.reader new.path held now
      → EndsText old new held now
  ends-text new gives state window keeps whole prints head text earlier events h =
      let given = subst (λ es. HasGiven middle.reader text es) (append-nil events) (gives text events h.given) in
      let more = prints text events given in
      let ended = keeps.limits.1 ∙ ap (λ (r : EventState). r.tokens.ended) state in
      let short = short-on new keeps text
      (subst (λ (r : EventState). IsShortTo old.settings.limit r.tokens text) (sym state)
      (short-ended old.settings.limit old.reader.tokens text h.short)) in (
        more.0,
        (
          (new.reader, (keeps.limits.0 ∙ ap (λ (r : EventState). r.text.depth) state ∙ h.limit, more.1.0, (keeps.going, whole ended), short-text old.settings.limit new.reader.tokens text (whole ended).0 short)),
          leads-on new.path earlier events more.0 h.path more.1.1,
          keeps.window (head ++ text) (window (head ++ text) h.window),
          lines-same more.0 more.1.2,
        ),
      )

-- at the end, nothing more was given and nothing more follows
pub also-none : (old middle : EventState) → GivesOn old [] middle → GivesAlso old [] middle
also-none old middle gives input events h =
    subst (λ es. HasGiven middle (input ++ []) es) (append-nil events)
    (subst (λ xs. HasGiven middle xs (events ++ [])) (sym (append-nil input)) (gives input events h))

pub window-none : (old new : Window) → ((input : List ℕ) → IsWindow input old → IsWindow input new)
    → (input : List ℕ) → IsWindow input old → IsWindow (input ++ []) new
window-none old new step input h = subst (λ xs. IsWindow xs new) (sym (append-nil input)) (step input h)
