-- What was read and printed of an input, as more of it comes.
use Rattle.std.proofs.Common.{◌≡◌, ℕ, Bool, true, false, List, [], ◌++◌, length, refl, ap, sym, ◌∙◌, subst, inl, arith, append-nil, append_assoc}
use Rattle.std.specs.Prelude.{Option, None, Some, IfSome, Result, Ok, Err, OnOk, IfErr}
use Rattle.std.specs.Io.KnownBytes.{Appends}
use Rattle.format_json_events.specs.Reading.{EventState, events_ended}
use Rattle.format_json_events.specs.declared.event_reader.Event.{Event}
use Rattle.wb_base.proofs.lemmas.RecentLemmas.{feeds-append}
use Rattle.wb_json.specs.Paths.{Place}
use Rattle.wb_json.specs.Lines.{lines_at}
use Rattle.wb_json.specs.Faults.{IsFailureOf}
use Rattle.wb_json.specs.Texts.{IsText, IsBefore, IsWithin, IsAfter, InputHas}
use Rattle.wb_json.specs.Printing.{IsBegun, FollowsOn, FailsOn, EndsText, Prints, PrintsMore, FailsMore, PrintsAll, PrintsUntil, TellsInput, written, reached}
use Rattle.wb_json.specs.declared.settings.Settings.{Settings}
use Rattle.wb_json.specs.declared.failure.Failure.{Failure}
use Rattle.wb_json.specs.declared.printing.Printing.{Printing}
use Rattle.wb_json.proofs.lemmas.KnownLemmas.{appends-more}
use Rattle.wb_json.proofs.lemmas.LineLemmas.{written-more}
use Rattle.wb_json.proofs.lemmas.FailureLemmas.{failure-longer}

-- nothing is both true and false
pub no-both : (b : Bool) → b ≡ true → b ≡ false → ⊥
no-both true e f = absurd (cc)
no-both false e f = absurd (cc)

-- what is printed of an input, where other bytes were written
pub prints-wrote : (p : Printing) (input : List ℕ) (had held now : Option (List ℕ))
    (h : Prints p input had held) → Appends had now (written p.settings (h.earlier ++ h.events))
    → Prints p input had now
prints-wrote p input had held now h wrote = record {
  head = h.head;
  text = h.text;
  earlier = h.earlier;
  events = h.events;
  follows = h.follows;
  splits = h.splits;
  before = h.before;
  within = h.within;
  fresh = h.fresh;
  wrote = wrote;
}

-- nothing is known of what is written to an unknown output
pub prints-unknown : (p : Printing) (input : List ℕ) (had held now : Option (List ℕ))
    → Prints p input had held → Prints p input None now
prints-unknown p input had held now h = record {
  head = h.head;
  text = h.text;
  earlier = h.earlier;
  events = h.events;
  follows = h.follows;
  splits = h.splits;
  before = h.before;
  within = h.within;
  fresh = h.fresh;
  wrote = tt;
}

-- what was begun is begun with a part more
pub begun-on : (old new : Printing) (part : List ℕ) (held now : Option (List ℕ))
    → IsBegun old → FollowsOn old part new held now → IsBegun new
begun-on old new part held now (head, (text, (earlier, (events, h)))) on =
    let more = on head text earlier events h in
    (head, (text ++ part, (earlier, (events ++ more.0, more.1.0))))

-- more is written of an input
pub wrote-more : (s : Settings) (place : Place) (had held now : Option (List ℕ))
    (earlier events more : List Event) → Appends had held (written s (earlier ++ events))
    → place ≡ reached s (earlier ++ events) → Appends held now (lines_at s.layout place more)
    → Appends had now (written s (earlier ++ (events ++ more)))
wrote-more s place had held now earlier events more wrote at added =
    subst (λ bs. Appends had now bs)
    (ap (λ (q : Place). written s (earlier ++ events) ++ lines_at s.layout q more) at
    ∙ sym (written-more s (earlier ++ events) more) ∙ ap (written s) (append_assoc earlier events more))
    (appends-more had held now (written s (earlier ++ events)) (lines_at s.layout place more) wrote added)

-- a text of one line is of one line with more of the line
within-more : (by_lines : Bool) (text part : List ℕ) → IsWithin by_lines text
    → IsWithin by_lines part → IsWithin by_lines (text ++ part)
within-more by_lines text part h k e =
    let one = h e in let two = k e in omega (arith, one, two, feeds-append text part)

-- what was read of an input is read with a part more
pub prints-part : (old new : Printing) (part : List ℕ) (held now : Option (List ℕ))
    → new.settings ≡ old.settings → new.begun ≡ old.begun
    → IsWithin old.settings.by_lines part → (old.settings.by_lines ≡ true → old.begun ≡ true)
    → FollowsOn old part new held now → PrintsMore old part new held now
prints-part old new part held now settings begun line is on input had h =
    let more = on h.head h.text h.earlier h.events h.follows in record {
      head = h.head;
      text = h.text ++ part;
      earlier = h.earlier;
      events = h.events ++ more.0;
      follows = more.1.0;
      splits = ap (λ xs. xs ++ part) h.splits ∙ append_assoc h.head h.text part;
      before = subst (λ (s : Settings). IsBefore s.by_lines s h.head h.earlier) (sym settings) h.before;
      within = subst (λ (s : Settings). IsWithin s.by_lines (h.text ++ part)) (sym settings) (within-more old.settings.by_lines h.text part h.within line);
      fresh = λ e f. absurd (no-both old.begun (is (sym (ap (λ (s : Settings). s.by_lines) settings) ∙ e)) (sym begun ∙ f));
      wrote = subst (λ (s : Settings). Appends had now (written s (h.earlier ++ (h.events ++ more.0)))) (sym settings)
          (wrote-more old.settings old.path had held now h.earlier h.events more.0 h.wrote h.follows.path more.1.1);
    }

-- where a part makes the program fail, the failure is one of the input, whatever is left of it: at
-- the end of a text only what may follow that
pub fails-input : (old : Printing) (part rest : List ℕ) (limits : EventState) (failure : Failure)
    (held now had : Option (List ℕ)) (input : List ℕ) → limits.text.depth ≡ old.reader.text.depth
    → (limits.tokens.ended ≡ true → IsAfter old.settings.by_lines rest)
    → IsWithin old.settings.by_lines part → FailsOn old part limits failure held now
    → Prints old input had held
    → PrintsUntil old.settings (input ++ (part ++ rest)) failure had now
fails-input old part rest limits failure held now had input deep leaves line fails h is =
    let b = fails is h.head h.text h.earlier h.events h.follows in
    let splits = ap (λ xs. xs ++ (part ++ rest)) h.splits ∙ append_assoc h.head h.text (part ++ rest)
    ∙ ap (λ xs. h.head ++ xs) (sym (append_assoc h.text part rest)) in
    record {
      head = h.head;
      earlier = h.earlier;
      before = h.before;
      front = h.text ++ part;
      rest = rest;
      splits = splits;
      within = within-more old.settings.by_lines h.text part h.within line;
      reader = b.reader;
      events = h.events ++ b.more;
      limit = b.keeps.0 ∙ deep ∙ h.follows.limit;
      given = b.given;
      going = b.going;
      ends = λ end. leaves (sym b.keeps.1 ∙ end);
      wrote = wrote-more old.settings old.path had held now h.earlier h.events b.more h.wrote h.follows.path b.wrote;
      told = subst (λ xs. IsFailureOf old.settings.limit xs (length h.head) b.reader failure)
          (append_assoc h.head (h.text ++ part) rest ∙ sym splits)
          (failure-longer old.settings.limit (h.head ++ (h.text ++ part)) rest (length h.head) b.reader failure b.told);
    }

-- a part fails so while more may follow
pub fails-part-of : (old : Printing) (part : List ℕ) (failure : Failure)
    (held now : Option (List ℕ)) → IsWithin old.settings.by_lines part → FailsOn old part old.reader failure held now
    → FailsMore old part failure held now
fails-part-of old part failure held now line fails input rest had h =
    fails-input old part rest old.reader failure held now had input refl
    (λ e. absurd (no-both old.reader.tokens.ended e h.follows.goes_on)) line fails h

-- what the end of a text returns is told of an input that is one text
pub tells-text : (old new : Printing) (held now had : Option (List ℕ)) (input : List ℕ)
    (result : Result (Unit {0}) Failure) → old.settings.by_lines ≡ false
    → OnOk result (EndsText old new held now)
    → IfErr result (λ failure. FailsOn old [] (events_ended old.reader) failure held now)
    → Prints old input had held → TellsInput old.settings input had now result
tells-text old new held now had input (Ok done) plain ends fails h =
    let before = subst (λ b. IsBefore b old.settings h.head h.earlier) plain h.before in
    let e = ends h.head h.text h.earlier h.events h.follows in
    let is : input ≡ h.text = h.splits ∙ ap (λ xs. xs ++ h.text) before.0 in
    let all : h.earlier ++ (h.events ++ e.0) ≡ h.events ++ e.0 = ap (λ es. es ++ (h.events ++ e.0)) before.1 in
    let text = subst (λ es. IsText old.settings h.text es) (sym all) e.1.0 in
    let whole = subst (λ xs. IsText old.settings xs (h.earlier ++ (h.events ++ e.0))) (sym is) text in (
      h.earlier ++ (h.events ++ e.0),
      (
        subst (λ b. InputHas b old.settings input (h.earlier ++ (h.events ++ e.0))) (sym plain) whole,
        wrote-more old.settings old.path had held now h.earlier h.events e.0 h.wrote h.follows.path e.1.3,
      ),
    )
tells-text old new held now had input (Err failure) plain ends fails h =
    subst (λ xs. PrintsUntil old.settings xs failure had now) (append-nil input)
    (fails-input old [] [] (events_ended old.reader) failure held now had input refl (λ e. inl refl) (λ e. refl) fails h)

-- ---- Answers

-- what is told of the input, if that is known
module _ (s : Settings) (held now : Option (List ℕ)) where
  pub printed-known : (input : Option (List ℕ)) (result : Result (Unit {0}) Failure)
      → IfSome input (λ bytes. TellsInput s bytes held now result)
      → OnOk result (IfSome input (λ bytes. PrintsAll s bytes held now))
  printed-known input (Err failure) told = tt
  printed-known None (Ok done) told = tt
  printed-known (Some bytes) (Ok done) told = told

  pub stopped-known : (input : Option (List ℕ)) (result : Result (Unit {0}) Failure)
      → IfSome input (λ bytes. TellsInput s bytes held now result)
      → IfErr result (λ failure. IfSome input (λ bytes. PrintsUntil s bytes failure held now))
  stopped-known input (Ok done) told = tt
  stopped-known None (Err failure) told = tt
  stopped-known (Some bytes) (Err failure) told = told
