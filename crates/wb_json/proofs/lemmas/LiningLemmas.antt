-- What was read and printed of an input of which each line is a text, as more of it comes.
use Rattle.std.proofs.Common.{◌≡◌, ℕ, ◌≤◌, Bool, true, false, List, [], ◌∷◌, ◌++◌, length, take, drop, refl, ap, sym, ◌∙◌, subst, inl, inr, arith, append-nil, append_assoc}
use Rattle.std.specs.Prelude.{Option, None, Result, Ok, Err, OnOk, IfErr}
use Rattle.std.specs.Io.KnownBytes.{Appends}
use Rattle.std.proofs.lemmas.List.{take-append-drop}
use Rattle.format_json.specs.Language.{after_blanks}
use Rattle.format_json_events.specs.Reading.{EventState, new_reader, events_ended, HasGiven}
use Rattle.format_json_events.specs.Lengths.{IsShortTo}
use Rattle.format_json_events.proofs.lemmas.LengthLemmas.{short-start}
use Rattle.format_json_events.specs.declared.event_reader.Event.{Event}
use Rattle.wb_base.proofs.lemmas.RecentLemmas.{feeds-append}
use Rattle.wb_json.specs.Failures.{IsOfText}
use Rattle.wb_json.specs.Windows.{IsWindow}
use Rattle.wb_json.specs.Texts.{IsLine, AreLines, IsBlank, joined, LineHas, LinesHave, InputHas, IsBefore}
use Rattle.wb_json.specs.Printing.{IsBegun, FollowsOn, FailsOn, EndsText, PassesOver, Prints, IsReady, PrintsMore, FailsMore, PrintsAll, PrintsUntil, TellsInput, written, reached}
use Rattle.wb_json.specs.declared.settings.Settings.{Settings}
use Rattle.wb_json.specs.declared.failure.Failure.{Failure}
use Rattle.wb_json.specs.declared.printing.Printing.{Printing}
use Rattle.wb_json.proofs.lemmas.BlankLemmas.{blanks-before, blanks-append}
use Rattle.wb_json.proofs.lemmas.InputLemmas.{prints-unknown, wrote-more, prints-part, fails-input, tells-text}

-- ---- Lines

-- one more line
joined-more : (lines : List (List ℕ)) (line : List ℕ)
    → joined (lines ++ line ∷ []) ≡ joined lines ++ (line ++ 10 ∷ [])
joined-more [] line = append-nil (line ++ 10 ∷ [])
joined-more (first ∷ lines) line =
    ap (λ xs. (first ++ 10 ∷ []) ++ xs) (joined-more lines line)
    ∙ sym (append_assoc (first ++ 10 ∷ []) (joined lines) (line ++ 10 ∷ []))

-- the events of one more line
have-more : (s : Settings) (lines : List (List ℕ)) (line : List ℕ) (before events : List Event)
    → LinesHave s lines before → LineHas s line events
    → LinesHave s (lines ++ line ∷ []) (before ++ events)
have-more s [] line before events none has =
    (events, ([], (ap (λ es. es ++ events) none ∙ sym (append-nil events), has, refl)))
have-more s (first ∷ lines) line before events (of_first, (rest, (is, first_has, rest_have))) has =
    (of_first, (rest ++ events, (ap (λ es. es ++ events) is ∙ append_assoc of_first rest events, first_has, have-more s lines line rest events rest_have has)))

-- all of one more
all-more : (lines : List (List ℕ)) (line : List ℕ) → AreLines lines → IsLine line
    → AreLines (lines ++ line ∷ [])
all-more [] line h k = (k, tt)
all-more (first ∷ lines) line h k = (h.0, all-more lines line h.1 k)

-- two parts of a line are one
line-append : (xs ys : List ℕ) → IsLine xs → IsLine ys → IsLine (xs ++ ys)
line-append xs ys h k = omega (arith, h, k, feeds-append xs ys)

-- parts of a line are of one line
pub line-parts : (xs ys zs : List ℕ) → zs ≡ xs ++ ys → IsLine zs → IsLine xs × IsLine ys
line-parts xs ys zs is h =
    let all = feeds-append xs ys in
    let same = ap (λ bs. Rattle.wb_base.specs.Positions.line_feeds bs) is in
    (omega (arith, h, all, same), omega (arith, h, all, same))

-- bytes of no length are none
pub none-left : (rest : List ℕ) → length rest ≡ 0 → rest ≡ []
none-left [] h = refl
none-left (x ∷ rest) h = absurd (omega (arith, h))

-- the blanks before the first part of a line, and the rest
pub first-blanks : (part blanks rest : List ℕ) (n : ℕ) → n ≤ length part
    → drop n part ≡ after_blanks part → blanks ≡ take n part → rest ≡ drop n part → IsLine part
    → (part ≡ blanks ++ rest) × IsLine blanks × IsLine rest × IsBlank blanks
first-blanks part blanks rest n fits is front back line =
    let whole : part ≡ blanks ++ rest =
    sym (take-append-drop n part) ∙ ap (λ xs. xs ++ drop n part) (sym front) ∙ ap (λ xs. blanks ++ xs) (sym back) in
    let both = line-parts blanks rest part whole line in
    (whole, both.0, both.1, subst IsBlank (sym front) (blanks-before part n fits is))

-- ---- The start of a line

-- where a line is blank so far, its text begins after more blanks
module _ (old middle : Printing) (blanks : List ℕ) (held : Option (List ℕ))
    (lines : old.settings.by_lines ≡ true) (fresh : old.begun ≡ false)
    (line : IsLine blanks) (blank : IsBlank blanks) (passes : PassesOver old blanks middle)
    (reader : middle.reader ≡ old.reader) where
  pub passes-blanks : PrintsMore old blanks middle held held
  passes-blanks input had h =
      let none = h.fresh lines fresh in
      let is : input ≡ h.head = h.splits ∙ ap (λ xs. h.head ++ xs) none.0 ∙ append-nil h.head in
      let given = subst (λ es. HasGiven old.reader [] es) none.1 (subst (λ xs. HasGiven old.reader xs h.events) none.0 h.follows.given) in
      let window = passes.window (h.head ++ h.text) h.follows.window in
      let all : (h.head ++ h.text) ++ blanks ≡ input ++ blanks = ap (λ xs. xs ++ blanks) (sym h.splits) in
      let before = subst (λ b. IsBefore b old.settings h.head h.earlier) lines h.before in
      let more = before.1.1 in
      let now_before : IsBefore true old.settings (input ++ blanks) h.earlier = (
        before.0,
        (
          before.1.0 ++ blanks,
          (
            ap (λ xs. xs ++ blanks) (is ∙ more.0) ∙ append_assoc (joined before.0) before.1.0 blanks,
            more.1,
            line-append before.1.0 blanks more.2 line,
            blanks-append before.1.0 blanks more.3 blank,
            more.4,
          ),
        ),
      ) in
      let events : h.earlier ++ h.events ≡ h.earlier ++ [] = ap (λ es. h.earlier ++ es) none.1 in
      record {
        head = input ++ blanks;
        text = [];
        earlier = h.earlier;
        events = [];
        follows = record {
          given = subst (λ (r : EventState). HasGiven r [] []) (sym reader) given;
          going = ap (λ (r : EventState). r.stopped) reader ∙ h.follows.going;
          goes_on = ap (λ (r : EventState). r.tokens.ended) reader ∙ h.follows.goes_on;
          limit = ap (λ (r : EventState). r.text.depth) reader ∙ h.follows.limit ∙ ap (λ (s : Settings). s.depth) (sym passes.settings);
          short = subst (λ (s : Settings). IsShortTo s.limit middle.reader.tokens []) (sym passes.settings)
              (subst (λ (r : EventState). IsShortTo old.settings.limit r.tokens []) (sym reader)
              (subst (λ xs. IsShortTo old.settings.limit old.reader.tokens xs) none.0 h.follows.short));
          path = passes.path ∙ h.follows.path ∙ ap (reached old.settings) events
              ∙ ap (λ (s : Settings). reached s (h.earlier ++ [])) (sym passes.settings);
          window = subst (λ xs. IsWindow xs middle.window) (all ∙ sym (append-nil (input ++ blanks))) window.0;
          start = window.1 ∙ ap length all;
        };
        splits = sym (append-nil (input ++ blanks));
        before = subst (λ (s : Settings). IsBefore s.by_lines s (input ++ blanks) h.earlier) (sym passes.settings)
            (subst (λ b. IsBefore b old.settings (input ++ blanks) h.earlier) (sym lines) now_before);
        within = λ e. refl;
        fresh = λ e f. (refl, refl);
        wrote = subst (λ (s : Settings). Appends had held (written s (h.earlier ++ []))) (sym passes.settings)
            (subst (λ es. Appends had held (written old.settings es)) events h.wrote);
      }

-- of no part nothing is printed
pub prints-none : (p : Printing) (held : Option (List ℕ)) → PrintsMore p [] p held held
prints-none p held input had h = subst (λ bs. Prints p bs had held) (sym (append-nil input)) h

-- what is printed of two parts is printed of both
pub prints-both : (a b c : Printing) (xs ys zs : List ℕ) (wa wb wc : Option (List ℕ))
    → zs ≡ xs ++ ys → PrintsMore a xs b wa wb → PrintsMore b ys c wb wc → PrintsMore a zs c wa wc
prints-both a b c xs ys zs wa wb wc is first second input had h =
    subst (λ bs. Prints c bs had wc) (append_assoc input xs ys ∙ ap (λ bs. input ++ bs) (sym is))
    (second (input ++ xs) had (first input had h))

-- a failure in the second part is one of both
pub fails-second : (a b : Printing) (xs ys zs : List ℕ) (failure : Failure)
    (wa wb wc : Option (List ℕ)) → zs ≡ xs ++ ys → b.settings ≡ a.settings
    → PrintsMore a xs b wa wb → FailsMore b ys failure wb wc → FailsMore a zs failure wa wc
fails-second a b xs ys zs failure wa wb wc is same first second input rest had h =
    let split = append_assoc input xs (ys ++ rest) ∙ ap (λ bs. input ++ bs) (sym (append_assoc xs ys rest))
    ∙ ap (λ bs. input ++ (bs ++ rest)) (sym is) in
    subst (λ bs. PrintsUntil a.settings bs failure had wc) split
    (subst (λ (s : Settings). PrintsUntil s ((input ++ xs) ++ (ys ++ rest)) failure had wc) same
    (second (input ++ xs) rest had (first input had h)))

-- a failure in the first part is one of both
pub fails-first : (a : Printing) (xs ys zs : List ℕ) (failure : Failure) (wa wc : Option (List ℕ))
    → zs ≡ xs ++ ys → FailsMore a xs failure wa wc → FailsMore a zs failure wa wc
fails-first a xs ys zs failure wa wc is first input rest had h =
    subst (λ bs. PrintsUntil a.settings (input ++ bs) failure had wc)
    (sym (append_assoc xs ys rest) ∙ ap (λ bs. bs ++ rest) (sym is))
    (first input (ys ++ rest) had h)

-- a failure that is none of the text tells nothing
pub fails-never : (a : Printing) (xs : List ℕ) (failure : Failure) (wa wc : Option (List ℕ))
    → ¬ (IsOfText failure) → FailsMore a xs failure wa wc
fails-never a xs failure wa wc never input rest had h is = absurd (never is)

-- a part more of a text, where its line has begun
pub line-part : (old new : Printing) (part : List ℕ) (held now : Option (List ℕ))
    → new.settings ≡ old.settings → new.begun ≡ old.begun → old.begun ≡ true → IsLine part
    → FollowsOn old part new held now → PrintsMore old part new held now
line-part old new part held now settings begun is line on =
    prints-part old new part held now settings begun (λ e. line) (λ e. is) on

-- ---- The end of a line

-- the next line begins after the line feed
begins-next : (old new : Printing) (had now : Option (List ℕ)) (input : List ℕ)
    (before : List (List ℕ)) (blanks text : List ℕ) (earlier events : List Event)
    → old.settings.by_lines ≡ true → new.settings ≡ old.settings
    → new.reader ≡ new_reader old.settings.depth → HasGiven new.reader [] []
    → input ≡ (joined before ++ blanks) ++ text → AreLines before → IsLine (blanks ++ text)
    → LinesHave old.settings before earlier
    → LineHas old.settings (blanks ++ text) events
    → new.path ≡ reached old.settings (earlier ++ events)
    → IsWindow (input ++ 10 ∷ []) new.window → new.window.start ≡ length (input ++ 10 ∷ [])
    → Appends had now (written old.settings (earlier ++ events))
    → Prints new (input ++ 10 ∷ []) had now
begins-next old new had now input before blanks text earlier events lines settings reader read splits all line have has path window start wrote =
    let whole : input ++ 10 ∷ [] ≡ joined (before ++ (blanks ++ text) ∷ []) ++ [] =
    ap (λ xs. xs ++ 10 ∷ []) (splits ∙ append_assoc (joined before) blanks text)
    ∙ append_assoc (joined before) (blanks ++ text) (10 ∷ [])
    ∙ sym (joined-more before (blanks ++ text))
    ∙ sym (append-nil (joined (before ++ (blanks ++ text) ∷ []))) in
    let none_blank : IsBlank [] = refl in
    let none_line : IsLine [] = refl in
    let is_before : IsBefore true old.settings (input ++ 10 ∷ []) (earlier ++ events) = (
      before ++ (blanks ++ text) ∷ [],
      ([], (whole, all-more before (blanks ++ text) all line, none_line, none_blank, have-more old.settings before (blanks ++ text) earlier events have has)),
    ) in
    record {
      head = input ++ 10 ∷ [];
      text = [];
      earlier = earlier ++ events;
      events = [];
      follows = record {
        given = read;
        going = ap (λ (r : EventState). r.stopped) reader;
        goes_on = ap (λ (r : EventState). r.tokens.ended) reader;
        limit = ap (λ (r : EventState). r.text.depth) reader ∙ ap (λ (s : Settings). s.depth) (sym settings);
        short = subst (λ (r : EventState). IsShortTo new.settings.limit r.tokens []) (sym reader) (short-start new.settings.limit);
        path = path ∙ ap (reached old.settings) (sym (append-nil (earlier ++ events)))
            ∙ ap (λ (s : Settings). reached s ((earlier ++ events) ++ [])) (sym settings);
        window = subst (λ xs. IsWindow xs new.window) (sym (append-nil (input ++ 10 ∷ []))) window;
        start = start;
      };
      splits = sym (append-nil (input ++ 10 ∷ []));
      before = subst (λ (s : Settings). IsBefore s.by_lines s (input ++ 10 ∷ []) (earlier ++ events)) (sym settings)
          (subst (λ b. IsBefore b old.settings (input ++ 10 ∷ []) (earlier ++ events)) (sym lines) is_before);
      within = λ e. none_line;
      fresh = λ e f. (refl, refl);
      wrote = subst (λ (s : Settings). Appends had now (written s ((earlier ++ events) ++ []))) (sym settings)
          (subst (λ es. Appends had now (written old.settings es)) (sym (append-nil (earlier ++ events))) wrote);
    }

-- the window after the line feed
next-window : (middle new : Printing) (input head text : List ℕ) → PassesOver middle (10 ∷ []) new
    → input ≡ head ++ text → IsWindow (head ++ text) middle.window
    → IsWindow (input ++ 10 ∷ []) new.window × (new.window.start ≡ length (input ++ 10 ∷ []))
next-window middle new input head text passes is window =
    subst (λ xs. IsWindow (xs ++ 10 ∷ []) new.window × (new.window.start ≡ length (xs ++ 10 ∷ []))) (sym is) (passes.window (head ++ text) window)

-- the text of a line has ended: `middle` is what it leads to
pub ends-line : (old middle new : Printing) (held now : Option (List ℕ))
    → old.settings.by_lines ≡ true → middle.settings ≡ old.settings → EndsText old middle held now
    → PassesOver middle (10 ∷ []) new → new.reader ≡ new_reader middle.settings.depth
    → HasGiven new.reader [] [] → PrintsMore old (10 ∷ []) new held now
ends-line old middle new held now lines same ends passes reader read input had h =
    let e = ends h.head h.text h.earlier h.events h.follows in
    let before = subst (λ b. IsBefore b old.settings h.head h.earlier) lines h.before in
    let facts = before.1.1 in
    let window = next-window middle new input h.head h.text passes h.splits e.1.2 in
    begins-next old new had now input before.0 before.1.0 h.text h.earlier (h.events ++ e.0) lines (passes.settings ∙ same)
    (reader ∙ ap (λ (s : Settings). new_reader s.depth) same) read
    (h.splits ∙ ap (λ xs. xs ++ h.text) facts.0) facts.1 (line-append before.1.0 h.text facts.2 (h.within lines)) facts.4
    (inr (before.1.0, (h.text, (refl, facts.3, e.1.0))))
    (passes.path ∙ e.1.1) window.0 window.1
    (wrote-more old.settings old.path had held now h.earlier h.events e.0 h.wrote h.follows.path e.1.3)

-- a line that is blank so far is blank
blank-so-far : (old : Printing) (input : List ℕ) (had held : Option (List ℕ)) (blanks : List ℕ)
    (h : Prints old input had held) → old.settings.by_lines ≡ true → old.begun ≡ false
    → IsBlank blanks → LineHas old.settings (blanks ++ h.text) h.events
blank-so-far old input had held blanks h lines fresh blank =
    let none = h.fresh lines fresh in
    inl (subst IsBlank (sym (ap (λ xs. blanks ++ xs) none.0 ∙ append-nil blanks)) blank, none.1)

-- a blank line has ended
pub ends-blank : (old new : Printing) (held : Option (List ℕ))
    → old.settings.by_lines ≡ true → old.begun ≡ false
    → PassesOver old (10 ∷ []) new → new.reader ≡ new_reader old.settings.depth
    → HasGiven new.reader [] [] → PrintsMore old (10 ∷ []) new held held
ends-blank old new held lines fresh passes reader read input had h =
    let before = subst (λ b. IsBefore b old.settings h.head h.earlier) lines h.before in
    let facts = before.1.1 in
    let window = next-window old new input h.head h.text passes h.splits h.follows.window in
    begins-next old new had held input before.0 before.1.0 h.text h.earlier h.events lines passes.settings reader read
    (h.splits ∙ ap (λ xs. xs ++ h.text) facts.0) facts.1 (line-append before.1.0 h.text facts.2 (h.within lines)) facts.4
    (blank-so-far old input had held before.1.0 h lines fresh facts.3)
    (passes.path ∙ h.follows.path) window.0 window.1 h.wrote

-- where the text of a line fails at its end, whatever follows the line feed
pub fails-line : (old : Printing) (failure : Failure) (held now : Option (List ℕ))
    → old.settings.by_lines ≡ true → FailsOn old [] (events_ended old.reader) failure held now
    → FailsMore old (10 ∷ []) failure held now
fails-line old failure held now lines fails input rest had h =
    fails-input old [] (10 ∷ rest) (events_ended old.reader) failure held now had input refl
    (λ e. inr (lines, (rest, refl))) (λ e. refl) fails h

-- ---- The end of the input

-- the lines of an input, of which the last one has these events
all-lines : (old : Printing) (input : List ℕ) (had held : Option (List ℕ))
    (h : Prints old input had held) (events : List Event) → old.settings.by_lines ≡ true
    → ((blanks : List ℕ) → IsBlank blanks → LineHas old.settings (blanks ++ h.text) events)
    → InputHas old.settings.by_lines old.settings input (h.earlier ++ events)
all-lines old input had held h events lines has =
    let before = subst (λ b. IsBefore b old.settings h.head h.earlier) lines h.before in
    let facts = before.1.1 in
    let last = before.1.0 ++ h.text in
    let found : InputHas true old.settings input (h.earlier ++ events) = (
      before.0,
      (
        last,
        (
          h.splits ∙ ap (λ xs. xs ++ h.text) facts.0 ∙ append_assoc (joined before.0) before.1.0 h.text,
          all-more before.0 last facts.1 (line-append before.1.0 h.text facts.2 (h.within lines)),
          have-more old.settings before.0 last h.earlier events facts.4 (has before.1.0 facts.3),
        ),
      ),
    ) in
    subst (λ b. InputHas b old.settings input (h.earlier ++ events)) (sym lines) found

-- what the end of an input returns whose last line is blank
pub tells-blank : (old : Printing) (held had : Option (List ℕ)) (input : List ℕ)
    → old.settings.by_lines ≡ true → old.begun ≡ false → Prints old input had held
    → PrintsAll old.settings input had held
tells-blank old held had input lines fresh h =
    (h.earlier ++ h.events, (all-lines old input had held h h.events lines (λ blanks blank. blank-so-far old input had held blanks h lines fresh blank), h.wrote))

-- what the end of an input returns whose last line is a text
pub tells-line : (old new : Printing) (held now had : Option (List ℕ)) (input : List ℕ)
    (result : Result (Unit {0}) Failure) → old.settings.by_lines ≡ true
    → OnOk result (EndsText old new held now)
    → IfErr result (λ failure. FailsOn old [] (events_ended old.reader) failure held now)
    → Prints old input had held → TellsInput old.settings input had now result
tells-line old new held now had input (Ok done) lines ends fails h =
    let e = ends h.head h.text h.earlier h.events h.follows in (
      h.earlier ++ (h.events ++ e.0),
      (
        all-lines old input had held h (h.events ++ e.0) lines (λ blanks blank. inr (blanks, (h.text, (refl, blank, e.1.0)))),
        wrote-more old.settings old.path had held now h.earlier h.events e.0 h.wrote h.follows.path e.1.3,
      ),
    )
tells-line old new held now had input (Err failure) lines ends fails h =
    subst (λ xs. PrintsUntil old.settings xs failure had now) (append-nil input)
    (fails-input old [] [] (events_ended old.reader) failure held now had input refl (λ e. inl refl) (λ e. refl) fails h)

-- what the end of an input returns, in either form
pub tells-last : (old new : Printing) (held now had : Option (List ℕ)) (input : List ℕ)
    (result : Result (Unit {0}) Failure) (by_lines : Bool) → old.settings.by_lines ≡ by_lines
    → OnOk result (EndsText old new held now)
    → IfErr result (λ failure. FailsOn old [] (events_ended old.reader) failure held now)
    → Prints old input had held → TellsInput old.settings input had now result
tells-last old new held now had input result true is ends fails h =
    tells-line old new held now had input result is ends fails h
tells-last old new held now had input result false is ends fails h =
    tells-text old new held now had input result is ends fails h

-- ---- What is begun

-- nothing is known of what an unknown output had
pub ready-prints : (p : Printing) (held : Option (List ℕ)) (h : IsReady p) → Prints p h.0 None held
ready-prints p held h = prints-unknown p h.0 None None held h.1

-- what is printed of a part is begun
pub ready-more : (old new : Printing) (part : List ℕ) (held now : Option (List ℕ)) → IsReady old
    → PrintsMore old part new held now → IsReady new
ready-more old new part held now h more =
    (h.0 ++ part, prints-unknown new (h.0 ++ part) None now None (more h.0 None (ready-prints old held h)))

-- some text of it is begun
pub ready-begun : (p : Printing) → IsReady p → IsBegun p
ready-begun p (input, h) = (h.head, (h.text, (h.earlier, (h.events, h.follows))))

-- an input of which anything was printed is begun
pub prints-ready : (p : Printing) (input : List ℕ) (had held : Option (List ℕ))
    → Prints p input had held → IsReady p
prints-ready p input had held h = (input, prints-unknown p input had held None h)
