-- What a step of the reader of events makes of what it has given.
use Rattle.std.proofs.Common.{◌≡◌, List, [], ◌∷◌, ◌++◌, Option, Some, None, ◌⊎◌, inl, inr, ap, sym, ◌∙◌, subst, refl, append_assoc, append-nil}
use Rattle.std.specs.Prelude.{Result, Ok, Err}
use Rattle.winnow_reader.specs.State.{ReaderState}
use Rattle.format_json_events.specs.Blanks.{HasTaken, TakesThrough}
use Rattle.format_json_events.specs.Turns.{TextState, at_begin, turn_at, turn_events, after_turn, answer_of}
use Rattle.format_json_events.specs.Reading.{IsAllowed, Takes, EventState, GivesOn, KeepsLimits, Brings, BringsEnd, IsComing, taken_events}
use Rattle.format_json.specs.declared.tokens.Token.{Token}
use Rattle.format_json.specs.declared.tokens.Token.TheVariants as token
use Rattle.format_json.specs.declared.reading.JsonToken.{JsonToken}
use Rattle.format_json_events.specs.declared.event_reader.Event.{Event}
use Rattle.format_json_events.specs.declared.event_reader.EventError.{EventError}
use Rattle.format_json_events.specs.declared.event_reader.Coming.{Coming}
use Rattle.format_json_events.specs.declared.event_reader.Coming.TheVariants as coming
use Rattle.format_json_events.specs.declared.syntax.Taken.{Taken}
use Rattle.format_json_events.specs.declared.turns.Misplaced.{Misplaced}
use Rattle.format_json_events.specs.declared.turns.Turn.{Turn}
use Rattle.format_json_events.specs.declared.turns.Turn.TheVariants.{Opens, Closes, Gives, Names, Passes, Ends, Refuses}
use Rattle.format_json_events.proofs.lemmas.WaitLemmas.{waits-ended}

-- ---- Turns

-- the events of an answer
abbrev answered : Result Taken Misplaced → List Event
answered (Ok t) = taken_events t
answered (Err m) = []

-- what is answered for a token has its events
answer-events : (turn : Turn) (r : Result Taken Misplaced) → answer_of turn ≡ r
    → turn_events turn ≡ answered r
answer-events (Opens b) r e = ap answered e
answer-events (Closes b) r e = ap answered e
answer-events (Gives x) r e = ap answered e
answer-events (Names n) r e = ap answered e
answer-events (Passes x) r e = ap answered e
answer-events Ends r e = ap answered e
answer-events (Refuses m) r e = ap answered e

-- a token that is taken may stand there
answer-allowed : (turn : Turn) (t : Taken) → answer_of turn ≡ Ok t → IsAllowed turn
answer-allowed (Opens b) t e = tt
answer-allowed (Closes b) t e = tt
answer-allowed (Gives x) t e = tt
answer-allowed (Names n) t e = tt
answer-allowed (Passes x) t e = tt
answer-allowed Ends t e = tt
answer-allowed (Refuses m) t e = cc e

-- why a token is refused; another reason where it is not
abbrev refusal : Misplaced → Result Taken Misplaced → Misplaced
refusal other (Ok t) = other
refusal other (Err m) = m

-- a token that is refused may not
pub answer-refused : (turn : Turn) (m : Misplaced) → answer_of turn ≡ Err m → turn ≡ Refuses m
answer-refused (Opens b) m e = absurd (cc e)
answer-refused (Closes b) m e = absurd (cc e)
answer-refused (Gives x) m e = absurd (cc e)
answer-refused (Names n) m e = absurd (cc e)
answer-refused (Passes x) m e = absurd (cc e)
answer-refused Ends m e = absurd (cc e)
answer-refused (Refuses k) m e = ap Refuses (ap (refusal k) e)

-- no turn changes how deep values may stand
depth-same : (s : TextState) (turn : Turn) → (after_turn s turn).depth ≡ s.depth
depth-same s (Opens b) = refl
depth-same s (Closes b) = refl
depth-same s (Gives x) = refl
depth-same s (Names n) = refl
depth-same s (Passes x) = refl
depth-same s Ends = refl
depth-same s (Refuses m) = refl

-- ---- Tokens in a row

-- one token more
takes-more : (s : TextState) (tokens : List Token) (events : List Event) (t : TextState)
    (last : Token)
    → Takes s tokens events t → IsAllowed (turn_at t last)
    → Takes s (tokens ++ last ∷ []) (events ++ turn_events (turn_at t last)) (after_turn t (turn_at t last))
takes-more s [] events t last (none, same) ok =
    subst (λ u. IsAllowed (turn_at u last) → Takes s (last ∷ []) (events ++ turn_events (turn_at u last)) (after_turn u (turn_at u last))) (sym same)
    (λ may. (may, ([], (ap (λ l. l ++ turn_events (turn_at s last)) none ∙ sym (append-nil (turn_events (turn_at s last))), (refl, refl))))) ok
takes-more s (x ∷ tokens) events t last (may, (rest, (e, more))) ok = (
  may,
  (
    rest ++ turn_events (turn_at t last),
    (
      ap (λ l. l ++ turn_events (turn_at t last)) e ∙ append_assoc (turn_events (turn_at s x)) rest (turn_events (turn_at t last)),
      takes-more (after_turn s (turn_at s x)) tokens rest t last more ok,
    ),
  ),
)

-- ---- The reader

-- an option that is nothing else is none
pub none-is : {T : Type 0} (o : Option T) → ((x : T) → o ≡ Some x → ⊥) → o ≡ None
none-is None none = refl
none-is (Some x) none = absurd (none x refl)

-- what a reader shows
abbrev pub reader_of : ReaderState JsonToken → TextState → Option EventError → EventState
reader_of f text stopped = record { tokens = f; text = text; stopped = stopped }

module _ (old : EventState) (f : ReaderState JsonToken) (going : old.stopped ≡ None) where
  -- a reader of this, where the text stands there
  abbrev reader_at : TextState → Option EventError → EventState
  reader_at text stopped = reader_of f text stopped

  -- a token that may stand there was read, and its events are given
  given-token : (t : Token) → Brings old.tokens t f → IsAllowed (turn_at old.text t)
      → GivesOn old (turn_events (turn_at old.text t))
      (reader_at (after_turn old.text (turn_at old.text t)) old.stopped)
  given-token t b ok input before g = record {
    taken = g.taken ++ t ∷ [];
    others = [];
    read = subst (λ l. HasTaken f input l)
        (ap (λ l. (g.taken ++ l) ++ t ∷ []) (g.going going) ∙ ap (λ l. l ++ t ∷ []) (append-nil g.taken) ∙ sym (append-nil (g.taken ++ t ∷ [])))
        (b.read input (g.taken ++ g.others) g.read);
    going = λ e. refl;
    takes = subst (λ d. Takes (at_begin d) (g.taken ++ t ∷ []) (before ++ turn_events (turn_at old.text t)) (after_turn old.text (turn_at old.text t)))
        (sym (depth-same old.text (turn_at old.text t)))
        (takes-more (at_begin old.text.depth) g.taken before old.text t g.takes ok);
  }

  -- nothing was read
  given-same : (stopped : Option EventError) → (stopped ≡ None → old.stopped ≡ None)
      → TakesThrough old.tokens f
      → GivesOn old [] (reader_at old.text stopped)
  given-same stopped still read input before g = record {
    taken = g.taken;
    others = g.others;
    read = read input (g.taken ++ g.others) g.read;
    going = λ e. g.going (still e);
    takes = subst (λ l. Takes (at_begin old.text.depth) g.taken l old.text) (sym (append-nil before)) g.takes;
  }

  -- a token was read that may not stand there
  given-refused : (t : Token) (e : EventError) → Brings old.tokens t f
      → GivesOn old [] (reader_at old.text (Some e))
  given-refused t e b input before g = record {
    taken = g.taken;
    others = g.others ++ t ∷ [];
    read = subst (λ l. HasTaken f input l) (append_assoc g.taken g.others (t ∷ [])) (b.read input (g.taken ++ g.others) g.read);
    going = λ none. cc none;
    takes = subst (λ l. Takes (at_begin old.text.depth) g.taken l old.text) (sym (append-nil before)) g.takes;
  }

  -- what was read of the same reader
  same-read : f ≡ old.tokens → TakesThrough old.tokens f
  same-read e input tokens h = subst (λ k. HasTaken k input tokens) (sym e) h

  module _ (middle new : TextState) (same : middle ≡ old.text) where
    -- a token was taken
    pub step-took : (t : Token) (taken : Taken) → Brings old.tokens t f
        → new ≡ after_turn middle (turn_at middle t) → answer_of (turn_at middle t) ≡ Ok taken
        → GivesOn old (taken_events taken) (reader_at new old.stopped)
    step-took t taken b after answer =
        let is = subst (λ s. new ≡ after_turn s (turn_at s t)) same after in
        let said = subst (λ s. answer_of (turn_at s t) ≡ Ok taken) same answer in
        subst (λ s. GivesOn old (taken_events taken) (reader_at s old.stopped)) (sym is)
        (subst (λ l. GivesOn old l (reader_at (after_turn old.text (turn_at old.text t)) old.stopped)) (events said)
        (given-token t b (answer-allowed (turn_at old.text t) taken said)))
      where
        events : answer_of (turn_at old.text t) ≡ Ok taken
            → turn_events (turn_at old.text t) ≡ taken_events taken
        events said = answer-events (turn_at old.text t) (Ok taken) said

    -- a token was refused
    pub step-refused : (t : Token) (m : Misplaced) (e : EventError)
        → new ≡ after_turn middle (turn_at middle t) → answer_of (turn_at middle t) ≡ Err m
        → Brings old.tokens t f → GivesOn old [] (reader_at new (Some e))
    step-refused t m e after answer b =
        let no = answer-refused (turn_at middle t) m answer in
        subst (λ s. GivesOn old [] (reader_at s (Some e))) (sym (after ∙ ap (after_turn middle) no ∙ same)) (given-refused t e b)

    -- the end was refused
    pub end-refused : (e : EventError) → new ≡ middle → BringsEnd old.tokens f
        → GivesOn old [] (reader_at new (Some e))
    end-refused e stays (through, how) =
        subst (λ s. GivesOn old [] (reader_at s (Some e))) (sym (stays ∙ same)) (by how)
      where
        by : (Brings old.tokens token.End f) ⊎ (f ≡ old.tokens)
            → GivesOn old [] (reader_at old.text (Some e))
        by (inl b) = given-refused token.End e b
        by (inr k) = given-same (Some e) (λ none. absurd (cc none)) (same-read k)

    -- the end was taken
    pub step-ended : new ≡ middle → turn_at middle token.End ≡ Ends → BringsEnd old.tokens f
        → GivesOn old [] (reader_at new old.stopped)
    step-ended stays end (through, how) =
        let here = subst (λ s. turn_at s token.End ≡ Ends) same end in
        subst (λ s. GivesOn old [] (reader_at s old.stopped)) (sym (stays ∙ same)) (by here how)
      where
        by : turn_at old.text token.End ≡ Ends → (Brings old.tokens token.End f) ⊎ (f ≡ old.tokens)
            → GivesOn old [] (reader_at old.text old.stopped)
        by e (inl b) =
            subst (λ u. GivesOn old (turn_events u) (reader_at (after_turn old.text u) old.stopped)) e
            (given-token token.End b (subst IsAllowed (sym e) tt))
        by e (inr k) = given-same old.stopped (λ none. none) (same-read k)

    -- nothing was read
    pub step-waits : new ≡ middle
        → TakesThrough old.tokens f
        → GivesOn old [] (reader_at new old.stopped)
    step-waits e read =
        subst (λ s. GivesOn old [] (reader_at s old.stopped)) (sym (e ∙ same)) (given-same old.stopped (λ none. none) read)

-- the reader that is there with what comes next has ended as before
pub coming-ended : (text : TextState) (old : ReaderState JsonToken)
    (r : Result Coming EventError)
    (new : ReaderState JsonToken) → IsComing text old r new → new.ended ≡ old.ended
coming-ended text old (Ok (coming.Token t)) new b = b.ended
coming-ended text old (Ok coming.End) new (through, inl b) = b.ended
coming-ended text old (Ok coming.End) new (through, inr same) = ap (λ f. f.ended) same
coming-ended text old (Ok coming.NeedsMore) new (waits, awaits, read) = waits-ended old new waits
coming-ended text old (Err e) new (same, none) = ap (λ f. f.ended) same

-- values may stand as deep after a token as before
pub taken-depth : (old middle new : TextState) (t : Token) → middle ≡ old
    → new ≡ after_turn middle (turn_at middle t) → new.depth ≡ old.depth
taken-depth old middle new t same after =
    ap (λ s. s.depth) after ∙ depth-same middle (turn_at middle t) ∙ ap (λ s. s.depth) same

-- ---- Several steps

-- the one reader became the other by tokens that have no event
pub record IsOnWay (old new : EventState) : Type 0 where
  pub gives : GivesOn old [] new
  pub keeps : KeepsLimits old new
  pub still : (e : EventError) → old.stopped ≡ Some e → new ≡ old
  pub going : old.stopped ≡ None → new.stopped ≡ None
