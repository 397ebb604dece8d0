-- A text stops in one place at most, and no tokens that may come lead on from there.
use Rattle.std.proofs.Common.{◌≡◌, ℕ, true, false, List, [], ◌∷◌, ◌++◌, length, drop, None, inl, inr, ap, sym, ◌∙◌, subst, refl, arith, length-drop}
use Rattle.format_lemmas.specs.Bytes.{StartsWith}
use Rattle.format_json_scalars.specs.StringAnswers.{IsDamagedAt}
use Rattle.format_json.specs.Language.{after_blanks}
use Rattle.format_json.specs.Documents.{IsDocument}
use Rattle.format_json.specs.Tokens.{TokenAhead}
use Rattle.format_json.specs.Reading.{AreTokens}
use Rattle.format_json_events.specs.Turns.{TextState, at_begin, bar_at, turn_at, after_turn}
use Rattle.format_json_events.specs.Reading.{IsAllowed, Takes}
use Rattle.format_json_events.specs.Stops.{StopsHere, Stops, StopsAt, TellsStop, IsAtOffset}
use Rattle.format_json.specs.declared.tokens.Token.{Token}
use Rattle.format_json_events.specs.declared.event_reader.Event.{Event}
use Rattle.format_json_events.specs.declared.event_reader.EventError.{EventError}
use Rattle.format_json_events.specs.declared.event_reader.EventError.TheVariants as error
use Rattle.format_json.specs.declared.value.Value.{Value}
use Rattle.format_json.proofs.lemmas.JsonTokenLemmas.{damage-none, damaged-once, token-once}
use Rattle.format_json_events.proofs.lemmas.SameTurnLemmas.{turns-same}
use Rattle.format_json_events.proofs.lemmas.ValueTurnLemmas.{Runs, runs-on}
use Rattle.format_json_events.proofs.lemmas.LeadingLemmas.{Leads, document-leads, one-stands, goes-on, tokens-follow}

-- ---- Where a text stops

-- a text stops where it stands
pub stop-here : (s : TextState) (b r : List ℕ) → StopsHere s b r → Stops s b r
stop-here s b r stops = record {
  tokens = [];
  events = [];
  last = s;
  left = b;
  stand = refl;
  takes = (refl, refl);
  stops = stops;
}

-- it does before what may not come
pub stop-none : (s : TextState) (b r : List ℕ) → r ≡ after_blanks b
    → ((t : Token) (c : List ℕ) → TokenAhead false t b c → ¬ (IsAllowed (turn_at s t)))
    → (bar_at s true ≡ None → ¬ (StartsWith 34 (after_blanks b))) → Stops s b r
stop-none s b r same none quote = stop-here s b r (inr (same, (none, quote)))

-- it stops where it does after tokens that may come
pub stop-runs : {s t : TextState} {b c : List ℕ} {es : List Event} (r : List ℕ) → Runs s b es t c
    → Stops t c r → Stops s b r
stop-runs {s} {t} {b} {c} {es} r runs h =
    let on : Runs t c h.events h.last h.left =
    record { tokens = h.tokens; stand = h.stand; takes = h.takes } in
    let all = runs-on runs on in
    record {
      tokens = all.tokens;
      events = es ++ h.events;
      last = h.last;
      left = h.left;
      stand = all.stand;
      takes = all.takes;
      stops = h.stops;
    }

-- ---- One place

module _ (s : TextState) (b : List ℕ) where
  -- where a text stops, no token that may come stands
  pub here-none : (r : List ℕ) → StopsHere s b r → (t : Token) (c : List ℕ)
      → TokenAhead false t b c → ¬ (IsAllowed (turn_at s t))
  here-none r (inl (free, damaged)) t c h may =
      damage-none false (after_blanks b) t c r (inl damaged) h
  here-none r (inr (same, (none, quote))) t c h may = none t c h may

  -- a string that is damaged begins with a quote
  damaged-quote : (r : List ℕ) → IsDamagedAt false (after_blanks b) r
      → StartsWith 34 (after_blanks b)
  damaged-quote r d = subst (StartsWith 34) (sym d.1.1.0) refl

  -- it stops at one rest
  here-once : (r q : List ℕ) → StopsHere s b r → StopsHere s b q → r ≡ q
  here-once r q (inl (free, d)) (inl (also, e)) = damaged-once false (after_blanks b) r q d e
  here-once r q (inl (free, d)) (inr (same, (none, quote))) = absurd (quote free (damaged-quote r d))
  here-once r q (inr (same, (none, quote))) (inl (free, d)) = absurd (quote free (damaged-quote q d))
  here-once r q (inr (same, none)) (inr (also, others)) = same ∙ sym also

module _ (t u : TextState) (c d r q : List ℕ) (stops : StopsHere t c r) (other : StopsHere u d q) where
  -- tokens that stand before two such places lead to one
  tokens-once : (ts us : List Token) (s : TextState) (b : List ℕ) (es fs : List Event)
      → AreTokens false ts b c → Takes s ts es t → AreTokens false us b d → Takes s us fs u → r ≡ q
  tokens-once [] [] s b es fs same (none, at) also (nil, place) =
      here-once s b r q
      (subst (λ x. StopsHere x b r) at (subst (λ l. StopsHere t l r) (sym same) stops))
      (subst (λ x. StopsHere x b q) place (subst (λ l. StopsHere u l q) (sym also) other))
  tokens-once [] (y ∷ us) s b es fs same (none, at) (a, (h, more)) (may, takes) =
      let here = subst (λ x. StopsHere x b r) at (subst (λ l. StopsHere t l r) (sym same) stops) in
      absurd (here-none s b r here y a h may)
  tokens-once (x ∷ ts) [] s b es fs (a, (h, more)) (may, takes) also (nil, place) =
      let here = subst (λ x. StopsHere x b q) place (subst (λ l. StopsHere u l q) (sym also) other) in
      absurd (here-none s b q here x a h may)
  tokens-once (x ∷ ts) (y ∷ us) s b es fs (a, (h, more)) (may, (rest, (e, takes))) (k, (g, also)) (may2, (rest2, (e2, takes2))) =
      let one = token-once false x y (after_blanks b) a k h g in
      let turn = turns-same s x y one.0 in
      tokens-once ts us (after_turn s (turn_at s y)) k rest rest2
      (subst (λ l. AreTokens false ts l c) one.1 more)
      (subst (λ z. Takes z ts rest t) (turn.after s) takes) also takes2

-- a text stops at one rest
pub stops-once : (s : TextState) (b r q : List ℕ) → Stops s b r → Stops s b q → r ≡ q
stops-once s b r q h g =
    tokens-once h.last g.last h.left g.left r q h.stops g.stops h.tokens g.tokens s b h.events g.events h.stand h.takes g.stand g.takes

-- so at one offset
pub offset-once : (depth : ℕ) (text : List ℕ) (m n : ℕ) → StopsAt depth text m
    → StopsAt depth text n → m ≡ n
offset-once depth text m n (within, h) (inside, g) =
    let same = ap length (stops-once (at_begin depth) text (drop m text) (drop n text) h g) in
    omega (arith, same, within, inside, length-drop m text, length-drop n text)

-- the errors that tell where a text stops are at that offset
pub tells-offset : (depth : ℕ) (text : List ℕ) (n : ℕ) (e : EventError) → StopsAt depth text n
    → TellsStop depth text e → IsAtOffset text e n
tells-offset depth text n (error.Damaged place cause) h told =
    offset-once depth text place n told h
tells-offset depth text n (error.Unexpected place) h told = offset-once depth text place n told h
tells-offset depth text n (error.TooDeep place) h told = offset-once depth text place n told h
tells-offset depth text n (error.EndsEarly place) h told = told.0
tells-offset depth text n (error.Refused why) h told = tt

-- ---- No way on

-- from where a text stops, no tokens that may come lead to its end
pub stops-none : (s : TextState) (b r : List ℕ) → Stops s b r → (events : List Event)
    → ¬ (Leads s b events)
stops-none s b r h events l =
    let f = tokens-follow h.tokens s h.last b h.left h.events events h.stand h.takes l in
    let one = one-stands h.last h.left f.left f.leads in
    let go = goes-on h.last h.left f.left f.leads one.0 one.1.0 one.1.1 in
    here-none h.last h.left r h.stops one.0 one.1.0 one.1.1 go.allowed

-- so a text that is a value does not stop
pub value-unstopped : (depth : ℕ) (text : List ℕ) (value : Value) (n : ℕ)
    → IsDocument depth text value → ¬ (StopsAt depth text n)
value-unstopped depth text value n is (within, h) =
    stops-none (at_begin depth) text (drop n text) h _ (document-leads depth text value is)
