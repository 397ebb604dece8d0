-- Where a text that is a value is read to, the rest of its events come next.
use Rattle.std.proofs.Common.{◌≡◌, ℕ, suc, false, List, [], ◌∷◌, ◌++◌, nat_lt, length, ap, sym, ◌∙◌, subst, refl, append_assoc, inl, arith}
use Rattle.format_json.specs.Language.{after_blanks}
use Rattle.format_json.specs.Documents.{IsDocument}
use Rattle.format_json.specs.SameValues.{SameAll}
use Rattle.format_json.specs.Tokens.{TokenAhead}
use Rattle.format_json.specs.Reading.{AreTokens}
use Rattle.format_json_events.specs.Turns.{TextState, at_begin, inner_of, turn_of, turn_at, after_turn, turn_events}
use Rattle.format_json_events.specs.Reading.{IsAllowed, Takes}
use Rattle.format_json_events.specs.ValueEvents.{events_of, SameEvent}
use Rattle.format_json.specs.declared.tokens.Token.{Token}
use Rattle.format_json.specs.declared.tokens.Token.TheVariants as token
use Rattle.format_json_events.specs.declared.event_reader.Event.{Event}
use Rattle.format_json_events.specs.declared.turns.Expected.TheVariants as expect
use Rattle.format_json_events.specs.declared.turns.Turn.TheVariants.{Ends}
use Rattle.format_json.specs.declared.value.Value.{Value}
use Rattle.format_json_events.proofs.lemmas.AllowedTokenLemmas.{end-token}
use Rattle.format_json.proofs.lemmas.JsonTokenLemmas.{token-once}
use Rattle.format_json_events.proofs.lemmas.SameTurnLemmas.{same-events, same-append, turns-same}
use Rattle.format_json_events.proofs.lemmas.ValueTurnLemmas.{Runs, value-runs}

-- from there on, tokens stand in the bytes that may come next, which have these events, and then
-- the end of the text does
pub record Leads (s : TextState) (bytes : List ℕ) (events : List Event) : Type 0 where
  pub last : TextState
  pub rest : List ℕ
  pub runs : Runs s bytes events last rest
  pub none : after_blanks rest ≡ []
  pub end : last.expected ≡ expect.End

-- a text that is a value leads to its events
pub document-leads : (depth : ℕ) (text : List ℕ) (value : Value) → IsDocument depth text value
    → Leads (at_begin depth) text (events_of value)
document-leads depth text value (rest, (h, none)) = record {
  last = _;
  rest = rest;
  runs = value-runs (suc depth) value (at_begin depth) (inl refl) (omega arith) text rest h;
  none = none;
  end = refl;
}

-- a token stands there, and what the events are then
pub record Goes (s : TextState) (t : Token) (rest : List ℕ) (events : List Event) : Type 0 where
  pub front : List Event
  pub left : List Event
  pub whole : events ≡ front ++ left
  pub same : SameAll SameEvent (turn_events (turn_at s t)) front
  pub allowed : IsAllowed (turn_at s t)
  pub leads : Leads (after_turn s (turn_at s t)) rest left

-- where the end is expected, it has no event
end-turn : (s : TextState) → s.expected ≡ expect.End → turn_at s token.End ≡ Ends
end-turn s e =
    ap (λ x. turn_of (nat_lt s.depth (length s.open_brackets)) (inner_of s.open_brackets) x token.End) e

-- it may come there
end-takes : (s : TextState) → s.expected ≡ expect.End → Takes s (token.End ∷ []) [] s
end-takes s e =
    subst (λ x. IsAllowed x × ((rest : List Event) × (([] ≡ turn_events x ++ rest) × Takes (after_turn s x) [] rest s))) (sym (end-turn s e))
    (tt, ([], (refl, (refl, refl))))

-- so what may come there does
ending-turn : (s : TextState) (t : Token) → s.expected ≡ expect.End → IsAllowed (turn_at s t)
    → turn_at s t ≡ Ends
ending-turn s t e may =
    let deep = nat_lt s.depth (length s.open_brackets) in
    let i = inner_of s.open_brackets in
    ap (turn_at s) (end-token deep i t (subst (λ x. IsAllowed (turn_of deep i x t)) e may)) ∙ end-turn s e

module _ (last : TextState) (end : last.expected ≡ expect.End) where
  -- one token of those that lead to an end
  token-goes : (s : TextState) (bytes rest : List ℕ) (events : List Event) (u : Token)
      (us : List Token)
      → AreTokens false (u ∷ us) bytes rest → Takes s (u ∷ us) events last → after_blanks rest ≡ []
      → (t : Token) (c : List ℕ) → TokenAhead false t bytes c → Goes s t c events
  token-goes s bytes rest events u us (d, (g, more)) (may, (left, (e, takes))) none t c h =
      let one = token-once false t u (after_blanks bytes) c d h g in
      let same = turns-same s t u one.0 in
      record {
        front = turn_events (turn_at s u);
        left = left;
        whole = e;
        same = same.events;
        allowed = same.allowed may;
        leads = record {
          last = last;
          rest = rest;
          runs = record {
            tokens = us;
            stand = subst (λ l. AreTokens false us l rest) (sym one.1) more;
            takes = subst (λ x. Takes x us left last) (sym (same.after s)) takes;
          };
          none = none;
          end = end;
        };
      }

  -- the token that stands there may come next, after one or more of them or at the end
  tokens-go : (s : TextState) (bytes rest : List ℕ) (events : List Event) (us : List Token)
      → AreTokens false us bytes rest → Takes s us events last → after_blanks rest ≡ []
      → (t : Token) (c : List ℕ) → TokenAhead false t bytes c → Goes s t c events
  tokens-go s bytes rest events [] same (empty, at) none t c h =
      let e : s.expected ≡ expect.End = ap (λ x. x.expected) (sym at) ∙ end in
      let takes = subst (λ l. Takes s (token.End ∷ []) l last) (sym empty) (subst (Takes s (token.End ∷ []) []) (sym at) (end-takes s e)) in
      let stand : AreTokens false (token.End ∷ []) bytes [] = ([], ((refl, ap after_blanks same ∙ none, refl), refl)) in
      token-goes s bytes [] events token.End [] stand takes refl t c h
  tokens-go s bytes rest events (u ∷ us) stand takes none t c h =
      token-goes s bytes rest events u us stand takes none t c h

  -- where the end is expected, they have no events
  ended-none : (s : TextState) (us : List Token) (events : List Event) → s.expected ≡ expect.End
      → Takes s us events last → events ≡ []
  ended-none s [] events e (none, at) = none
  ended-none s (u ∷ us) events e (may, (left, (is, takes))) =
      let ends = ending-turn s u e may in
      is ∙ ap (λ x. turn_events x ++ left) ends
      ∙ ended-none s us left e (subst (λ x. Takes (after_turn s x) us left last) ends takes)

module _ (s : TextState) (bytes : List ℕ) (events : List Event) (l : Leads s bytes events) where
  -- the token that stands there goes on
  pub goes-on : (t : Token) (c : List ℕ) → TokenAhead false t bytes c → Goes s t c events
  goes-on t c h =
      tokens-go l.last l.end s bytes l.rest events l.runs.tokens l.runs.stand l.runs.takes l.none t c h

  -- one does stand there
  pub one-stands : (t : Token) × ((c : List ℕ) × TokenAhead false t bytes c)
  one-stands = by l.runs.tokens l.runs.stand
    where
      by : (us : List Token) → AreTokens false us bytes l.rest
          → (t : Token) × ((c : List ℕ) × TokenAhead false t bytes c)
      by [] same = (token.End, ([], (refl, ap after_blanks same ∙ l.none, refl)))
      by (u ∷ us) (c, (h, more)) = (u, (c, h))

  -- where the end is expected, there are no more events
  pub none-left : s.expected ≡ expect.End → events ≡ []
  none-left e = ended-none l.last l.end s l.runs.tokens events e l.runs.takes

-- after tokens that have these events, the rest comes next
pub record Follows (s : TextState) (bytes : List ℕ) (events all : List Event) : Type 0 where
  pub left : List Event
  pub same : SameAll SameEvent (events ++ left) all
  pub leads : Leads s bytes left

-- tokens that stand there lead on
pub tokens-follow : (ts : List Token) (s t : TextState) (bytes rest : List ℕ)
    (events all : List Event)
    → AreTokens false ts bytes rest → Takes s ts events t → Leads s bytes all
    → Follows t rest events all
tokens-follow [] s t bytes rest events all same (none, at) l = record {
  left = all;
  same = subst (λ es. SameAll SameEvent (es ++ all) all) (sym none) (same-events all);
  leads = subst (λ x. Leads x rest all) (sym at) (subst (λ b. Leads s b all) same l);
}
tokens-follow (x ∷ ts) s t bytes rest events all (c, (h, more)) (may, (after, (is, takes))) l =
    let go = goes-on s bytes all l x c h in
    let f = tokens-follow ts (after_turn s (turn_at s x)) t c rest after go.left more takes go.leads in
    let front = turn_events (turn_at s x) in
    let split : events ++ f.left ≡ front ++ (after ++ f.left) =
    ap (λ es. es ++ f.left) is ∙ append_assoc front after f.left in
    record {
      left = f.left;
      same = subst (λ es. SameAll SameEvent es all) (sym split)
          (subst (SameAll SameEvent (front ++ (after ++ f.left))) (sym go.whole)
          (same-append SameEvent front go.front (after ++ f.left) go.left go.same f.same));
      leads = f.leads;
    }
