-- What a reader gives of a text that is a value are the value's events, and it finds no damage.
use Rattle.std.proofs.Common.{◌≡◌, ℕ, true, false, List, [], ◌∷◌, ◌++◌, drop, Some, None, ◌⊎◌, inl, inr, ap, sym, ◌∙◌, subst, refl, append-nil}
use Rattle.std.specs.Prelude.{Ok, Err}
use Rattle.winnow_reader.specs.State.{ReaderState}
use Rattle.winnow_reader.specs.Reading.{MayFollow, Lacks}
use Rattle.winnow_reader.specs.declared.next.Next.TheVariants.{NeedsMore}
use Rattle.format_json.specs.Language.{after_blanks}
use Rattle.format_json.specs.Documents.{IsDocument, IsDamage}
use Rattle.format_json.specs.Tokens.{TokenHere}
use Rattle.format_json.specs.TokenAnswers.{OneToken}
use Rattle.format_json.specs.Reading.{AreTokens, FindsDamage}
use Rattle.format_json_events.specs.Blanks.{HasTaken}
use Rattle.format_json_events.specs.Turns.{TextState, at_begin, turn_at}
use Rattle.format_json_events.specs.Reading.{IsAllowed, Takes, EventState, HasGiven, GivesOn, KeepsLimits, Brings, BringsEnd, IsNoNext, IsMisplaced, IsWhole, IsNext}
use Rattle.format_json_events.specs.ValueEvents.{events_of, ReadsValue, AreFirstOf, AreAllOf, IsRefusal}
use Rattle.format_json.specs.declared.tokens.Token.{Token}
use Rattle.format_json.specs.declared.tokens.Token.TheVariants as token
use Rattle.format_json.specs.declared.reading.JsonToken.{JsonToken}
use Rattle.format_json.specs.declared.reading.Damage.{Damage}
use Rattle.format_json_events.specs.declared.event_reader.Event.{Event}
use Rattle.format_json_events.specs.declared.event_reader.EventError.{EventError}
use Rattle.format_json_events.specs.declared.event_reader.EventError.TheVariants as error
use Rattle.format_json.specs.declared.value.Value.{Value}
use Rattle.format_json.proofs.lemmas.JsonTokenLemmas.{damage-none}
use Rattle.format_json_events.proofs.lemmas.DroppedLemmas.{taken-tokens, taken-after}
use Rattle.format_json_events.proofs.lemmas.WaitLemmas.{waits-ended, waits-lacks}
use Rattle.format_json_events.proofs.lemmas.StopLemmas.{stops-none}
use Rattle.format_json_events.proofs.lemmas.BrokenTurnLemmas.{text-broken}
use Rattle.format_json_events.proofs.lemmas.LeadingLemmas.{Follows, document-leads, goes-on, one-stands, none-left, tokens-follow}

-- ---- Tokens in a row

-- where tokens stand after tokens, these end somewhere
split-tokens : (ts us : List Token) (b r : List ℕ) → AreTokens false (ts ++ us) b r
    → (c : List ℕ) × (AreTokens false ts b c × AreTokens false us c r)
split-tokens [] us b r h = (b, (refl, h))
split-tokens (t ∷ ts) us b r (a, (h, more)) =
    let rest = split-tokens ts us a r more in (rest.0, ((a, (h, rest.1.0)), rest.1.1))

-- a reader took tokens that have these events, and others; after the former the rest of all the
-- events comes next
record Led (f : ReaderState JsonToken) (more : List ℕ) (others : List Token) (t : TextState) (events all : List Event) : Type 0 where
  place : List ℕ
  follows : Follows t place events all
  left : List ℕ
  stand : AreTokens false others place left
  same : after_blanks left ≡ after_blanks (f.ahead ++ more)

-- a reader of a text that is a value did
tokens-led : (f : ReaderState JsonToken) (depth : ℕ) (input more : List ℕ) (value : Value)
    → IsDocument depth (input ++ more) value → MayFollow f.ended more false
    → (taken others : List Token) (events : List Event) (t : TextState)
    → HasTaken f input (taken ++ others) → Takes (at_begin depth) taken events t
    → Led f more others t events (events_of value)
tokens-led f depth input more value is may taken others events t read takes =
    let left = read.blanks ++ (f.ahead ++ more) in
    let cut = split-tokens taken others (input ++ more) left (taken-tokens f input (taken ++ others) read more may) in
    record {
      place = cut.0;
      follows = tokens-follow taken (at_begin depth) t (input ++ more) cut.0 events (events_of value) cut.1.0 takes (document-leads depth (input ++ more) value is);
      left = left;
      stand = cut.1.1;
      same = taken-after f input (taken ++ others) read more;
    }

-- ---- A reader of a value

module _ (r : EventState) (input : List ℕ) (events : List Event) (value : Value) (h : ReadsValue r input events value) where
  -- it read the first tokens of the value
  value-led : Led r.tokens h.more h.given.others r.text events (events_of value)
  value-led =
      tokens-led r.tokens r.text.depth input h.more value h.whole h.may h.given.taken h.given.others events r.text h.given.read h.given.takes

  -- so it gave the first events
  pub value-first : AreFirstOf events value
  value-first = (value-led.follows.left, value-led.follows.same)

  -- and all where the text is whole
  pub value-whole : IsWhole r → AreAllOf events value
  value-whole (through, end) =
      let f = value-led.follows in
      let none = none-left r.text value-led.place f.left f.leads end in
      subst (λ es. AreAllOf es value) (append-nil events) (subst (λ es. AreAllOf (events ++ es) value) none f.same)

  -- it still reads the value after more events
  pub value-goes_on : (given : List Event) (new : EventState) → GivesOn r given new
      → KeepsLimits r new → ReadsValue new input (events ++ given) value
  value-goes_on given new gives keeps = record {
    given = gives input events h.given;
    more = h.more;
    may = subst (λ e. MayFollow e h.more false) (sym keeps.1) h.may;
    whole = subst (λ d. IsDocument d (input ++ h.more) value) (sym keeps.0) h.whole;
  }

  module _ (going : r.stopped ≡ None) where
    -- no damage is ahead
    no-damage : (place : ℕ) → ¬ (FindsDamage r.tokens place)
    no-damage place (rest, (at, wrong)) =
        let l = value-led in
        let stand = subst (λ us. AreTokens false us l.place l.left) (h.given.going going) l.stand in
        let one = one-stands r.text l.place l.follows.left l.follows.leads in
        damage-none false (after_blanks (r.tokens.ahead ++ h.more)) one.0 one.1.0 (rest ++ h.more) (wrong h.more h.may)
        (subst (λ b. TokenHere false one.0 b one.1.0) (ap after_blanks stand ∙ l.same) one.1.1)

    -- so the reader fails for want of memory alone
    undamaged : (e : EventError) → IsNoNext r.text r.tokens e → IsRefusal e
    undamaged (error.Damaged place cause) (damage, cut, is, free) = no-damage place damage
    undamaged (error.Unexpected place) (same, bar, (at, damage)) = no-damage at damage
    undamaged (error.TooDeep place) (same, bar, (at, damage)) = no-damage at damage
    undamaged (error.EndsEarly place) (end, (at, (damage, cut)), free) = no-damage at damage
    undamaged (error.Refused why) none = tt

    -- a token that is read may stand there
    brought-allowed : (f : ReaderState JsonToken) (t : Token) → Brings r.tokens t f
        → IsAllowed (turn_at r.text t)
    brought-allowed f t b =
        let taken = h.given.taken in
        let read = subst (λ us. HasTaken f input (us ++ t ∷ [])) (ap (λ us. taken ++ us) (h.given.going going) ∙ append-nil taken) (b.read input (taken ++ h.given.others) h.given.read) in
        let may = subst (λ e. MayFollow e h.more false) (sym b.ended) h.may in
        let l = tokens-led f r.text.depth input h.more value h.whole may taken (t ∷ []) events r.text read h.given.takes in
        (goes-on r.text l.place l.follows.left l.follows.leads t l.stand.0 l.stand.1.0).allowed

    -- so may the end
    end-allowed : (f : ReaderState JsonToken) → BringsEnd r.tokens f
        → IsAllowed (turn_at r.text token.End)
    end-allowed f (through, inl b) = brought-allowed f token.End b
    end-allowed f (through, inr same) =
        let l = value-led in
        let ended : r.tokens.ended ≡ true = ap (λ g. g.ended) (sym same) ∙ through.0 in
        let none = (subst (λ e. MayFollow e h.more false) ended h.may).0 in
        let ahead : r.tokens.ahead ++ h.more ≡ [] =
        ap (λ b. b ++ h.more) (ap (λ g. g.ahead) (sym same) ∙ through.1) ∙ none in
        let place : l.place ≡ l.left =
        subst (λ us. AreTokens false us l.place l.left) (h.given.going going) l.stand in
        (goes-on r.text l.place l.follows.left l.follows.leads token.End [] (refl, ap after_blanks place ∙ l.same ∙ ap after_blanks ahead, refl)).allowed

    -- none is misplaced
    placed : (e : EventError) (new : EventState) → ¬ (IsMisplaced r e new)
    placed e new (t, (m, (turn, is, inl b))) =
        subst IsAllowed turn (brought-allowed new.tokens t b)
    placed e new (t, (m, (turn, is, inr (end, b)))) =
        subst IsAllowed (ap (turn_at r.text) (sym end) ∙ turn) (end-allowed new.tokens b)

-- a reader of a value fails only where memory is refused
pub value-sound : (r new : EventState) (input : List ℕ) (events : List Event) (value : Value)
    (e : EventError) → ReadsValue r input events value → IsNext r (Err e) new → IsRefusal e
value-sound r new input events value e h (q, ((gives, going, keeps), step)) =
    by (value-goes_on r input events value h [] q gives keeps) step
  where
    by : ReadsValue q input (events ++ []) value
        → (((new ≡ q) × IsNoNext q.text q.tokens e)
        ⊎ ((new.text ≡ q.text) × (new.stopped ≡ Some e) × IsMisplaced q e new)) → IsRefusal e
    by l (inl (same, none)) = undamaged q input (events ++ []) value l going e none
    by l (inr (text, stopped, wrong)) = absurd (placed q input (events ++ []) value l going e new wrong)

-- a reader that read a whole text found none that breaks off
pub whole-unbroken : (r : EventState) (input : List ℕ) (events : List Event) (damage : Damage)
    → HasGiven r input events → r.stopped ≡ None → IsWhole r
    → ¬ (IsDamage r.text.depth input damage)
whole-unbroken r input events damage g going ((ended, none), end) (within, never, breaks) =
    let may = subst (λ e. MayFollow e [] false) (sym ended) (refl, refl) in
    let left = g.read.blanks ++ (r.tokens.ahead ++ []) in
    let read = taken-tokens r.tokens input (g.taken ++ g.others) g.read [] may in
    let taken = ap (λ us. g.taken ++ us) (g.going going) ∙ append-nil g.taken in
    let stand = subst (λ ts. AreTokens false ts (input ++ []) left) taken read in
    let after = taken-after r.tokens input (g.taken ++ g.others) g.read [] in
    let stops = text-broken r.text.depth input (drop damage.offset input) breaks in
    stops-none (at_begin r.text.depth) input (drop damage.offset input) stops events (record {
      last = r.text;
      rest = left;
      runs = record {
        tokens = g.taken;
        stand = subst (λ b. AreTokens false g.taken b left) (append-nil input) stand;
        takes = g.takes;
      };
      none = after ∙ ap (λ b. after_blanks (b ++ [])) none;
      end = end;
    })

-- a reader that needs more has not stopped, its input goes on, and the record of the next token
-- asked for more than came since
pub needs-waits : (r new : EventState) (input : List ℕ) (events : List Event)
    → HasGiven r input events → IsNext r (Ok NeedsMore) new
    → (new.tokens.ended ≡ false) × (new.stopped ≡ None) × Lacks (λ p. OneToken) new.tokens
needs-waits r new input events given (q, (passed, (going, stays, (goes, lacks)))) =
    let read = (passed.0 input events given).read in (
      waits-ended q.tokens new.tokens stays.1 ∙ goes,
      going,
      waits-lacks q.tokens new.tokens stays.1 (lacks input _ read),
    )
