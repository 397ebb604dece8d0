-- The tokens of a value may come if a value is expected, and have its events.
use Rattle.std.proofs.Common.{◌≡◌, ℕ, zero, suc, ◌+◌, ◌-◌, ◌<◌, ◌≤◌, nat_lt, Bool, false, List, [], ◌∷◌, ◌++◌, ◌⊎◌, inl, inr, length, take, get_or, ap, sym, ◌∙◌, subst, refl, arith, append_assoc, append-nil, length-append}
use Rattle.std.specs.List.{flat_map}
use Rattle.std.specs.declared.string.String.{String}
use Rattle.std.specs.declared.alloc.Global.{Global}
use Rattle.std.proofs.Math.Seq.{take-append_seam, get_or-append_seam}
use Rattle.std.proofs.lemmas.Bool.{le-ltb}
use Rattle.std.proofs.lemmas.List.Folds.{flat_map-map}
use Rattle.std.proofs.lemmas.Option.{unwrap_or-slice_get}
use Rattle.format_json.specs.Language.{after_blanks, MemberAhead, Elements, Inside, Layer, Nested}
use Rattle.format_json_scalars.specs.NumberAnswers.{NumberHere}
use Rattle.format_json.specs.Tokens.{Digits, LexemeHere, TokenHere, TokenAhead}
use Rattle.format_json.specs.Reading.{AreTokens}
use Rattle.format_json_events.specs.Turns.{TextState, inner_of, after_value, first_in, opened, closed, expecting, turn_of, turn_at, after_turn, finish_of, turn_events}
use Rattle.format_json_events.specs.Reading.{IsAllowed, Takes}
use Rattle.format_json_events.specs.ValueEvents.{layer_events, member_events, events_of}
use Rattle.format_json_scalars.specs.declared.numbers.Number.{Number}
use Rattle.format_json.specs.declared.tokens.Token.{Token}
use Rattle.format_json.specs.declared.tokens.Token.TheVariants as token
use Rattle.format_json_events.specs.declared.event_reader.Event.{Event}
use Rattle.format_json_events.specs.declared.event_reader.Event.TheVariants as event
use Rattle.format_json_events.specs.declared.turns.Bracket.{Bracket}
use Rattle.format_json_events.specs.declared.turns.Bracket.TheVariants as bracket
use Rattle.format_json_events.specs.declared.turns.Expected.{Expected}
use Rattle.format_json_events.specs.declared.turns.Expected.TheVariants as expect
use Rattle.format_json_events.specs.declared.turns.Turn.{Turn}
use Rattle.format_json_events.specs.declared.turns.Turn.TheVariants.{Opens, Closes, Gives, Names, Passes}
use Rattle.format_json.specs.declared.value.Value.{Value, map-Value}
use Rattle.format_json.specs.declared.value.Value.TheOpen as open_value
use Rattle.format_json.specs.declared.value.Value.TheOpen.{Value-F, Null}
use Rattle.format_json.specs.declared.value.Value.TheViews.{out-Value}
use Rattle.format_json.specs.declared.value.Value.TheFolds.{fold_out-Value}

-- ---- Tokens in a row

-- the bytes begin with tokens that may come next, which have these events and lead there, and the
-- rest follows
pub record Runs (s : TextState) (bytes : List ℕ) (events : List Event) (t : TextState) (rest : List ℕ) : Type 0 where
  pub tokens : List Token
  pub stand : AreTokens false tokens bytes rest
  pub takes : Takes s tokens events t

-- tokens stand after tokens
tokens-on : (ts us : List Token) (b c r : List ℕ) → AreTokens false ts b c → AreTokens false us c r
    → AreTokens false (ts ++ us) b r
tokens-on [] us b c r same h = subst (λ l. AreTokens false us l r) (sym same) h
tokens-on (t ∷ ts) us b c r (after, (h, more)) g = (after, (h, tokens-on ts us after c r more g))

-- tokens are taken after tokens
takes-on : (s : TextState) (ts us : List Token) (es fs : List Event) (t u : TextState)
    → Takes s ts es t → Takes t us fs u → Takes s (ts ++ us) (es ++ fs) u
takes-on s [] us es fs t u (none, same) h =
    subst (λ l. Takes s us (l ++ fs) u) (sym none) (subst (λ x. Takes x us fs u) same h)
takes-on s (x ∷ ts) us es fs t u (may, (rest, (e, more))) h = (
  may,
  (
    rest ++ fs,
    (
      ap (λ l. l ++ fs) e ∙ append_assoc (turn_events (turn_at s x)) rest fs,
      takes-on (after_turn s (turn_at s x)) ts us rest fs t u more h,
    ),
  ),
)

module _ {s t : TextState} {b c : List ℕ} {es : List Event} where
  -- runs in a row
  pub runs-on : {u : TextState} {r : List ℕ} {fs : List Event} → Runs s b es t c → Runs t c fs u r
      → Runs s b (es ++ fs) u r
  runs-on {u} {r} {fs} h g = record {
    tokens = h.tokens ++ g.tokens;
    stand = tokens-on h.tokens g.tokens b c r h.stand g.stand;
    takes = takes-on s h.tokens g.tokens es fs t u h.takes g.takes;
  }

-- one token
pub runs-one : (s : TextState) (t : Token) (turn : Turn) (b r : List ℕ) → turn_at s t ≡ turn
    → IsAllowed turn → TokenAhead false t b r → Runs s b (turn_events turn) (after_turn s turn) r
runs-one s t turn b r is may h = record {
  tokens = t ∷ [];
  stand = (r, (h, refl));
  takes = subst (λ x. Takes s (t ∷ []) (turn_events x) (after_turn s x)) is
      (subst IsAllowed (sym is) may, ([], (sym (append-nil (turn_events (turn_at s t))), (refl, refl))));
}

-- ---- Inside brackets

-- where a text stands after a value
abbrev pub past : TextState → TextState
past s = expecting s (after_value s.open_brackets)

-- what comes after a comma
abbrev pub later_in : Bracket → Expected
later_in bracket.Array = expect.Value
later_in bracket.Object = expect.Key

-- the closing bracket, and its byte
abbrev pub closing : Bracket → Token
closing bracket.Array = token.EndArray
closing bracket.Object = token.EndObject

abbrev pub close_byte : Bracket → ℕ
close_byte bracket.Array = 93
close_byte bracket.Object = 125

-- the closing bracket stands where its byte does
close-here : (k : Bracket) (b r : List ℕ) → after_blanks b ≡ close_byte k ∷ r
    → TokenAhead false (closing k) b r
close-here bracket.Array b r e = e
close-here bracket.Object b r e = e

-- it may come first, or after a value
close-first : (deep : Bool) (i k : Bracket) → turn_of deep i (first_in k) (closing k) ≡ Closes k
close-first deep i bracket.Array = refl
close-first deep i bracket.Object = refl

close-next : (deep : Bool) (k : Bracket) → turn_of deep k expect.Next (closing k) ≡ Closes k
close-next deep bracket.Array = refl
close-next deep bracket.Object = refl

-- so may a comma after a value
pub comma-next : (deep : Bool) (k : Bracket)
    → turn_of deep k expect.Next token.Comma ≡ Passes (later_in k)
comma-next deep bracket.Array = refl
comma-next deep bracket.Object = refl

-- inside brackets something comes after a value
value-in : (open_brackets : List Bracket) (k : Bracket)
    → after_value (open_brackets ++ k ∷ []) ≡ expect.Next
value-in [] k = refl
value-in (j ∷ open_brackets) k = refl

module _ (s : TextState) (k : Bracket) where
  -- where a text stands in the bracket that begins there
  abbrev pub inside : Expected → TextState
  inside e = expecting (opened s k) e

  -- the number of brackets around it
  around : length (s.open_brackets ++ k ∷ []) - 1 ≡ length s.open_brackets
  around = let n = length-append s.open_brackets (k ∷ []) in omega (arith, n)

  -- that bracket is the innermost
  pub inner-is : inner_of (s.open_brackets ++ k ∷ []) ≡ k
  inner-is =
      let all = s.open_brackets ++ k ∷ [] in
      unwrap_or-slice_get all (length all - 1) bracket.Array
      ∙ ap (λ n. get_or all n bracket.Array) around ∙ get_or-append_seam s.open_brackets k [] bracket.Array

  -- where it ends, a value has
  closed-is : (e : Expected) → closed (inside e) ≡ past s
  closed-is e =
      let all = s.open_brackets ++ k ∷ [] in
      ap (λ l. record s { open_brackets = l; expected = after_value l })
      (ap (λ n. take n all) around ∙ take-append_seam s.open_brackets (k ∷ []))

  -- after a value in it
  past-is : (e : Expected) → past (inside e) ≡ inside expect.Next
  past-is e = ap inside (value-in s.open_brackets k)

  -- the closing bracket, where it may come
  close-runs : (e : Expected) → turn_at (inside e) (closing k) ≡ Closes k → (b r : List ℕ)
      → after_blanks b ≡ close_byte k ∷ r → Runs (inside e) b (finish_of k ∷ []) (past s) r
  close-runs e may b r h =
      subst (λ t. Runs (inside e) b (finish_of k ∷ []) t r) (closed-is e)
      (runs-one (inside e) (closing k) (Closes k) b r may tt (close-here k b r h))

  -- a turn after a value in it
  pub next-turn : (t : Token) (turn : Turn)
      → ((deep : Bool) → turn_of deep k expect.Next t ≡ turn) → turn_at (inside expect.Next) t ≡ turn
  next-turn t turn is =
      let deep = nat_lt s.depth (length (s.open_brackets ++ k ∷ [])) in
      ap (λ i. turn_of deep i expect.Next t) inner-is ∙ is deep

  -- where an element or a member may come
  abbrev pub IsItem : Expected → Type 0
  IsItem e = (e ≡ first_in k) ⊎ (e ≡ later_in k)

  module _ {T : Type 0} (inner : T → List ℕ → List ℕ → Type 0) (events : T → List Event) (each : (e : Expected) → IsItem e → (x : T) (b r : List ℕ) → inner x b r → Runs (inside e) b (events x) (inside expect.Next) r) where
    -- elements with commas between them, and the closing bracket
    elements-run : (x : T) (xs : List T) (e : Expected) → IsItem e → (b r : List ℕ)
        → Elements inner (close_byte k) (x ∷ xs) b r
        → Runs (inside e) b (flat_map events (x ∷ xs) ++ finish_of k ∷ []) (past s) r
    elements-run x [] e at b r (c, (h, is)) =
        subst (λ l. Runs (inside e) b (l ++ finish_of k ∷ []) (past s) r) (sym (append-nil (events x)))
        (runs-on (each e at x b c h) (close-runs expect.Next (next-turn (closing k) (Closes k) (λ deep. close-next deep k)) c r is))
    elements-run x (y ∷ ys) e at b r (c, (n, (h, is, more))) =
        let comma = runs-one (inside expect.Next) token.Comma (Passes (later_in k)) c n (next-turn token.Comma (Passes (later_in k)) (λ deep. comma-next deep k)) tt is in
        subst (λ l. Runs (inside e) b l (past s) r) (sym (append_assoc (events x) (flat_map events (y ∷ ys)) (finish_of k ∷ [])))
        (runs-on (each e at x b c h) (runs-on comma (elements-run y ys (later_in k) (inr refl) n r more)))

    -- what stands between brackets
    inside-runs : (xs : List T) (b r : List ℕ) → Inside inner (close_byte k) xs b r
        → Runs (inside (first_in k)) b (flat_map events xs ++ finish_of k ∷ []) (past s) r
    inside-runs [] b r is =
        close-runs (first_in k) (close-first (nat_lt s.depth (length (s.open_brackets ++ k ∷ []))) (inner_of (s.open_brackets ++ k ∷ [])) k) b r is
    inside-runs (x ∷ xs) b r h = elements-run x xs (first_in k) (inl refl) b r h

-- ---- Values

-- a value may come there
abbrev pub ExpectsValue : TextState → Type 0
ExpectsValue s = (s.expected ≡ expect.Value) ⊎ (s.expected ≡ expect.FirstValue)

-- it may stand there within fewer than `depth` more arrays and objects
abbrev pub HasRoom : TextState → ℕ → Type 0
HasRoom s depth = length s.open_brackets + depth ≤ suc s.depth

-- a token that begins a value, where one may come
pub value-begins : (s : TextState) (less : ℕ) → ExpectsValue s → HasRoom s (suc less)
    → (t : Token) (turn : Turn) → ((i : Bracket) → turn_of false i expect.Value t ≡ turn)
    → ((i : Bracket) → turn_of false i expect.FirstValue t ≡ turn) → turn_at s t ≡ turn
value-begins s less at room t turn value first =
    let i = inner_of s.open_brackets in
    let shallow = le-ltb s.depth (length s.open_brackets) (omega (arith, room)) in
    ap (λ deep. turn_of deep i s.expected t) shallow ∙ by at
  where
    by : ExpectsValue s → turn_of false (inner_of s.open_brackets) s.expected t ≡ turn
    by (inl e) =
        ap (λ x. turn_of false (inner_of s.open_brackets) x t) e ∙ value (inner_of s.open_brackets)
    by (inr e) =
        ap (λ x. turn_of false (inner_of s.open_brackets) x t) e ∙ first (inner_of s.open_brackets)

module _ (s : TextState) where
  -- an element may come where a value may
  pub array-place : (e : Expected) → IsItem s bracket.Array e
      → ExpectsValue (inside s bracket.Array e)
  array-place e (inl first) = inr first
  array-place e (inr later) = inl later

  -- the name of a member may come there, where its value does not stand too deep
  pub name-turn : length (s.open_brackets ++ bracket.Object ∷ []) ≤ s.depth → (e : Expected)
      → IsItem s bracket.Object e → (name : String Global)
      → turn_at (inside s bracket.Object e) (token.String name) ≡ Names name
  name-turn room e at name =
      let all = s.open_brackets ++ bracket.Object ∷ [] in
      ap (λ deep. turn_of deep (inner_of all) e (token.String name)) (le-ltb s.depth (length all) room)
      ∙ by (inner_of all) at
    where
      by : (i : Bracket) → IsItem s bracket.Object e
          → turn_of false i e (token.String name) ≡ Names name
      by i (inl is) = ap (λ x. turn_of false i x (token.String name)) is
      by i (inr is) = ap (λ x. turn_of false i x (token.String name)) is

-- a number that stands there is a token
number-here : (n : Number) (b r : List ℕ) → NumberHere false n b r
    → TokenHere false (token.Number n) b r
number-here n b r (text, (ahead, (is, reads))) =
    subst (λ l. LexemeHere false (Digits l n.integer) b r) (sym is) (ahead, reads)

-- a value stands within one array or object more at least, if it stands anywhere
abbrev HasDepth : (Value → List ℕ → List ℕ → Type 0) → ℕ → Type 0
HasDepth inner depth = (v : Value) (b r : List ℕ) → inner v b r → 0 < depth

-- so a value does that is nested to a depth
pub nested-depth : (depth : ℕ) → HasDepth (Nested false depth) depth
nested-depth zero v b r h = absurd h
nested-depth (suc depth) v b r h = omega arith

-- bytes that begin with a value begin with tokens that may come if a value is expected, and have
-- its events
abbrev ValueRuns : (Value → List ℕ → List ℕ → Type 0) → ℕ → Type 0
ValueRuns inner depth = (v : Value) (s : TextState) → ExpectsValue s → HasRoom s depth
    → (b r : List ℕ) → inner v b r → Runs s b (events_of v) (past s) r

module _ (inner : Value → List ℕ → List ℕ → Type 0) (depth : ℕ) (each : ValueRuns inner depth) (s : TextState) (room : HasRoom s (suc depth)) where
  -- inside one more bracket there is room for one less
  room-inside : (k : Bracket) (e : Expected) → HasRoom (inside s k e) depth
  room-inside k e = let n = length-append s.open_brackets (k ∷ []) in omega (arith, n, room)

  -- a value in the bracket
  pub value-inside : (k : Bracket) (e : Expected) → ExpectsValue (inside s k e)
      → (v : Value) (b r : List ℕ) → inner v b r
      → Runs (inside s k e) b (events_of v) (inside s k expect.Next) r
  value-inside k e at v b r h =
      subst (λ t. Runs (inside s k e) b (events_of v) t r) (past-is s k e)
      (each v (inside s k e) at (room-inside k e) b r h)

  -- a member of an object
  pub member-inside : HasDepth inner depth → (e : Expected) → IsItem s bracket.Object e
      → (m : String Global × Value) (b r : List ℕ) → MemberAhead inner m b r
      → Runs (inside s bracket.Object e) b (member_events (m.0, events_of m.1)) (inside s bracket.Object expect.Next) r
  member-inside some e at m b r (a, (n, (name, colon, h))) =
      let k = bracket.Object in
      let long = length-append s.open_brackets (k ∷ []) in
      let least = some m.1 n r h in
      let turn = name-turn s (omega (arith, long, room, least)) e at m.0 in
      let first = runs-one (inside s k e) (token.String m.0) (Names m.0) b a turn tt name in
      let second = runs-one (inside s k expect.Colon) token.Colon (Passes expect.Value) a n refl tt colon in
      runs-on first (runs-on second (value-inside k expect.Value (inl refl) m.1 n r h))

  module _ (at : ExpectsValue s) (b r : List ℕ) where
    -- a token that is a value
    scalar-runs : (t : Token) (e : Event)
        → ((i : Bracket) → turn_of false i expect.Value t ≡ Gives e)
        → ((i : Bracket) → turn_of false i expect.FirstValue t ≡ Gives e) → TokenAhead false t b r
        → Runs s b (e ∷ []) (past s) r
    scalar-runs t e value first h =
        runs-one s t (Gives e) b r (value-begins s depth at room t (Gives e) value first) tt h

    -- a layer of a value
    layer-runs : HasDepth inner depth → (x : Value-F Value)
        → Layer false inner x (after_blanks b) r
        → Runs s b (layer_events (map-Value Value (List Event) events_of x)) (past s) r
    layer-runs some Null h = scalar-runs token.Null event.Null (λ i. refl) (λ i. refl) h
    layer-runs some (open_value.Bool v) h =
        scalar-runs (token.Bool v) (event.Bool v) (λ i. refl) (λ i. refl) h
    layer-runs some (open_value.Number n) h =
        scalar-runs (token.Number n) (event.Number n) (λ i. refl) (λ i. refl) (number-here n (after_blanks b) r h)
    layer-runs some (open_value.String v) h =
        scalar-runs (token.String v) (event.String v) (λ i. refl) (λ i. refl) h
    layer-runs some (open_value.Array vs) (n, (is, h)) =
        let k = bracket.Array in
        let start = runs-one s token.StartArray (Opens k) b n (value-begins s depth at room token.StartArray (Opens k) (λ i. refl) (λ i. refl)) tt is in
        let same = flat_map-map (λ (l : List Event). l) events_of vs.items in
        subst (λ l. Runs s b (event.StartArray ∷ (l ++ event.EndArray ∷ [])) (past s) r) (sym same)
        (runs-on start (inside-runs s k inner events_of (λ e place v. value-inside k e (array-place s e place) v) vs.items n r h))
    layer-runs some (open_value.Object ms) (n, (is, h)) =
        let k = bracket.Object in
        let start = runs-one s token.StartObject (Opens k) b n (value-begins s depth at room token.StartObject (Opens k) (λ i. refl) (λ i. refl)) tt is in
        let same = flat_map-map member_events (λ m. (m.0, events_of m.1)) ms.items in
        subst (λ l. Runs s b (event.StartObject ∷ (l ++ event.EndObject ∷ [])) (past s) r) (sym same)
        (runs-on start (inside-runs s k (MemberAhead inner) (λ m. member_events (m.0, events_of m.1)) (member-inside some) ms.items n r h))

-- the tokens of a value have its events
pub value-runs : (depth : ℕ) → ValueRuns (Nested false depth) depth
value-runs zero v s at room b r h = absurd h
value-runs (suc depth) v s at room b r h =
    subst (λ l. Runs s b l (past s) r) (sym (fold_out-Value (List Event) layer_events v))
    (layer-runs (Nested false depth) depth (value-runs depth) s room at b r (nested-depth depth) (out-Value v) h)
