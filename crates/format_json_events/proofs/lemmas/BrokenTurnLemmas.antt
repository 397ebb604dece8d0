-- Where a value breaks off, the text stops.
use Rattle.std.proofs.Common.{◌≡◌, ℕ, zero, suc, ◌+◌, ◌<◌, nat_lt, Bool, true, false, List, [], ◌∷◌, ◌++◌, ◌⊎◌, length, inl, inr, ap, sym, ◌∙◌, subst, refl, arith, length-append}
use Rattle.std.proofs.lemmas.Bool.{ltb-false, le-ltb}
use Rattle.std.specs.declared.string.String.{String}
use Rattle.std.specs.declared.alloc.Global.{Global}
use Rattle.format_lemmas.specs.Bytes.{StartsWith}
use Rattle.format_json.specs.Language.{after_blanks, MemberAhead, Layer, Nested, ValueAhead, ValueHere}
use Rattle.format_json_scalars.specs.StringAnswers.{StringHere}
use Rattle.format_json.specs.Damage.{NoneBegins, ByteIsMissing, EachWithComma, ElementBreaksOff, ElementsBreakOff, IsTooDeep, MemberBreaksOff, LayerBreaksOff, HereBreaksOff}
use Rattle.format_json.specs.Documents.{TextBreaksOff}
use Rattle.format_json.specs.Tokens.{TokenHere, TokenAhead}
use Rattle.format_json_events.specs.Turns.{TextState, at_begin, inner_of, first_in, takes_scalar, turn_of, turn_at}
use Rattle.format_json_events.specs.Reading.{IsAllowed}
use Rattle.format_json_events.specs.Stops.{Stops}
use Rattle.format_json_events.specs.ValueEvents.{member_events, events_of}
use Rattle.format_json.specs.declared.tokens.Token.{Token}
use Rattle.format_json.specs.declared.tokens.Token.TheVariants as token
use Rattle.format_json_events.specs.declared.event_reader.Event.{Event}
use Rattle.format_json_events.specs.declared.event_reader.Event.TheVariants as event
use Rattle.format_json_events.specs.declared.turns.Bracket.{Bracket}
use Rattle.format_json_events.specs.declared.turns.Bracket.TheVariants as bracket
use Rattle.format_json_events.specs.declared.turns.Expected.{Expected}
use Rattle.format_json_events.specs.declared.turns.Expected.TheVariants as expect
use Rattle.format_json_events.specs.declared.turns.Turn.TheVariants.{Opens, Passes, Names}
use Rattle.format_json.specs.declared.value.Value.TheVariants as value
use Rattle.format_json.proofs.lemmas.FoundLemmas.{none-here}
use Rattle.format_json.proofs.lemmas.LayerLemmas.{out-null, out-bool, out-number}
use Rattle.format_json_events.proofs.lemmas.ValueTurnLemmas.{Runs, runs-one, past, closing, close_byte, later_in, comma-next, inside, inner-is, next-turn, IsItem, ExpectsValue, HasRoom, value-begins, name-turn, array-place, value-inside, member-inside, nested-depth, value-runs}
use Rattle.format_json_events.proofs.lemmas.AllowedTokenLemmas.{StartsValue, value-allowed, first-allowed, key-allowed, first_key-allowed, colon-allowed, next-allowed, end-token}
use Rattle.format_json_events.proofs.lemmas.BarLemmas.{bar-open, open-bar}
use Rattle.format_json_events.proofs.lemmas.StopLemmas.{stop-here, stop-none, stop-runs}

-- ---- Where a value is expected

-- bytes begin with their first byte
pub starts-first : (n : ℕ) (b r : List ℕ) → b ≡ n ∷ r → StartsWith n b
starts-first n b r e = subst (StartsWith n) (sym e) refl

-- where the closing bracket may come first, it does not stand
abbrev Unclosed : Bracket → Expected → List ℕ → Type 0
Unclosed k e b = e ≡ first_in k → ¬ (StartsWith (close_byte k) (after_blanks b))

-- after a comma it may not come
later-unclosed : (k : Bracket) (b : List ℕ) → Unclosed k (later_in k) b
later-unclosed bracket.Array b e = absurd (cc e)
later-unclosed bracket.Object b e = absurd (cc e)

module _ (s : TextState) where
  -- a value would stand too deep
  abbrev deep_at : Bool
  deep_at = nat_lt s.depth (length s.open_brackets)

  -- where no array ends, a token that may come begins a value that is not too deep
  value-place : ExpectsValue s → (b c : List ℕ) → Unclosed bracket.Array s.expected b → (t : Token)
      → TokenAhead false t b c → IsAllowed (turn_at s t) → StartsValue t × (deep_at ≡ false)
  value-place (inl e) b c apart t h may =
      let i = inner_of s.open_brackets in
      value-allowed deep_at i t (subst (λ x. IsAllowed (turn_of deep_at i x t)) e may)
  value-place (inr e) b c apart t h may =
      let i = inner_of s.open_brackets in
      by (first-allowed deep_at i t (subst (λ x. IsAllowed (turn_of deep_at i x t)) e may))
    where
      by : (t ≡ token.EndArray) ⊎ (StartsValue t × (deep_at ≡ false))
          → StartsValue t × (deep_at ≡ false)
      by (inl is) =
          absurd (apart e (starts-first 93 (after_blanks b) c (subst (λ u. TokenAhead false u b c) is h)))
      by (inr x) = x

  -- a string may come there
  value-takes : ExpectsValue s → takes_scalar true s.expected ≡ true
  value-takes (inl e) = ap (takes_scalar true) e
  value-takes (inr e) = ap (takes_scalar true) e

  -- a text stops before a value that is too deep
  deep-stops : ExpectsValue s → s.depth < length s.open_brackets → (b r : List ℕ)
      → Unclosed bracket.Array s.expected b → r ≡ after_blanks b → Stops s b r
  deep-stops at deep b r apart same =
      stop-none s b r same
      (λ t c h may.
      let within = ltb-false s.depth (length s.open_brackets) (value-place at b c apart t h may).1 in
      omega (arith, deep, within))
      (λ free.
      let within = ltb-false s.depth (length s.open_brackets) (bar-open s true free).1 in
      absurd (omega (arith, deep, within)))

-- where no value begins, no token that begins one stands
none-begins : (b rest c : List ℕ) (t : Token) → NoneBegins false b rest → StartsValue t
    → ¬ (TokenHere false t b c)
none-begins b rest c token.StartArray none begins h = none.0.2 (starts-first 91 b c h)
none-begins b rest c token.EndArray none begins h = begins
none-begins b rest c token.StartObject none begins h = none.0.3 (starts-first 123 b c h)
none-begins b rest c token.EndObject none begins h = begins
none-begins b rest c token.Comma none begins h = begins
none-begins b rest c token.Colon none begins h = begins
none-begins b rest c token.Null none begins h =
    none-here (ValueHere false zero) false b none.1 value.Null c (subst (λ x. Layer false (Nested false zero) x b c) (sym out-null) h)
none-begins b rest c (token.Bool v) none begins h =
    none-here (ValueHere false zero) false b none.1 (value.Bool v) c (subst (λ x. Layer false (Nested false zero) x b c) (sym (out-bool v)) h)
none-begins b rest c (token.Number n) none begins (ahead, reads) =
    none-here (ValueHere false zero) false b none.1 (value.Number n) c (subst (λ x. Layer false (Nested false zero) x b c) (sym (out-number n)) (n.text.items, (ahead, (refl, reads))))
none-begins b rest c (token.String v) none begins (cs, ((text, (e, spells)), has)) =
    none.0.1 (starts-first 34 b (text ++ 34 ∷ c) e)
none-begins b rest c token.End none begins h = begins

-- ---- Where a member is expected

module _ (s : TextState) (e : Expected) (at : IsItem s bracket.Object e) where
  -- the state in an object, where a member is expected
  abbrev member_at : TextState
  member_at = inside s bracket.Object e

  -- where the object does not end, what may come is a name whose value is not too deep
  name-place : (b c : List ℕ) → Unclosed bracket.Object e b → (t : Token) → TokenAhead false t b c
      → IsAllowed (turn_at member_at t)
      → ((v : String Global) × (t ≡ token.String v)) × (deep_at member_at ≡ false)
  name-place b c apart t h may = of at
    where
      i : Bracket
      i = inner_of member_at.open_brackets

      first : e ≡ expect.FirstKey
          → ((t ≡ token.EndObject) ⊎ (((v : String Global) × (t ≡ token.String v)) × (deep_at member_at ≡ false)))
          → ((v : String Global) × (t ≡ token.String v)) × (deep_at member_at ≡ false)
      first is (inl end) =
          absurd (apart is (starts-first 125 (after_blanks b) c (subst (λ u. TokenAhead false u b c) end h)))
      first is (inr name) = name

      of : IsItem s bracket.Object e
          → ((v : String Global) × (t ≡ token.String v)) × (deep_at member_at ≡ false)
      of (inl is) =
          first is (first_key-allowed (deep_at member_at) i t (subst (λ x. IsAllowed (turn_of (deep_at member_at) i x t)) is may))
      of (inr is) =
          key-allowed (deep_at member_at) i t (subst (λ x. IsAllowed (turn_of (deep_at member_at) i x t)) is may)

  -- a string may come there
  name-takes : takes_scalar true e ≡ true
  name-takes = of at
    where
      of : IsItem s bracket.Object e → takes_scalar true e ≡ true
      of (inl is) = ap (takes_scalar true) is
      of (inr is) = ap (takes_scalar true) is

  -- a text stops before a name whose value is too deep
  name-deep : s.depth < length (s.open_brackets ++ bracket.Object ∷ []) → (b r : List ℕ)
      → Unclosed bracket.Object e b → r ≡ after_blanks b → Stops member_at b r
  name-deep deep b r apart same =
      let all = s.open_brackets ++ bracket.Object ∷ [] in
      stop-none member_at b r same
      (λ t c h may.
      let within = ltb-false s.depth (length all) (name-place b c apart t h may).1 in
      omega (arith, deep, within))
      (λ free.
      let within = ltb-false s.depth (length all) (bar-open member_at true free).1 in
      absurd (omega (arith, deep, within)))

  -- a text stops before a member without a name
  name-missing : (b r : List ℕ) → Unclosed bracket.Object e b → r ≡ after_blanks b
      → ¬ (StartsWith 34 (after_blanks b)) → Stops member_at b r
  name-missing b r apart same none =
      stop-none member_at b r same
      (λ t c h may. absurd (none (quoted c t h (name-place b c apart t h may).0))) (λ free. none)
    where
      named : (c : List ℕ) (v : String Global) → StringHere v (after_blanks b) c
          → StartsWith 34 (after_blanks b)
      named c v (cs, ((text, (is, spells)), has)) =
          starts-first 34 (after_blanks b) (text ++ 34 ∷ c) is

      quoted : (c : List ℕ) (t : Token) → TokenAhead false t b c
          → ((v : String Global) × (t ≡ token.String v)) → StartsWith 34 (after_blanks b)
      quoted c t h (v, is) = named c v (subst (λ u. TokenAhead false u b c) is h)

-- a text stops where the colon after a name is missing
colon-missing : (s : TextState) (b r : List ℕ) → ByteIsMissing 58 b r
    → Stops (inside s bracket.Object expect.Colon) b r
colon-missing s b r missing =
    let at = inside s bracket.Object expect.Colon in
    stop-none at b r missing.0
    (λ t c h may.
    let is = colon-allowed (deep_at at) (inner_of at.open_brackets) t may in
    let first = starts-first 58 (after_blanks b) c (subst (λ u. TokenAhead false u b c) is h) in
    missing.1 (subst (StartsWith 58) (sym missing.0) first))
    (λ free. absurd (let z = (bar-open at true free).0 in cc z))

-- ---- Elements

-- where the closing bracket stands, its byte does
closing-byte : (k : Bracket) (b c : List ℕ) → TokenAhead false (closing k) b c
    → after_blanks b ≡ close_byte k ∷ c
closing-byte bracket.Array b c h = h
closing-byte bracket.Object b c h = h

-- a text stops where neither a comma nor the closing bracket follows an element
next-missing : (s : TextState) (k : Bracket) (b r : List ℕ) → ByteIsMissing 44 b r
    → ByteIsMissing (close_byte k) b r → Stops (inside s k expect.Next) b r
next-missing s k b r comma close =
    let at = inside s k expect.Next in
    stop-none at b r comma.0
    (λ t c h may. by t c h (next-allowed (deep_at at) k t (subst (λ i. IsAllowed (turn_of (deep_at at) i expect.Next t)) (inner-is s k) may)))
    (λ free. absurd (let z = (bar-open at true free).0 in cc z))
  where
    by : (t : Token) (c : List ℕ) → TokenAhead false t b c
        → (t ≡ token.Comma) ⊎ (t ≡ closing k) → ⊥
    by t c h (inl is) =
        let first = starts-first 44 (after_blanks b) c (subst (λ u. TokenAhead false u b c) is h) in
        comma.1 (subst (StartsWith 44) (sym comma.0) first)
    by t c h (inr is) =
        let first = starts-first (close_byte k) (after_blanks b) c (closing-byte k b c (subst (λ u. TokenAhead false u b c) is h)) in
        close.1 (subst (StartsWith (close_byte k)) (sym close.0) first)

module _ (s : TextState) (k : Bracket) {T : Type 0} (inner : T → List ℕ → List ℕ → Type 0) (breaks : List ℕ → List ℕ → Type 0) (events : T → List Event) (each : (e : Expected) → IsItem s k e → (x : T) (b r : List ℕ) → inner x b r → Runs (inside s k e) b (events x) (inside s k expect.Next) r) (broken : (e : Expected) → IsItem s k e → (b r : List ℕ) → Unclosed k e b → breaks b r → Stops (inside s k e) b r) where
  -- a text stops where elements break off
  elements-broken : (vs : List T) (e : Expected) → IsItem s k e → (b n r : List ℕ)
      → Unclosed k e b → EachWithComma inner vs b n
      → ElementBreaksOff inner breaks (close_byte k) n r → Stops (inside s k e) b r
  elements-broken [] e at b n r apart same (inl h) =
      broken e at b r apart (subst (λ l. breaks l r) (sym same) h)
  elements-broken [] e at b n r apart same (inr (v, (a, (h, comma, close)))) =
      stop-runs r (each e at v b a (subst (λ l. inner v l a) (sym same) h)) (next-missing s k a r comma close)
  elements-broken (v ∷ vs) e at b n r apart (a, (m, (h, is, more))) stop =
      let turn = next-turn s k token.Comma (Passes (later_in k)) (λ deep. comma-next deep k) in
      stop-runs r (each e at v b a h)
      (stop-runs r (runs-one (inside s k expect.Next) token.Comma (Passes (later_in k)) a m turn tt is)
      (elements-broken vs (later_in k) (inr refl) m n r (later-unclosed k m) more stop))

-- ---- Values

-- a text stops where a value breaks off that stands within `d` more arrays and objects
abbrev Broken : ℕ → Type 0
Broken d = (b r : List ℕ) → HereBreaksOff false d (after_blanks b) r → (s : TextState)
    → ExpectsValue s → length s.open_brackets + d ≡ s.depth
    → Unclosed bracket.Array s.expected b → Stops s b r

module _ (s : TextState) (d : ℕ) (fits : length s.open_brackets + d ≡ s.depth) (at : ExpectsValue s) where
  -- so it does where a layer of one breaks off
  layer-broken : (elements members : List ℕ → List ℕ → Type 0) (b r : List ℕ)
      → Unclosed bracket.Array s.expected b
      → ((n r : List ℕ) → ¬ (StartsWith 93 (after_blanks n)) → elements n r
      → Stops (inside s bracket.Array expect.FirstValue) n r)
      → ((n r : List ℕ) → ¬ (StartsWith 125 (after_blanks n)) → members n r
      → Stops (inside s bracket.Object expect.FirstKey) n r)
      → LayerBreaksOff false elements members (after_blanks b) r → Stops s b r
  layer-broken elements members b r apart arrays objects (inl none) =
      stop-none s b r none.0.0
      (λ t c h may. none-begins (after_blanks b) r c t none (value-place s at b c apart t h may).0 h)
      (λ free. none.0.1)
  layer-broken elements members b r apart arrays objects (inr (inl damaged)) =
      let shallow = le-ltb s.depth (length s.open_brackets) (omega (arith, fits)) in
      stop-here s b r (inl (open-bar s true (value-takes s at) shallow, damaged))
  layer-broken elements members b r apart arrays objects (inr (inr (inl (n, (is, wide, h))))) =
      let turn = value-begins s d at (omega (arith, fits)) token.StartArray (Opens bracket.Array) (λ i. refl) (λ i. refl) in
      stop-runs r (runs-one s token.StartArray (Opens bracket.Array) b n turn tt is) (arrays n r wide h)
  layer-broken elements members b r apart arrays objects (inr (inr (inr (n, (is, wide, h))))) =
      let turn = value-begins s d at (omega (arith, fits)) token.StartObject (Opens bracket.Object) (λ i. refl) (λ i. refl) in
      stop-runs r (runs-one s token.StartObject (Opens bracket.Object) b n turn tt is) (objects n r wide h)

module _ (s : TextState) (fits : length s.open_brackets + 0 ≡ s.depth) where
  -- what stands inside brackets there is too deep
  below : (k : Bracket) → s.depth < length (s.open_brackets ++ k ∷ [])
  below k = let n = length-append s.open_brackets (k ∷ []) in omega (arith, n, fits)

  -- a text stops inside an array there
  deep-array : (n r : List ℕ) → ¬ (StartsWith 93 (after_blanks n)) → r ≡ after_blanks n
      → Stops (inside s bracket.Array expect.FirstValue) n r
  deep-array n r wide same =
      deep-stops (inside s bracket.Array expect.FirstValue) (inr refl) (below bracket.Array) n r (λ e. wide) same

  -- and inside an object
  deep-object : (n r : List ℕ) → ¬ (StartsWith 125 (after_blanks n)) → r ≡ after_blanks n
      → Stops (inside s bracket.Object expect.FirstKey) n r
  deep-object n r wide same =
      name-deep s expect.FirstKey (inl refl) (below bracket.Object) n r (λ e. wide) same

module _ (s : TextState) (d : ℕ) (fits : length s.open_brackets + suc d ≡ s.depth) (broken : Broken d) where
  -- a value inside brackets is one bracket deeper
  inside-fits : (k : Bracket) → length (s.open_brackets ++ k ∷ []) + d ≡ s.depth
  inside-fits k = let n = length-append s.open_brackets (k ∷ []) in omega (arith, n, fits)

  -- there is room for it
  room : HasRoom s (suc (suc d))
  room = omega (arith, fits)

  -- a name that stands where a member may come
  name-runs : (e : Expected) → IsItem s bracket.Object e → (b a : List ℕ) (name : String Global)
      → StringHere name (after_blanks b) a
      → Runs (inside s bracket.Object e) b (event.Key name ∷ []) (inside s bracket.Object expect.Colon) a
  name-runs e at b a name named =
      let long = inside-fits bracket.Object in
      runs-one (inside s bracket.Object e) (token.String name) (Names name) b a (name-turn s (omega (arith, long)) e at name) tt named

  -- a text stops where a member breaks off
  member-broken : (e : Expected) → IsItem s bracket.Object e → (b r : List ℕ)
      → Unclosed bracket.Object e b
      → MemberBreaksOff false (λ b. HereBreaksOff false d (after_blanks b)) b r
      → Stops (inside s bracket.Object e) b r
  member-broken e at b r apart (inl (inl (same, none))) = name-missing s e at b r apart same none
  member-broken e at b r apart (inl (inr damaged)) =
      let here = inside s bracket.Object e in
      let long = inside-fits bracket.Object in
      let shallow = le-ltb s.depth (length (s.open_brackets ++ bracket.Object ∷ [])) (omega (arith, long)) in
      stop-here here b r (inl (open-bar here true (name-takes s e at) shallow, damaged))
  member-broken e at b r apart (inr (name, (a, (named, inl missing)))) =
      stop-runs r (name-runs e at b a name named) (colon-missing s a r missing)
  member-broken e at b r apart (inr (name, (a, (named, inr (n, (colon, h)))))) =
      let value = broken n r h (inside s bracket.Object expect.Value) (inl refl) (inside-fits bracket.Object) (later-unclosed bracket.Array n) in
      let mark = runs-one (inside s bracket.Object expect.Colon) token.Colon (Passes expect.Value) a n refl tt colon in
      stop-runs r (name-runs e at b a name named) (stop-runs r mark value)

  -- where an element of an array does
  array-broken : (n r : List ℕ) → ¬ (StartsWith 93 (after_blanks n))
      → ElementsBreakOff (ValueAhead false d) (λ b. HereBreaksOff false d (after_blanks b)) 93 n r
      → Stops (inside s bracket.Array expect.FirstValue) n r
  array-broken n r wide (vs, (m, (commas, stop))) =
      elements-broken s bracket.Array (ValueAhead false d) (λ b. HereBreaksOff false d (after_blanks b)) events_of
      (λ e place v. value-inside (Nested false (suc d)) (suc d) (value-runs (suc d)) s room bracket.Array e (array-place s e place) v)
      (λ e place b q apart h. broken b q h (inside s bracket.Array e) (array-place s e place) (inside-fits bracket.Array) apart)
      vs expect.FirstValue (inl refl) n m r (λ e. wide) commas stop

  -- a text stops at the member of an object that breaks off
  object-broken : (n r : List ℕ) → ¬ (StartsWith 125 (after_blanks n))
      → ElementsBreakOff (MemberAhead (ValueAhead false d))
      (MemberBreaksOff false (λ b. HereBreaksOff false d (after_blanks b))) 125 n r
      → Stops (inside s bracket.Object expect.FirstKey) n r
  object-broken n r wide (ms, (m, (commas, stop))) =
      elements-broken s bracket.Object (MemberAhead (ValueAhead false d)) (MemberBreaksOff false (λ b. HereBreaksOff false d (after_blanks b))) (λ m. member_events (m.0, events_of m.1))
      (member-inside (Nested false (suc d)) (suc d) (value-runs (suc d)) s room (nested-depth (suc d)))
      member-broken ms expect.FirstKey (inl refl) n m r (λ e. wide) commas stop

-- a text stops where a value breaks off
pub broken-value : (d : ℕ) → Broken d
broken-value zero b r h s at fits apart =
    layer-broken s zero fits at IsTooDeep IsTooDeep b r apart (deep-array s fits) (deep-object s fits) h
broken-value (suc d) b r h s at fits apart =
    let broken = broken-value d in
    layer-broken s (suc d) fits at
    (ElementsBreakOff (ValueAhead false d) (λ b. HereBreaksOff false d (after_blanks b)) 93)
    (ElementsBreakOff (MemberAhead (ValueAhead false d)) (MemberBreaksOff false (λ b. HereBreaksOff false d (after_blanks b))) 125)
    b r apart (array-broken s d fits broken) (object-broken s d fits broken) h

-- a text stops where it breaks off
pub text-broken : (depth : ℕ) (text r : List ℕ) → TextBreaksOff depth text r
    → Stops (at_begin depth) text r
text-broken depth text r (inl h) =
    broken-value depth text r h (at_begin depth) (inl refl) (omega arith) (later-unclosed bracket.Array text)
text-broken depth text r (inr (v, (a, (h, same, some)))) =
    stop-runs r (value-runs (suc depth) v (at_begin depth) (inl refl) (omega arith) text a h)
    (stop-none at a r same ended (λ free. absurd (let z = (bar-open at true free).0 in cc z)))
  where
    at : TextState
    at = past (at_begin depth)

    ended : (t : Token) (c : List ℕ) → TokenAhead false t a c → ¬ (IsAllowed (turn_at at t))
    ended t c h may =
        let is = end-token (deep_at at) (inner_of at.open_brackets) t may in
        some (same ∙ (subst (λ u. TokenAhead false u a c) is h).1)
