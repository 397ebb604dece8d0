-- Tokens that say the same do the same, and their events differ at most in where their bytes lie.
use Rattle.std.proofs.Common.{◌≡◌, ℕ, ℤ, Bool, true, false, if◌then◌else◌, ◌==◌, List, [], ◌∷◌, ◌++◌, Option, Some, None, ◌⊎◌, inl, inr, nat_lt, length, ap, sym, ◌∙◌, subst, refl}
use Rattle.std.proofs.lemmas.Option.{same_Some}
use Rattle.std.specs.String.{string_bytes}
use Rattle.std.specs.declared.string.String.{String}
use Rattle.std.specs.declared.alloc.Global.{Global}
use Rattle.format_json.specs.SameValues.{SameAll}
use Rattle.format_json.specs.Tokens.{Lexeme, Word, Digits, Quoted, Ending, lexeme_of}
use Rattle.format_json_events.specs.Turns.{TextState, inner_of, turn_of, turn_at, after_turn, turn_events}
use Rattle.format_json_events.specs.Reading.{IsAllowed}
use Rattle.format_json_events.specs.ValueEvents.{SameEvent}
use Rattle.format_json_scalars.specs.declared.numbers.Number.{Number}
use Rattle.format_json.specs.declared.tokens.Token.{Token}
use Rattle.format_json.specs.declared.tokens.Token.TheVariants as token
use Rattle.format_json_events.specs.declared.event_reader.Event.{Event}
use Rattle.format_json_events.specs.declared.event_reader.Event.TheVariants as event
use Rattle.format_json_events.specs.declared.turns.Bracket.{Bracket}
use Rattle.format_json_events.specs.declared.turns.Expected.{Expected}
use Rattle.format_json_events.specs.declared.turns.Expected.TheVariants as expect
use Rattle.format_json_events.specs.declared.turns.Turn.{Turn}
use Rattle.format_json_events.specs.declared.turns.Turn.TheVariants.{Gives, Names}

-- ---- Events

-- an event is the same as itself
same-event : (e : Event) → SameEvent e e
same-event event.StartArray = tt
same-event event.EndArray = tt
same-event event.StartObject = tt
same-event event.EndObject = tt
same-event (event.Key v) = refl
same-event event.Null = tt
same-event (event.Bool b) = refl
same-event (event.Number n) = (refl, refl)
same-event (event.String v) = refl

-- events in a row are the same as themselves
pub same-events : (es : List Event) → SameAll SameEvent es es
same-events [] = tt
same-events (e ∷ es) = (same-event e, same-events es)

-- the same in a row after the same are the same
pub same-append : {T : Type 0} (same : T → T → Type 0) (xs ys us vs : List T) → SameAll same xs ys
    → SameAll same us vs → SameAll same (xs ++ us) (ys ++ vs)
same-append same [] [] us vs h g = g
same-append same [] (y ∷ ys) us vs h g = absurd h
same-append same (x ∷ xs) [] us vs h g = absurd h
same-append same (x ∷ xs) (y ∷ ys) us vs (one, h) g = (one, same-append same xs ys us vs h g)

-- ---- Turns

-- the turns do the same, and their events are the same
pub record SameTurn (x y : Turn) : Type 0 where
  pub after : (s : TextState) → after_turn s x ≡ after_turn s y
  pub events : SameAll SameEvent (turn_events x) (turn_events y)
  pub allowed : IsAllowed y → IsAllowed x

-- a turn does the same as itself
same-self : (x : Turn) → SameTurn x x
same-self x = record { after = λ s. refl; events = same-events (turn_events x); allowed = λ a. a }

-- values do, where their events are the same
gives-same : (e f : Event) → SameEvent e f → SameTurn (Gives e) (Gives f)
gives-same e f same = record { after = λ s. refl; events = (same, tt); allowed = λ a. a }

-- names of the same bytes take the same turn
names-same : (v w : String Global) → string_bytes v ≡ string_bytes w → SameTurn (Names v) (Names w)
names-same v w same = record { after = λ s. refl; events = (same, tt); allowed = λ a. a }

-- ---- Tokens

-- the word with this first byte is a token
abbrev word_token : List ℕ → Token
word_token [] = token.End
word_token (c ∷ w) =
    if 91 == c then token.StartArray else (if 93 == c then token.EndArray
    else (if 123 == c then token.StartObject else (if 125 == c then token.EndObject
    else (if 44 == c then token.Comma else (if 58 == c then token.Colon
    else (if 110 == c then token.Null else (if 116 == c then token.Bool true
    else token.Bool false)))))))

-- the token of which that is said, but for a number and a string
abbrev plain_token : Lexeme → Option Token
plain_token (Word w) = Some (word_token w)
plain_token (Digits text integer) = None
plain_token (Quoted value) = None
plain_token Ending = Some token.End

-- that is the token, or there is none
plain-is : (t : Token) → (plain_token (lexeme_of t) ≡ Some t) ⊎ (plain_token (lexeme_of t) ≡ None)
plain-is token.StartArray = inl refl
plain-is token.EndArray = inl refl
plain-is token.StartObject = inl refl
plain-is token.EndObject = inl refl
plain-is token.Comma = inl refl
plain-is token.Colon = inl refl
plain-is token.Null = inl refl
plain-is (token.Bool true) = inl refl
plain-is (token.Bool false) = inl refl
plain-is (token.Number n) = inr refl
plain-is (token.String v) = inr refl
plain-is token.End = inl refl

-- a token that says the same as one that is neither a number nor a string is that one
plain-only : (t u : Token) → plain_token (lexeme_of t) ≡ Some t → lexeme_of t ≡ lexeme_of u → t ≡ u
plain-only t u is e = by (plain-is u)
  where
    by : (plain_token (lexeme_of u) ≡ Some u) ⊎ (plain_token (lexeme_of u) ≡ None) → t ≡ u
    by (inl so) = same_Some _ _ (sym is ∙ ap plain_token e ∙ so)
    by (inr none) = absurd (let z = sym is ∙ ap plain_token e ∙ none in cc z)

-- one that says the same as a number is a number
number-only : (u : Token) (text : List ℕ) (integer : Option ℤ) → Digits text integer ≡ lexeme_of u
    → (m : Number) × ((u ≡ token.Number m) × (text ≡ m.text.items) × (integer ≡ m.integer))
number-only token.StartArray text integer e = absurd (cc e)
number-only token.EndArray text integer e = absurd (cc e)
number-only token.StartObject text integer e = absurd (cc e)
number-only token.EndObject text integer e = absurd (cc e)
number-only token.Comma text integer e = absurd (cc e)
number-only token.Colon text integer e = absurd (cc e)
number-only token.Null text integer e = absurd (cc e)
number-only (token.Bool b) text integer e = absurd (cc e)
number-only (token.Number m) text integer e = (m, (refl, cc e, cc e))
number-only (token.String w) text integer e = absurd (cc e)
number-only token.End text integer e = absurd (cc e)

-- one that says the same as a string is a string
pub string-only : (u : Token) (value : List ℕ) → Quoted value ≡ lexeme_of u
    → (w : String Global) × ((u ≡ token.String w) × (value ≡ string_bytes w))
string-only token.StartArray value e = absurd (cc e)
string-only token.EndArray value e = absurd (cc e)
string-only token.StartObject value e = absurd (cc e)
string-only token.EndObject value e = absurd (cc e)
string-only token.Comma value e = absurd (cc e)
string-only token.Colon value e = absurd (cc e)
string-only token.Null value e = absurd (cc e)
string-only (token.Bool b) value e = absurd (cc e)
string-only (token.Number m) value e = absurd (cc e)
string-only (token.String w) value e = (w, (refl, cc e))
string-only token.End value e = absurd (cc e)

-- ---- What they do

-- numbers do the same
number-turn : (deep : Bool) (i : Bracket) (x : Expected) (n m : Number)
    → SameEvent (event.Number n) (event.Number m)
    → SameTurn (turn_of deep i x (token.Number n)) (turn_of deep i x (token.Number m))
number-turn true i expect.Value n m same = same-self _
number-turn false i expect.Value n m same = gives-same (event.Number n) (event.Number m) same
number-turn true i expect.FirstValue n m same = same-self _
number-turn false i expect.FirstValue n m same = gives-same (event.Number n) (event.Number m) same
number-turn deep i expect.FirstKey n m same = same-self _
number-turn deep i expect.Key n m same = same-self _
number-turn deep i expect.Colon n m same = same-self _
number-turn deep i expect.Next n m same = same-self _
number-turn deep i expect.End n m same = same-self _

-- strings of the same bytes take the same turn
string-turn : (deep : Bool) (i : Bracket) (x : Expected) (v w : String Global)
    → string_bytes v ≡ string_bytes w
    → SameTurn (turn_of deep i x (token.String v)) (turn_of deep i x (token.String w))
string-turn true i expect.Value v w same = same-self _
string-turn false i expect.Value v w same = gives-same (event.String v) (event.String w) same
string-turn true i expect.FirstValue v w same = same-self _
string-turn false i expect.FirstValue v w same = gives-same (event.String v) (event.String w) same
string-turn true i expect.FirstKey v w same = same-self _
string-turn false i expect.FirstKey v w same = names-same v w same
string-turn true i expect.Key v w same = same-self _
string-turn false i expect.Key v w same = names-same v w same
string-turn deep i expect.Colon v w same = same-self _
string-turn deep i expect.Next v w same = same-self _
string-turn deep i expect.End v w same = same-self _

module _ (deep : Bool) (i : Bracket) (x : Expected) where
  -- tokens of one lexeme that are neither number nor string take the same turn
  plain-turn : (t u : Token) → plain_token (lexeme_of t) ≡ Some t → lexeme_of t ≡ lexeme_of u
      → SameTurn (turn_of deep i x t) (turn_of deep i x u)
  plain-turn t u is e =
      subst (λ y. SameTurn (turn_of deep i x t) (turn_of deep i x y)) (plain-only t u is e) (same-self (turn_of deep i x t))

  -- tokens that say the same do
  token-turn : (t u : Token) → lexeme_of t ≡ lexeme_of u
      → SameTurn (turn_of deep i x t) (turn_of deep i x u)
  token-turn token.StartArray u e = plain-turn token.StartArray u refl e
  token-turn token.EndArray u e = plain-turn token.EndArray u refl e
  token-turn token.StartObject u e = plain-turn token.StartObject u refl e
  token-turn token.EndObject u e = plain-turn token.EndObject u refl e
  token-turn token.Comma u e = plain-turn token.Comma u refl e
  token-turn token.Colon u e = plain-turn token.Colon u refl e
  token-turn token.Null u e = plain-turn token.Null u refl e
  token-turn (token.Bool true) u e = plain-turn (token.Bool true) u refl e
  token-turn (token.Bool false) u e = plain-turn (token.Bool false) u refl e
  token-turn (token.Number n) u e =
      let o = number-only u n.text.items n.integer e in
      subst (λ y. SameTurn (turn_of deep i x (token.Number n)) (turn_of deep i x y)) (sym o.1.0) (number-turn deep i x n o.0 (o.1.1, o.1.2))
  token-turn (token.String v) u e =
      let o = string-only u (string_bytes v) e in
      subst (λ y. SameTurn (turn_of deep i x (token.String v)) (turn_of deep i x y)) (sym o.1.0) (string-turn deep i x v o.0 o.1.1)
  token-turn token.End u e = plain-turn token.End u refl e

-- where a text stands, tokens that say the same do the same
pub turns-same : (s : TextState) (t u : Token) → lexeme_of t ≡ lexeme_of u
    → SameTurn (turn_at s t) (turn_at s u)
turns-same s t u e =
    token-turn (nat_lt s.depth (length s.open_brackets)) (inner_of s.open_brackets) s.expected t u e
