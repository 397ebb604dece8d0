-- Which tokens may come where something is expected.
use Rattle.std.proofs.Common.{◌≡◌, Bool, true, false, ◌⊎◌, inl, inr, refl}
use Rattle.std.specs.Prelude.{⊤}
use Rattle.std.specs.declared.string.String.{String}
use Rattle.std.specs.declared.alloc.Global.{Global}
use Rattle.format_json_events.specs.Turns.{within, next_turn, turn_of}
use Rattle.format_json_events.specs.Reading.{IsAllowed}
use Rattle.format_json.specs.declared.tokens.Token.{Token}
use Rattle.format_json.specs.declared.tokens.Token.TheVariants as token
use Rattle.format_json_events.specs.declared.turns.Bracket.{Bracket}
use Rattle.format_json_events.specs.declared.turns.Bracket.TheVariants as bracket
use Rattle.format_json_events.specs.declared.turns.Expected.{Expected}
use Rattle.format_json_events.specs.declared.turns.Expected.TheVariants as expect
use Rattle.format_json_events.specs.declared.turns.Misplaced.TheVariants.{EndsEarly}
use Rattle.format_json_events.specs.declared.turns.Turn.{Turn}
use Rattle.format_json_events.specs.declared.turns.Turn.TheVariants.{Refuses}
use Rattle.format_json_events.proofs.lemmas.ValueTurnLemmas.{closing}

-- a value starts with the token
abbrev pub StartsValue : Token → Type 0
StartsValue token.StartArray = ⊤
StartsValue token.StartObject = ⊤
StartsValue token.Null = ⊤
StartsValue (token.Bool b) = ⊤
StartsValue (token.Number n) = ⊤
StartsValue (token.String v) = ⊤
StartsValue other = ⊥

-- a value begins only where it does not stand too deep
within-shallow : (deep : Bool) (x : Turn) → IsAllowed (within deep x) → deep ≡ false
within-shallow true x may = absurd may
within-shallow false x may = refl

module _ (deep : Bool) (i : Bracket) where
  -- where a value is expected, one begins
  pub value-allowed : (t : Token) → IsAllowed (turn_of deep i expect.Value t)
      → StartsValue t × (deep ≡ false)
  value-allowed token.StartArray may = (tt, within-shallow deep _ may)
  value-allowed token.EndArray may = absurd may
  value-allowed token.StartObject may = (tt, within-shallow deep _ may)
  value-allowed token.EndObject may = absurd may
  value-allowed token.Comma may = absurd may
  value-allowed token.Colon may = absurd may
  value-allowed token.Null may = (tt, within-shallow deep _ may)
  value-allowed (token.Bool b) may = (tt, within-shallow deep _ may)
  value-allowed (token.Number n) may = (tt, within-shallow deep _ may)
  value-allowed (token.String v) may = (tt, within-shallow deep _ may)
  value-allowed token.End may = absurd may

  -- after the bracket of an array, one does or the array ends
  pub first-allowed : (t : Token) → IsAllowed (turn_of deep i expect.FirstValue t)
      → (t ≡ token.EndArray) ⊎ (StartsValue t × (deep ≡ false))
  first-allowed token.StartArray may = inr (value-allowed token.StartArray may)
  first-allowed token.EndArray may = inl refl
  first-allowed token.StartObject may = inr (value-allowed token.StartObject may)
  first-allowed token.EndObject may = absurd may
  first-allowed token.Comma may = absurd may
  first-allowed token.Colon may = absurd may
  first-allowed token.Null may = inr (value-allowed token.Null may)
  first-allowed (token.Bool b) may = inr (value-allowed (token.Bool b) may)
  first-allowed (token.Number n) may = inr (value-allowed (token.Number n) may)
  first-allowed (token.String v) may = inr (value-allowed (token.String v) may)
  first-allowed token.End may = absurd may

  -- where a name is expected, a string stands, and the value after it is not too deep
  pub key-allowed : (t : Token) → IsAllowed (turn_of deep i expect.Key t)
      → ((v : String Global) × (t ≡ token.String v)) × (deep ≡ false)
  key-allowed token.StartArray may = absurd may
  key-allowed token.EndArray may = absurd may
  key-allowed token.StartObject may = absurd may
  key-allowed token.EndObject may = absurd may
  key-allowed token.Comma may = absurd may
  key-allowed token.Colon may = absurd may
  key-allowed token.Null may = absurd may
  key-allowed (token.Bool b) may = absurd may
  key-allowed (token.Number n) may = absurd may
  key-allowed (token.String v) may = ((v, refl), within-shallow deep _ may)
  key-allowed token.End may = absurd may

  -- after the bracket of an object, one does or the object ends
  pub first_key-allowed : (t : Token) → IsAllowed (turn_of deep i expect.FirstKey t)
      → (t ≡ token.EndObject) ⊎ (((v : String Global) × (t ≡ token.String v)) × (deep ≡ false))
  first_key-allowed token.StartArray may = absurd may
  first_key-allowed token.EndArray may = absurd may
  first_key-allowed token.StartObject may = absurd may
  first_key-allowed token.EndObject may = inl refl
  first_key-allowed token.Comma may = absurd may
  first_key-allowed token.Colon may = absurd may
  first_key-allowed token.Null may = absurd may
  first_key-allowed (token.Bool b) may = absurd may
  first_key-allowed (token.Number n) may = absurd may
  first_key-allowed (token.String v) may = inr (key-allowed (token.String v) may)
  first_key-allowed token.End may = absurd may

  -- after a name a colon does
  pub colon-allowed : (t : Token) → IsAllowed (turn_of deep i expect.Colon t) → t ≡ token.Colon
  colon-allowed token.StartArray may = absurd may
  colon-allowed token.EndArray may = absurd may
  colon-allowed token.StartObject may = absurd may
  colon-allowed token.EndObject may = absurd may
  colon-allowed token.Comma may = absurd may
  colon-allowed token.Colon may = refl
  colon-allowed token.Null may = absurd may
  colon-allowed (token.Bool b) may = absurd may
  colon-allowed (token.Number n) may = absurd may
  colon-allowed (token.String v) may = absurd may
  colon-allowed token.End may = absurd may

-- after a value a comma or the closing bracket does
pub next-allowed : (deep : Bool) (k : Bracket) (t : Token)
    → IsAllowed (turn_of deep k expect.Next t) → (t ≡ token.Comma) ⊎ (t ≡ closing k)
next-allowed deep k token.StartArray may = absurd may
next-allowed deep bracket.Array token.EndArray may = inr refl
next-allowed deep bracket.Object token.EndArray may = absurd may
next-allowed deep k token.StartObject may = absurd may
next-allowed deep bracket.Array token.EndObject may = absurd may
next-allowed deep bracket.Object token.EndObject may = inr refl
next-allowed deep bracket.Array token.Comma may = inl refl
next-allowed deep bracket.Object token.Comma may = inl refl
next-allowed deep k token.Colon may = absurd may
next-allowed deep k token.Null may = absurd may
next-allowed deep k (token.Bool b) may = absurd may
next-allowed deep k (token.Number n) may = absurd may
next-allowed deep k (token.String v) may = absurd may
next-allowed deep k token.End may = absurd may

-- where the end is expected, it alone may come
pub end-token : (deep : Bool) (i : Bracket) (t : Token) → IsAllowed (turn_of deep i expect.End t)
    → t ≡ token.End
end-token deep i token.StartArray may = absurd may
end-token deep i token.EndArray may = absurd may
end-token deep i token.StartObject may = absurd may
end-token deep i token.EndObject may = absurd may
end-token deep i token.Comma may = absurd may
end-token deep i token.Colon may = absurd may
end-token deep i token.Null may = absurd may
end-token deep i (token.Bool b) may = absurd may
end-token deep i (token.Number n) may = absurd may
end-token deep i (token.String v) may = absurd may
end-token deep i token.End may = refl

-- ---- Why a text ends too early

-- where a value would stand too deep, the text does not end too early
within-early : (deep : Bool) (x : Turn) → within deep x ≡ Refuses EndsEarly → x ≡ Refuses EndsEarly
within-early true x e = absurd (cc e)
within-early false x e = e

-- after a value, only the end of the text is too early
next-early : (k : Bracket) (t : Token) → next_turn t k ≡ Refuses EndsEarly → t ≡ token.End
next-early k token.StartArray e = absurd (cc e)
next-early bracket.Array token.EndArray e = absurd (cc e)
next-early bracket.Object token.EndArray e = absurd (cc e)
next-early k token.StartObject e = absurd (cc e)
next-early bracket.Array token.EndObject e = absurd (cc e)
next-early bracket.Object token.EndObject e = absurd (cc e)
next-early bracket.Array token.Comma e = absurd (cc e)
next-early bracket.Object token.Comma e = absurd (cc e)
next-early k token.Colon e = absurd (cc e)
next-early k token.Null e = absurd (cc e)
next-early k (token.Bool b) e = absurd (cc e)
next-early k (token.Number n) e = absurd (cc e)
next-early k (token.String v) e = absurd (cc e)
next-early k token.End e = refl

module _ (deep : Bool) (i : Bracket) where
  -- where a value is expected, only the end of the text is too early
  value-early : (t : Token) → turn_of deep i expect.Value t ≡ Refuses EndsEarly → t ≡ token.End
  value-early token.StartArray e = absurd (let z = within-early deep _ e in cc z)
  value-early token.EndArray e = absurd (cc e)
  value-early token.StartObject e = absurd (let z = within-early deep _ e in cc z)
  value-early token.EndObject e = absurd (cc e)
  value-early token.Comma e = absurd (cc e)
  value-early token.Colon e = absurd (cc e)
  value-early token.Null e = absurd (let z = within-early deep _ e in cc z)
  value-early (token.Bool b) e = absurd (let z = within-early deep _ e in cc z)
  value-early (token.Number n) e = absurd (let z = within-early deep _ e in cc z)
  value-early (token.String v) e = absurd (let z = within-early deep _ e in cc z)
  value-early token.End e = refl

  -- so it is where a name is
  key-early : (t : Token) → turn_of deep i expect.Key t ≡ Refuses EndsEarly → t ≡ token.End
  key-early token.StartArray e = absurd (cc e)
  key-early token.EndArray e = absurd (cc e)
  key-early token.StartObject e = absurd (cc e)
  key-early token.EndObject e = absurd (cc e)
  key-early token.Comma e = absurd (cc e)
  key-early token.Colon e = absurd (cc e)
  key-early token.Null e = absurd (cc e)
  key-early (token.Bool b) e = absurd (cc e)
  key-early (token.Number n) e = absurd (cc e)
  key-early (token.String v) e = absurd (let z = within-early deep _ e in cc z)
  key-early token.End e = refl

  -- the end of the input is early wherever a token is expected
  pub early-end : (x : Expected) (t : Token) → turn_of deep i x t ≡ Refuses EndsEarly
      → t ≡ token.End
  early-end expect.Value t e = value-early t e
  early-end expect.FirstValue token.StartArray e = value-early token.StartArray e
  early-end expect.FirstValue token.EndArray e = absurd (cc e)
  early-end expect.FirstValue token.StartObject e = value-early token.StartObject e
  early-end expect.FirstValue token.EndObject e = value-early token.EndObject e
  early-end expect.FirstValue token.Comma e = value-early token.Comma e
  early-end expect.FirstValue token.Colon e = value-early token.Colon e
  early-end expect.FirstValue token.Null e = value-early token.Null e
  early-end expect.FirstValue (token.Bool b) e = value-early (token.Bool b) e
  early-end expect.FirstValue (token.Number n) e = value-early (token.Number n) e
  early-end expect.FirstValue (token.String v) e = value-early (token.String v) e
  early-end expect.FirstValue token.End e = value-early token.End e
  early-end expect.FirstKey token.StartArray e = key-early token.StartArray e
  early-end expect.FirstKey token.EndArray e = key-early token.EndArray e
  early-end expect.FirstKey token.StartObject e = key-early token.StartObject e
  early-end expect.FirstKey token.EndObject e = absurd (cc e)
  early-end expect.FirstKey token.Comma e = key-early token.Comma e
  early-end expect.FirstKey token.Colon e = key-early token.Colon e
  early-end expect.FirstKey token.Null e = key-early token.Null e
  early-end expect.FirstKey (token.Bool b) e = key-early (token.Bool b) e
  early-end expect.FirstKey (token.Number n) e = key-early (token.Number n) e
  early-end expect.FirstKey (token.String v) e = key-early (token.String v) e
  early-end expect.FirstKey token.End e = key-early token.End e
  early-end expect.Key t e = key-early t e
  early-end expect.Colon token.StartArray e = absurd (cc e)
  early-end expect.Colon token.EndArray e = absurd (cc e)
  early-end expect.Colon token.StartObject e = absurd (cc e)
  early-end expect.Colon token.EndObject e = absurd (cc e)
  early-end expect.Colon token.Comma e = absurd (cc e)
  early-end expect.Colon token.Colon e = absurd (cc e)
  early-end expect.Colon token.Null e = absurd (cc e)
  early-end expect.Colon (token.Bool b) e = absurd (cc e)
  early-end expect.Colon (token.Number n) e = absurd (cc e)
  early-end expect.Colon (token.String v) e = absurd (cc e)
  early-end expect.Colon token.End e = refl
  early-end expect.Next t e = next-early i t e
  early-end expect.End token.StartArray e = absurd (cc e)
  early-end expect.End token.EndArray e = absurd (cc e)
  early-end expect.End token.StartObject e = absurd (cc e)
  early-end expect.End token.EndObject e = absurd (cc e)
  early-end expect.End token.Comma e = absurd (cc e)
  early-end expect.End token.Colon e = absurd (cc e)
  early-end expect.End token.Null e = absurd (cc e)
  early-end expect.End (token.Bool b) e = absurd (cc e)
  early-end expect.End (token.Number n) e = absurd (cc e)
  early-end expect.End (token.String v) e = absurd (cc e)
  early-end expect.End token.End e = refl
