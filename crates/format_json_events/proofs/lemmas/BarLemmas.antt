-- What may not begin where a text stands: a string, a number or a word.
use Rattle.std.proofs.Common.{◌≡◌, ℕ, ◌==◌, Bool, true, false, if◌then◌else◌, List, [], ◌∷◌, nat_lt, length, get_or, Option, None, Some, ap, ◌∙◌, subst, refl}
use Rattle.std.specs.declared.string.String.{String}
use Rattle.std.specs.declared.alloc.Global.{Global}
use Rattle.winnow_reader.specs.State.{ReaderState}
use Rattle.format_lemmas.specs.Bytes.{StartsWith}
use Rattle.format_json.specs.Language.{after_blanks}
use Rattle.format_json.specs.Reading.{FindsDamage}
use Rattle.format_json_events.specs.Turns.{TextState, takes_scalar, scalar_bar, begins_plain, bar_at, bar_from, turn_of}
use Rattle.format_json_events.specs.Reading.{IsAllowed, token_place, bar_ahead, IsNoNext, error_at}
use Rattle.format_json.specs.declared.tokens.Token.TheVariants as token
use Rattle.format_json.specs.declared.reading.JsonToken.{JsonToken}
use Rattle.format_json_events.specs.declared.turns.Bracket.{Bracket}
use Rattle.format_json_events.specs.declared.turns.Expected.{Expected}
use Rattle.format_json_events.specs.declared.turns.Expected.TheVariants as expect
use Rattle.format_json_events.specs.declared.turns.Misplaced.{Misplaced}
use Rattle.format_json_events.specs.declared.turns.Misplaced.TheVariants.{Unexpected, TooDeep, EndsEarly}

-- ---- What is expected

-- why a scalar may not stand where one is expected or not
abbrev bar_of : Bool → Bool → Option Misplaced
bar_of may deep = if may then (if deep then Some TooDeep else None) else Some Unexpected

-- nothing bars it where one is expected that is not too deep
bar-none : (may deep : Bool) → bar_of may deep ≡ None → (may ≡ true) × (deep ≡ false)
bar-none true true e = absurd (cc e)
bar-none true false e = (refl, refl)
bar-none false deep e = absurd (cc e)

module _ (s : TextState) (quoted : Bool) where
  -- where nothing bars a string or another scalar, one is expected that is not too deep
  pub bar-open : bar_at s quoted ≡ None → (takes_scalar quoted s.expected ≡ true)
      × (nat_lt s.depth (length s.open_brackets) ≡ false)
  bar-open e =
      bar-none (takes_scalar quoted s.expected) (nat_lt s.depth (length s.open_brackets)) e

  -- and there nothing bars it
  pub open-bar : takes_scalar quoted s.expected ≡ true
      → nat_lt s.depth (length s.open_brackets) ≡ false → bar_at s quoted ≡ None
  open-bar may deep =
      ap (λ t. bar_of t (nat_lt s.depth (length s.open_brackets))) may ∙ ap (bar_of true) deep

-- where nothing bars a string, it may come
pub string-open : (deep : Bool) (i : Bracket) (e : Expected) (v : String Global)
    → scalar_bar deep true e ≡ None → IsAllowed (turn_of deep i e (token.String v))
string-open true i expect.Value v free = absurd (cc free)
string-open false i expect.Value v free = tt
string-open true i expect.FirstValue v free = absurd (cc free)
string-open false i expect.FirstValue v free = tt
string-open true i expect.FirstKey v free = absurd (cc free)
string-open false i expect.FirstKey v free = tt
string-open true i expect.Key v free = absurd (cc free)
string-open false i expect.Key v free = tt
string-open deep i expect.Colon v free = absurd (cc free)
string-open deep i expect.Next v free = absurd (cc free)
string-open deep i expect.End v free = absurd (cc free)

-- ---- The first byte

-- where a quote stands first, it is the first byte
first-quote : (b : List ℕ) → StartsWith 34 b → get_or b 0 0 ≡ 34
first-quote [] h = absurd h
first-quote (x ∷ b) h = h

-- where a string begins, what bars it is what bars what the first byte begins
pub quote-bar : (s : TextState) (b : List ℕ) (x : Option Misplaced) → StartsWith 34 b
    → bar_from s (get_or b 0 0) ≡ x → bar_at s true ≡ x
quote-bar s b x quote e = subst (λ n. bar_from s n ≡ x) (first-quote b quote) e

-- nothing is barred because a text ends too early, if it is in neither case
if-early : (t : Bool) (x y : Option Misplaced) → ¬ (x ≡ Some EndsEarly) → ¬ (y ≡ Some EndsEarly)
    → ¬ ((if t then x else y) ≡ Some EndsEarly)
if-early true x y first second = first
if-early false x y first second = second

-- so no scalar is
scalar-early : (deep quoted : Bool) (e : Expected) → ¬ (scalar_bar deep quoted e ≡ Some EndsEarly)
scalar-early deep quoted e =
    if-early (takes_scalar quoted e) (if deep then Some TooDeep else None) (Some Unexpected)
    (if-early deep (Some TooDeep) None (λ z. cc z) (λ z. cc z)) (λ z. cc z)

-- nor what any byte begins
bar-early : (s : TextState) (first : ℕ) → ¬ (bar_from s first ≡ Some EndsEarly)
bar-early s first =
    let deep = nat_lt s.depth (length s.open_brackets) in
    if-early (34 == first) (bar_at s true) (if begins_plain first then bar_at s false else None)
    (scalar-early deep true s.expected)
    (if-early (begins_plain first) (bar_at s false) None (scalar-early deep false s.expected) (λ z. cc z))

-- the error of a damaged token that may not come is its place and why
pub barred-none : (s : TextState) (f : ReaderState JsonToken) (m : Misplaced) (place at : ℕ)
    → place ≡ token_place f → bar_ahead s f ≡ Some m → FindsDamage f at
    → IsNoNext s f (error_at m place)
barred-none s f Unexpected place at same bar damage = (same, bar, (at, damage))
barred-none s f TooDeep place at same bar damage = (same, bar, (at, damage))
barred-none s f EndsEarly place at same bar damage = absurd (bar-early s (get_or (after_blanks f.ahead) 0 0) bar)
