-- What a function over a text or over bytes says of the value that it reads.
use Rattle.std.specs.Prelude.{◌≡◌, ℕ, Bool, List, [], ◌∷◌, ◌++◌, Option, Result, Ok, Err, IfOk}
use Rattle.std.specs.Borrow.{Bor}
use Rattle.std.specs.Char.{len_utf8}
use Rattle.std.specs.Str.{chars}
use Rattle.std.proofs.Common.{refl, ap, sym, ◌∙◌}
use Rattle.std.proofs.lemmas.List.{map-append}
use Rattle.winnow_stream.specs.Source.{Source, units}
use Rattle.winnow_stream.specs.Text.{char_source, text_source}
use Rattle.winnow_stream.specs.declared.needed.Needed.{Needed}
use Rattle.winnow_error.specs.declared.failure.Failure.{Failure}
use Rattle.winnow_parser.specs.Answer.{outcome}
use Rattle.winnow_parser.specs.Outcome.{Ahead}
use Rattle.winnow_grammar.specs.Spelling.{Spelling, IsWithin, tokens_of, TakesFor}
use Rattle.winnow_grammar.specs.Spelt.{Spelt}

-- the items before the rest spell the value
abbrev pub TakenFor : {O : Type 0} → Spelling O ℕ → List ℕ → List ℕ → O → Type 0
TakenFor spells whole rest value = (taken : List ℕ) × ((whole ≡ taken ++ rest) × spells value taken)

-- the characters that a function takes for a value spell it
abbrev pub SpelledText : {O E : Type 0} → Spelling O ℕ → Bor (List ℕ) → Result O (Failure E Needed)
    → Bor (List ℕ) → Type 0
SpelledText spells old result new = IfOk result (TakenFor spells (chars old.now) (chars new.now))

-- the bytes that a function takes for a value spell it
abbrev pub SpelledBytes : {O E : Type 0} → Spelling O ℕ → Bor (List ℕ) → Result O (Failure E Needed)
    → Bor (List ℕ) → Type 0
SpelledBytes spells old result new = IfOk result (TakenFor spells old.now new.now)

module _ {O : Type 0} (spells others : Spelling O ℕ) (on : IsWithin spells others) where
  -- items that spell a value by one relation spell it by each weaker one
  TakenFor-on : (whole rest : List ℕ) (x : O) → TakenFor spells whole rest x
      → TakenFor others whole rest x
  TakenFor-on whole rest x (taken, (split, h)) = (taken, (split, on x taken h))

  -- the characters that a function consumes spell its value by each weaker relation
  pub SpelledText-on : {E : Type 0} (old new : Bor (List ℕ)) (result : Result O (Failure E Needed))
      → SpelledText spells old result new → SpelledText others old result new
  SpelledText-on old new (Ok x) h = TakenFor-on (chars old.now) (chars new.now) x h
  SpelledText-on old new (Err e) h = tt

  -- the bytes that a function consumes spell its value by each weaker relation
  pub SpelledBytes-on : {E : Type 0} (old new : Bor (List ℕ)) (result : Result O (Failure E Needed))
      → SpelledBytes spells old result new → SpelledBytes others old result new
  SpelledBytes-on old new (Ok x) h = TakenFor-on old.now new.now x h
  SpelledBytes-on old new (Err e) h = tt

-- the tokens of a source of characters are the characters
tokens-char_source : (cs : List ℕ) → tokens_of (char_source cs) ≡ cs
tokens-char_source [] = refl
tokens-char_source (c ∷ cs) = ap (λ r. c ∷ r) (tokens-char_source cs)

-- the tokens of bytes are the bytes
tokens-units : (bytes : List ℕ) → tokens_of (units bytes) ≡ bytes
tokens-units [] = refl
tokens-units (b ∷ bytes) = ap (λ r. b ∷ r) (tokens-units bytes)

module _ {O : Type 0} (spells : Spelling O ℕ) (x : O) (a b : Ahead ℕ) (s t : List ℕ) (here : tokens_of a.tokens ≡ s) (there : tokens_of b.tokens ≡ t) where
  taken-for : TakesFor spells x a b → TakenFor spells s t x
  taken-for (taken, (whole, h)) = (
    tokens_of taken,
    (
      sym here ∙ ap tokens_of whole ∙ map-append (λ x. x.0) taken b.tokens ∙ ap (λ r. tokens_of taken ++ r) there,
      h,
    ),
  )

module _ {O E : Type 0} (spells : Spelling O ℕ) (partial : Bool) (l m : Option ℕ) (s t : List ℕ) where
  -- what a spelled part answers over a text
  pub SpelledText-of : (result : Result O (Failure E Needed))
      → Spelt spells partial (record { location = l; tokens = text_source s }) (outcome result (record { location = m; tokens = text_source t }))
      → IfOk result (TakenFor spells (chars s) (chars t))
  SpelledText-of (Ok x) h =
      taken-for spells x (record { location = l; tokens = text_source s }) (record { location = m; tokens = text_source t }) (chars s) (chars t) (tokens-char_source (chars s)) (tokens-char_source (chars t)) h.1
  SpelledText-of (Err e) h = tt

  -- what a spelled part answers over bytes
  pub SpelledBytes-of : (result : Result O (Failure E Needed))
      → Spelt spells partial (record { location = l; tokens = units s }) (outcome result (record { location = m; tokens = units t }))
      → IfOk result (TakenFor spells s t)
  SpelledBytes-of (Ok x) h =
      taken-for spells x (record { location = l; tokens = units s }) (record { location = m; tokens = units t }) s t (tokens-units s) (tokens-units t) h.1
  SpelledBytes-of (Err e) h = tt
