-- A token takes something, but for the end of a text.
use Rattle.std.proofs.Common.{◌≡◌, ℕ, ◌<◌, ◌≤◌, Bool, true, false, if◌then◌else◌, List, [], ◌∷◌, ◌++◌, ◌⊎◌, length, inl, inr, refl, ap, sym, ◌∙◌, arith, append-nil, length-append}
use Rattle.winnow_stream.specs.Source.{units}
use Rattle.winnow_parser.specs.Outcome.{Gives}
use Rattle.winnow_reader.specs.Place.{bytes_at}
use Rattle.winnow_reader.specs.Reading.{MayFollow}
use Rattle.format_lemmas.specs.Bytes.{bytes_of}
use Rattle.format_lemmas.proofs.lemmas.ByteLemmas.{bytes-units}
use Rattle.format_json.specs.Language.{is_blank, after_blanks}
use Rattle.format_json.specs.Tokens.{TokenHere, TokenAhead}
use Rattle.format_json.specs.TokenAnswers.{OneToken}
use Rattle.format_json.specs.declared.tokens.Token.{Token}
use Rattle.format_json.specs.declared.tokens.Token.TheVariants as token
use Rattle.format_json_scalars.proofs.lemmas.NumberAnswerLemmas.{number-some}

-- one step of `blanks-within`
within-if : (t : Bool) (x : ℕ) (b : List ℕ) → length (after_blanks b) ≤ length b
    → length (if t then after_blanks b else x ∷ b) ≤ length (x ∷ b)
within-if true x b h = omega (arith, h)
within-if false x b h = omega arith

-- what stands after blanks is no longer
pub blanks-within : (b : List ℕ) → length (after_blanks b) ≤ length b
blanks-within [] = omega arith
blanks-within (x ∷ b) = within-if (is_blank x) x b (blanks-within b)

-- a word has a byte
word-takes : (x : ℕ) (w here rest : List ℕ) → here ≡ x ∷ (w ++ rest) → length rest < length here
word-takes x w here rest e = omega (arith, ap length e, length-append w rest)

-- a token takes something, or nothing is left after it
takes-some : (partial : Bool) (t : Token) (here rest : List ℕ) → TokenHere partial t here rest
    → (length rest < length here) ⊎ (rest ≡ [])
takes-some partial token.StartArray here rest h = inl (word-takes 91 [] here rest h)
takes-some partial token.EndArray here rest h = inl (word-takes 93 [] here rest h)
takes-some partial token.StartObject here rest h = inl (word-takes 123 [] here rest h)
takes-some partial token.EndObject here rest h = inl (word-takes 125 [] here rest h)
takes-some partial token.Comma here rest h = inl (word-takes 44 [] here rest h)
takes-some partial token.Colon here rest h = inl (word-takes 58 [] here rest h)
takes-some partial token.Null here rest h = inl (word-takes 110 (117 ∷ 108 ∷ 108 ∷ []) here rest h)
takes-some partial (token.Bool true) here rest h =
    inl (word-takes 116 (114 ∷ 117 ∷ 101 ∷ []) here rest h)
takes-some partial (token.Bool false) here rest h =
    inl (word-takes 102 (97 ∷ 108 ∷ 115 ∷ 101 ∷ []) here rest h)
takes-some partial (token.Number n) here rest ((e, is, ends), i) =
    inl (omega (arith, ap length e, length-append n.text.items rest, number-some n.text.items is))
takes-some partial (token.String s) here rest (cs, ((text, (e, spells)), v)) =
    inl (omega (arith, ap length e, length-append text (34 ∷ rest)))
takes-some partial token.End here rest (p, none, after) = inr after

-- a token takes nothing only where nothing is
none-taken : (partial : Bool) (t : Token) (b : List ℕ) → TokenAhead partial t b b → b ≡ []
none-taken partial t b h = none-if (takes-some partial t (after_blanks b) b h)
  where
    none-if : (length b < length (after_blanks b)) ⊎ (b ≡ []) → b ≡ []
    none-if (inl less) = absurd (omega (arith, less, blanks-within b))
    none-if (inr e) = e

-- a token takes nothing, no matter what follows, only where nothing is ahead and nothing may follow
pub idles-at-end : (ended : Bool) (ahead : List ℕ) (place : ℕ) (t : Token)
    → ((more : List ℕ) (partial : Bool) → MayFollow ended more partial
    → OneToken partial (bytes_at place (ahead ++ more)) (Gives t (bytes_at place (ahead ++ more))))
    → (ended ≡ true) × (ahead ≡ [])
idles-at-end true ahead place t h =
    (refl, sym (append-nil ahead) ∙ sym (bytes-units (ahead ++ [])) ∙ none-taken false t (bytes_of (units (ahead ++ []))) ((h [] false (refl, refl)).1))
idles-at-end false ahead place t h =
    let none = none-taken false t (bytes_of (units (ahead ++ 91 ∷ []))) ((h (91 ∷ []) false tt).1) in
    absurd (omega (arith, ap length (sym (bytes-units (ahead ++ 91 ∷ [])) ∙ none), length-append ahead (91 ∷ [])))
