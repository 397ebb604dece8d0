-- A reader of tokens keeps the laws of a parser.
use Rattle.std.proofs.Common.{◌≡◌, ℕ, Bool, true, false, if◌then◌else◌, List, [], ◌∷◌, ◌++◌, ◌≢◌, inl, inr, ap, sym, ◌∙◌, subst, refl, arith, append_assoc}
use Rattle.std.proofs.lemmas.List.{map-append}
use Rattle.std.proofs.lemmas.Str.{encode_ascii}
use Rattle.winnow_stream.specs.Source.{Source}
use Rattle.winnow_parser.specs.Outcome.{Ahead, Backtracks, Cuts, Needs, Refuses, Gives, Fails, Moves}
use Rattle.winnow_parser.specs.Laws.{longer, IsStable, IsFinal, IsOnward, IsParser}
use Rattle.format_lemmas.specs.Bytes.{Each, StartsWith, EndsRun, bytes_of}
use Rattle.format_json_scalars.specs.Numbers.{is_number_byte}
use Rattle.format_json_scalars.specs.StringAnswers.{BeginsChar, IsWrong}
use Rattle.format_json.specs.Language.{is_blank, after_blanks}
use Rattle.format_json.specs.Founds.{HasNone}
use Rattle.format_json.specs.Tokens.{Lexeme, Word, Digits, Quoted, Ending, lexeme_of, LexemeHere, TokenHere, TokenAhead}
use Rattle.format_json.specs.TokenAnswers.{IsNoToken, IsWrongAt, OneToken}
use Rattle.format_json.specs.declared.tokens.Token.{Token}
use Rattle.format_json.specs.declared.tokens.Token.TheVariants as token

module _ (a b : Ahead ℕ) (more : Source ℕ) where
  -- a move is one where more follows
  moves-longer : Moves a b → Moves (longer more a) (longer more b)
  moves-longer m = record {
    taken = m.taken;
    whole = ap (λ r. r ++ more) m.whole ∙ append_assoc m.taken b.tokens more;
    place = m.place;
  }

-- the bytes of a longer source
bytes-longer : (r more : Source ℕ) → bytes_of (r ++ more) ≡ bytes_of r ++ bytes_of more
bytes-longer r more = map-append (λ x. x.0) r more

-- a run that ended where more may follow still ends there
ends-longer : (partial : Bool) (r more : List ℕ) → EndsRun is_number_byte true r
    → EndsRun is_number_byte partial (r ++ more)
ends-longer partial [] more ends = absurd (ends.1 refl refl)
ends-longer partial (x ∷ r) more ends = (ends.0, λ p e. cc e)

-- bytes that begin with a lexeme still do if more follows
lexeme-longer : (partial : Bool) (x : Lexeme) (b r more : List ℕ) → LexemeHere true x b r
    → LexemeHere partial x (b ++ more) (r ++ more)
lexeme-longer partial (Word w) b r more e = ap (λ l. l ++ more) e ∙ append_assoc w r more
lexeme-longer partial (Digits text integer) b r more ((e, is, ends), reads) =
    ((ap (λ l. l ++ more) e ∙ append_assoc text r more, is, ends-longer partial r more ends), reads)
lexeme-longer partial (Quoted value) b r more (cs, ((t, (e, spells)), has)) =
    (cs, ((t, (ap (λ l. l ++ more) e ∙ ap (λ l. 34 ∷ l) (append_assoc t (34 ∷ r) more), spells)), has))
lexeme-longer partial Ending b r more h = absurd (let f = h.0 in cc f)

-- ---- Damage

-- a run ends before a blank, where more may follow
ends-blank : (partial : Bool) (r : List ℕ) → EndsRun is_number_byte partial r
    → EndsRun is_number_byte true (r ++ 32 ∷ [])
ends-blank partial [] ends = ((λ e. cc e), λ p e. cc e)
ends-blank partial (x ∷ r) ends = (ends.0, λ p e. cc e)

-- bytes that begin with a lexeme other than the end still do if a blank follows and more may
lexeme-blank : (partial : Bool) (x : Lexeme) (b r : List ℕ) → LexemeHere partial x b r → b ≢ []
    → LexemeHere true x (b ++ 32 ∷ []) (r ++ 32 ∷ [])
lexeme-blank partial (Word w) b r e some = ap (λ l. l ++ 32 ∷ []) e ∙ append_assoc w r (32 ∷ [])
lexeme-blank partial (Digits text integer) b r ((e, is, ends), reads) some =
    ((ap (λ l. l ++ 32 ∷ []) e ∙ append_assoc text r (32 ∷ []), is, ends-blank partial r ends), reads)
lexeme-blank partial (Quoted value) b r (cs, ((t, (e, spells)), has)) some =
    (cs, ((t, (ap (λ l. l ++ 32 ∷ []) e ∙ ap (λ l. 34 ∷ l) (append_assoc t (34 ∷ r) (32 ∷ [])), spells)), has))
lexeme-blank partial Ending b r h some = absurd (some h.1)

-- where nothing stands, a bracket may
begun-bracket : ¬ (HasNone (TokenHere true) true [])
begun-bracket none = none (91 ∷ []) (λ e. cc e) token.StartArray [] refl

-- where no token begins where more may follow, none does where more follows
none-longer : (partial : Bool) (here more : List ℕ) → HasNone (TokenHere true) true here
    → HasNone (TokenHere partial) partial (here ++ more)
none-longer partial [] more none = absurd (begun-bracket none)
none-longer partial (x ∷ here) more none = λ last may t r h.
    none (more ++ (last ++ 32 ∷ [])) (λ e. cc e) t (r ++ 32 ∷ [])
    (subst (λ l. TokenHere true t l (r ++ 32 ∷ []))
    (append_assoc (x ∷ here ++ more) last (32 ∷ []) ∙ append_assoc (x ∷ here) more (last ++ 32 ∷ []))
    (lexeme-blank partial (lexeme_of t) ((x ∷ here ++ more) ++ last) r h (λ e. cc e)))

-- the bytes of a number end before the bytes do, so they do where more follows
each-front : (here more : List ℕ) → Each is_number_byte (here ++ more) → Each is_number_byte here
each-front [] more h = tt
each-front (x ∷ here) more h = (h.0, each-front here more h.1)

-- where no quote stands first, none does where more follows
quote-longer : (here more : List ℕ) → here ≢ [] → ¬ (StartsWith 34 here)
    → ¬ (StartsWith 34 (here ++ more))
quote-longer [] more some none = absurd (some refl)
quote-longer (x ∷ here) more some none = none

-- where no token begins, there are bytes
none-some : (here : List ℕ) → HasNone (TokenHere true) true here → here ≢ []
none-some [] none = absurd (begun-bracket none)
none-some (x ∷ here) none = λ e. cc e

-- where no token begins where more may follow, none does where more follows
no_token-longer : (partial : Bool) (here more : List ℕ) → IsNoToken true here
    → IsNoToken partial (here ++ more)
no_token-longer partial here more (quote, number, none) = (
  quote-longer here more (none-some here none) quote,
  (λ p each. number refl (each-front here more each)),
  none-longer partial here more none,
)

-- a character may stand where nothing does
pub begun-char : BeginsChar (97 ∷ [])
begun-char = (97, (97 ∷ [], ([], (refl, inl (refl, refl, sym (encode_ascii 97 (omega arith)))))))

-- what is wrong in a string where more may follow is wrong where more follows
wrong-longer : (partial : Bool) (rest more : List ℕ) → IsWrong true rest
    → IsWrong partial (rest ++ more)
wrong-longer partial [] more wrong = absurd (wrong.1 (97 ∷ []) (λ e. cc e) begun-char)
wrong-longer partial (x ∷ rest) more (quote, none) =
    (quote, λ last may begins. none (more ++ last) (λ e. cc e) (subst BeginsChar (append_assoc (x ∷ rest) more last) begins))

-- damage where more may follow is damage at the same place where more follows
damage-longer : (partial : Bool) (here rest more : List ℕ) → IsWrongAt true here rest
    → IsWrongAt partial (here ++ more) (rest ++ more)
damage-longer partial here rest more (inl (t, (cs, (e, spells, wrong)))) =
    inl (t, (cs, (ap (λ l. l ++ more) e ∙ ap (λ l. 34 ∷ l) (append_assoc t rest more), spells, wrong-longer partial rest more wrong)))
damage-longer partial here rest more (inr (e, none)) =
    inr (ap (λ l. l ++ more) e, no_token-longer partial here more none)

-- ---- After blanks

-- one step of `blanks-more`
longer-if : (t : Bool) (x : ℕ) (b : List ℕ) (c : ℕ) (q more : List ℕ)
    → (after_blanks b ≡ c ∷ q → after_blanks (b ++ more) ≡ c ∷ (q ++ more))
    → (if t then after_blanks b else x ∷ b) ≡ c ∷ q
    → (if t then after_blanks (b ++ more) else x ∷ (b ++ more)) ≡ c ∷ (q ++ more)
longer-if true x b c q more on e = on e
longer-if false x b c q more on e = ap (λ l. l ++ more) e

-- where a byte that is no blank stands, more bytes come after it
pub blanks-more : (b : List ℕ) (c : ℕ) (q more : List ℕ) → after_blanks b ≡ c ∷ q
    → after_blanks (b ++ more) ≡ c ∷ (q ++ more)
blanks-more [] c q more e = absurd (cc e)
blanks-more (x ∷ b) c q more e = longer-if (is_blank x) x b c q more (blanks-more b c q more) e

-- where something stands after blanks, more bytes come after it
pub after-longer : (b more : List ℕ) → after_blanks b ≢ []
    → after_blanks (b ++ more) ≡ after_blanks b ++ more
after-longer b more some = at (after_blanks b) refl some
  where
    at : (here : List ℕ) → after_blanks b ≡ here → here ≢ []
        → after_blanks (b ++ more) ≡ here ++ more
    at [] e none = absurd (none refl)
    at (c ∷ q) e none = blanks-more b c q more e

-- a run that ended where more may follow has bytes after it
run-none : (text r : List ℕ) → [] ≡ text ++ r → EndsRun is_number_byte true r → ⊥
run-none [] r e ends = ends.1 refl (sym e)
run-none (x ∷ text) r e ends = cc e

-- where a token stands, there are bytes, if more may follow
pub lexeme-some : (t : Token) (here r : List ℕ) → TokenHere true t here r → here ≢ []
lexeme-some t [] r h = absurd (empty-none t r h)
  where
    empty-none : (t : Token) (r : List ℕ) → ¬ (TokenHere true t [] r)
    empty-none token.StartArray r e = cc e
    empty-none token.EndArray r e = cc e
    empty-none token.StartObject r e = cc e
    empty-none token.EndObject r e = cc e
    empty-none token.Comma r e = cc e
    empty-none token.Colon r e = cc e
    empty-none token.Null r e = cc e
    empty-none (token.Bool true) r e = cc e
    empty-none (token.Bool false) r e = cc e
    empty-none (token.Number n) r ((e, is, ends), reads) = run-none n.text.items r e ends
    empty-none (token.String s) r (cs, ((t, (e, spells)), has)) = cc e
    empty-none token.End r h = let f = h.0 in cc f
lexeme-some t (x ∷ here) r h = λ e. cc e

-- what stands first after blanks still does where more follows
pub ahead-longer : (partial : Bool) (t : Token) (b r more : List ℕ) → TokenAhead true t b r
    → TokenAhead partial t (b ++ more) (r ++ more)
ahead-longer partial t b r more h =
    subst (λ l. LexemeHere partial (lexeme_of t) l (r ++ more)) (sym (after-longer b more (lexeme-some t (after_blanks b) r h)))
    (lexeme-longer partial (lexeme_of t) (after_blanks b) r more h)

-- where a token is damaged, there are bytes
damage-some : (here rest : List ℕ) → IsWrongAt true here rest → here ≢ []
damage-some here rest (inl (t, (cs, (e, spells, wrong)))) = λ z. let f = sym e ∙ z in cc f
damage-some here rest (inr (e, none)) = none-some here none.2

-- a settled answer of `OneToken` stays when more input follows
token-stable : IsStable OneToken
token-stable more partial a (Gives t b) s (m, h) =
    let aa = bytes_of a.tokens in
    let bb = bytes_of b.tokens in
    let end = bytes_of more in (
      moves-longer a b more m,
      subst (λ r. TokenAhead partial t (bytes_of (a.tokens ++ more)) r) (sym (bytes-longer b.tokens more))
          (subst (λ l. TokenAhead partial t l (bb ++ end)) (sym (bytes-longer a.tokens more)) (ahead-longer partial t aa bb end h)),
    )
token-stable more partial a (Fails (Backtracks b)) s h = absurd h
token-stable more partial a (Fails (Cuts b)) s (m, h) =
    let aa = bytes_of a.tokens in
    let bb = bytes_of b.tokens in
    let end = bytes_of more in
    let here = sym (ap after_blanks (bytes-longer a.tokens more) ∙ after-longer aa end (damage-some (after_blanks aa) bb h)) in (
      moves-longer a b more m,
      subst (λ r. IsWrongAt partial (after_blanks (bytes_of (a.tokens ++ more))) r) (sym (bytes-longer b.tokens more))
          (subst (λ l. IsWrongAt partial l (bb ++ end)) here (damage-longer partial (after_blanks aa) bb end h)),
    )
token-stable more partial a (Fails (Needs n)) s h = absurd s
token-stable more partial a (Fails Refuses) s h = absurd s

-- `OneToken` needs nothing more where nothing more may follow
token-final : IsFinal OneToken
token-final a n h = let f = h.0 in cc f

-- `OneToken` only moves the stream on
token-onward : IsOnward OneToken
token-onward partial a (Gives t b) h = h.0
token-onward partial a (Fails (Backtracks b)) h = absurd h
token-onward partial a (Fails (Cuts b)) h = h.0
token-onward partial a (Fails (Needs n)) h = tt
token-onward partial a (Fails Refuses) h = tt

-- `OneToken` keeps the laws of a parser
pub IsParser-OneToken : IsParser OneToken
IsParser-OneToken = record { stable = token-stable; final = token-final; onward = token-onward }
