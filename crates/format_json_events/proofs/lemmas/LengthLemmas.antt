-- Short tokens, as a reader reads more of them.
use Rattle.std.proofs.Common.{◌≡◌, ℕ, ◌+◌, ◌-◌, ◌≤◌, Bool, true, false, not, List, [], ◌∷◌, ◌++◌, length, take, drop, inl, inr, ap, sym, ◌∙◌, subst, refl, arith, append-nil, append_assoc, length-append}
use Rattle.std.proofs.lemmas.List.{take-append-drop}
use Rattle.winnow_reader.specs.State.{ReaderState, pushed, ended_after, at_start}
use Rattle.winnow_reader.specs.Reading.{MayFollow}
use Rattle.winnow_reader.specs.SameValues.{IsThrough}
use Rattle.format_json.specs.Language.{after_blanks}
use Rattle.format_json.specs.Tokens.{TokenHere, TokenAhead}
use Rattle.format_json.specs.TokenLaws.{after-longer, lexeme-some, ahead-longer}
use Rattle.format_json.specs.declared.tokens.Token.{Token}
use Rattle.format_json.specs.declared.tokens.Token.TheVariants as token
use Rattle.format_json.specs.declared.reading.JsonToken.{JsonToken}
use Rattle.format_json_events.specs.Blanks.{AreBlanks, WaitsOn}
use Rattle.format_json_events.specs.Reading.{Brings, BringsEnd}
use Rattle.format_json_events.specs.Lengths.{AreShort, IsShort, IsShortTo}
use Rattle.format_json_events.proofs.lemmas.BlankLemmas.{after-dropped}

-- ---- Tokens

-- one token more
more-short : (limit : ℕ) (tokens : List Token) (last : Token) (bytes here after : List ℕ)
    → AreShort limit tokens bytes here → TokenAhead false last here after
    → length (after_blanks here) ≤ length after + limit
    → AreShort limit (tokens ++ last ∷ []) bytes after
more-short limit [] last bytes here after same h less =
    (after, (subst (λ l. TokenHere false last l after) (sym same) h, subst (λ l. length l ≤ length after + limit) (sym same) less, refl))
more-short limit (t ∷ tokens) last bytes here after (next, (h, fits, more)) k less =
    (next, (h, fits, more-short limit tokens last next here after more k less))

-- what stands after blanks stands after the rest of them
same-rest : (limit : ℕ) (tokens : List Token) (bytes rest other : List ℕ)
    → after_blanks rest ≡ after_blanks other → AreShort limit tokens bytes rest
    → AreShort limit tokens bytes other
same-rest limit [] bytes rest other same h = h ∙ same
same-rest limit (t ∷ tokens) bytes rest other same (after, (h, fits, more)) =
    (after, (h, fits, same-rest limit tokens after rest other same more))

-- what may follow the end of the input is nothing
follows-end : (ended : Bool) → MayFollow ended [] false
follows-end false = tt
follows-end true = (refl, refl)

-- a token stands no matter what follows
stands-more : (ended : Bool) (t : Token) (b r more : List ℕ) → MayFollow ended more false
    → TokenAhead (not ended) t b r → TokenAhead false t (b ++ more) (r ++ more)
stands-more false t b r more may h = ahead-longer false t b r more h
stands-more true t b r more (none, whole) h =
    subst (λ m. TokenAhead false t (b ++ m) (r ++ m)) (sym none)
    (subst (λ l. TokenAhead false t l (r ++ [])) (sym (append-nil b))
    (subst (λ l. TokenAhead false t b l) (sym (append-nil r)) h))

-- and is as long
fits-more : (limit : ℕ) (ended : Bool) (t : Token) (b r more : List ℕ) → MayFollow ended more false
    → TokenAhead (not ended) t b r → length (after_blanks b) ≤ length r + limit
    → length (after_blanks (b ++ more)) ≤ length (r ++ more) + limit
fits-more limit false t b r more may h fits =
    omega (arith, ap length (after-longer b more (lexeme-some t (after_blanks b) r h)), length-append (after_blanks b) more, length-append r more, fits)
fits-more limit true t b r more (none, whole) h fits =
    subst (λ m. length (after_blanks (b ++ m)) ≤ length (r ++ m) + limit) (sym none)
    (subst (λ l. length (after_blanks l) ≤ length (r ++ []) + limit) (sym (append-nil b))
    (subst (λ l. length (after_blanks b) ≤ length l + limit) (sym (append-nil r)) fits))

-- ---- Readers

-- at first no token was read
pub short-start : (limit : ℕ) → IsShortTo limit (at_start (record {})) []
short-start limit = ([], λ more may. refl)

module _ (limit : ℕ) (old new : ReaderState JsonToken) (input : List ℕ) (h : IsShortTo limit old input) where
  -- a token more was read, which is short
  pub short-brings : (t : Token) → Brings old t new
      → length (after_blanks old.ahead) ≤ length new.ahead + limit → IsShortTo limit new input
  short-brings t b fits = (
    h.0 ++ t ∷ [],
    λ more may.
        let may_old = subst (λ e. MayFollow e more false) b.ended may in
        more-short limit h.0 t (input ++ more) (old.ahead ++ more) (new.ahead ++ more) (h.1 more may_old)
        (stands-more old.ended t old.ahead new.ahead more may_old b.stands)
        (fits-more limit old.ended t old.ahead new.ahead more may_old b.stands fits),
  )

  -- the end was read
  pub short-end : BringsEnd old new → IsShortTo limit new input
  short-end (through, inl b) =
      short-brings token.End b (omega (arith, ap length b.stands.1))
  short-end (through, inr same) = subst (λ f. IsShortTo limit f input) (sym same) h

-- blanks were dropped
short-dropped : (limit n : ℕ) (ahead more : List ℕ) → AreBlanks n ahead
    → after_blanks (ahead ++ more) ≡ after_blanks (drop n ahead ++ more)
short-dropped limit n ahead more (within, are) =
    ap after_blanks (ap (λ l. l ++ more) (sym (take-append-drop n ahead)) ∙ append_assoc (take n ahead) (drop n ahead) more)
    ∙ after-dropped (take n ahead) (drop n ahead ++ more) are

-- no token was read
pub short-waits : (limit : ℕ) (old new : ReaderState JsonToken) (input : List ℕ)
    → WaitsOn old new → IsShortTo limit old input → IsShortTo limit new input
short-waits limit old new input (wanted, inl (n, (some, are, rest, is))) (tokens, h) =
    subst (λ f. IsShortTo limit f input) (sym is)
    (tokens, λ more may. same-rest limit tokens (input ++ more) (old.ahead ++ more) (drop n old.ahead ++ more) (short-dropped limit n old.ahead more are) (h more may))
short-waits limit old new input (wanted, inr (none, is)) (tokens, h) =
    subst (λ f. IsShortTo limit f input) (sym is) (tokens, h)

-- a piece more is there
pub short-pushed : (limit : ℕ) (f : ReaderState JsonToken) (input piece : List ℕ)
    → f.ended ≡ false → IsShortTo limit f input → IsShortTo limit (pushed f piece) (input ++ piece)
short-pushed limit f input piece goes (tokens, h) = (
  tokens,
  λ more may.
      subst (λ l. AreShort limit tokens l ((f.ahead ++ piece) ++ more)) (sym (append_assoc input piece more))
      (subst (λ l. AreShort limit tokens (input ++ (piece ++ more)) l) (sym (append_assoc f.ahead piece more))
      (h (piece ++ more) (subst (λ e. MayFollow e (piece ++ more) false) (sym goes) tt))),
)

-- the input has ended
pub short-ended : (limit : ℕ) (f : ReaderState JsonToken) (input : List ℕ)
    → IsShortTo limit f input → IsShortTo limit (ended_after f) input
short-ended limit f input (tokens, h) = (
  tokens,
  λ more may.
      subst (λ m. AreShort limit tokens (input ++ m) (f.ahead ++ m)) (sym may.0)
      (h [] (follows-end f.ended)),
)

-- a text of which all was read is short tokens
pub short-text : (limit : ℕ) (f : ReaderState JsonToken) (input : List ℕ) → IsThrough f
    → IsShortTo limit f input → IsShort limit input
short-text limit f input (ended, none) (tokens, h) = (
  tokens,
  subst (λ l. AreShort limit tokens input l) none
      (subst (λ l. AreShort limit tokens input l) (append-nil f.ahead)
      (subst (λ l. AreShort limit tokens l (f.ahead ++ [])) (append-nil input) (h [] (follows-end f.ended)))),
)

-- a token was taken that is no longer than the limit
pub short-took : (limit whole left : ℕ) (old new : ReaderState JsonToken)
    → whole ≡ length (after_blanks old.ahead) → left ≡ length new.ahead → whole - left ≤ limit
    → ((t : Token) × Brings old t new) → (input : List ℕ) → IsShortTo limit old input
    → IsShortTo limit new input
short-took limit whole left old new is rest fits (t, b) input h =
    short-brings limit old new input h t b (omega (arith, is, rest, fits))
