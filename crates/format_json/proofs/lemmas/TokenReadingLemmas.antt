-- What a reader of bytes in pieces has read of tokens, in the words of the format.
use Rattle.std.proofs.Common.{ℕ, Bool, true, false, List, [], ◌∷◌, ◌++◌, length, inl, inr, ap, subst, refl, arith, append-nil}
use Rattle.std.proofs.lemmas.Option.{same_Some}
use Rattle.winnow_stream.specs.Source.{units}
use Rattle.winnow_stream.specs.Units.{width-units}
use Rattle.winnow_stream.proofs.lemmas.MovingLemmas.{MovesOn-end}
use Rattle.winnow_parser.specs.Outcome.{Ahead, Moves}
use Rattle.winnow_reader.specs.Place.{bytes_at}
use Rattle.winnow_reader.specs.State.{ReaderState}
use Rattle.winnow_reader.specs.Reading.{Reads, MayFollow, HasRead}
use Rattle.winnow_reader.specs.Answering.{StopsAt, FailsAt}
use Rattle.format_lemmas.specs.Bytes.{bytes_of}
use Rattle.format_lemmas.proofs.lemmas.ByteLemmas.{bytes-units}
use Rattle.format_json.specs.Language.{after_blanks}
use Rattle.format_json.specs.TokenAnswers.{IsWrongAt, OneToken}
use Rattle.format_json.specs.Reading.{AreTokens, BeginsWith, FindsDamage}
use Rattle.format_json.specs.declared.tokens.Token.{Token}

-- tokens that are read one after the other stand so
reads-tokens : (partial : Bool) (tokens : List Token) (a b : Ahead ℕ)
    → Reads OneToken partial a tokens b
    → AreTokens partial tokens (bytes_of a.tokens) (bytes_of b.tokens)
reads-tokens partial [] a b e = ap (λ p. bytes_of p.tokens) e
reads-tokens partial (t ∷ tokens) a b (c, (h, less, more)) =
    (bytes_of c.tokens, (h.1, reads-tokens partial tokens c b more))

module _ {R : Type 0} (f : ReaderState R) where
  -- no matter what follows, what was read are the tokens that the input begins with
  pub read-tokens : (input : List ℕ) (tokens : List Token) → HasRead (λ r. OneToken) f input tokens
      → BeginsWith f input tokens
  read-tokens input tokens h more may =
      let far = reads-tokens false tokens (bytes_at 0 (input ++ more)) (bytes_at f.place (f.ahead ++ more)) (h.reads more false may) in
      subst (λ xs. AreTokens false tokens xs (f.ahead ++ more)) (bytes-units (input ++ more))
      (subst (λ ys. AreTokens false tokens (bytes_of (units (input ++ more))) ys) (bytes-units (f.ahead ++ more)) far)

  -- nothing may follow
  none-follows : (ended : Bool) → MayFollow ended [] false
  none-follows false = tt
  none-follows true = (refl, refl)

  -- the failure is a cut
  cut-there : (place : ℕ) (rest more : List ℕ)
      → StopsAt OneToken false (bytes_at f.place (f.ahead ++ more)) (bytes_at place (rest ++ more))
      → Moves (bytes_at f.place (f.ahead ++ more)) (bytes_at place (rest ++ more))
      × IsWrongAt false (after_blanks (f.ahead ++ more)) (rest ++ more)
  cut-there place rest more (inl h) = absurd h
  cut-there place rest more (inr (m, h)) = (
    m,
    subst (λ l. IsWrongAt false (after_blanks l) (rest ++ more)) (bytes-units (f.ahead ++ more))
        (subst (IsWrongAt false (after_blanks (bytes_of (units (f.ahead ++ more))))) (bytes-units (rest ++ more)) h),
  )

  -- where the reader fails, the token ahead is damaged there
  pub fails-damaged : (place : ℕ) → FailsAt (λ r. OneToken) f place → FindsDamage f place
  fails-damaged place (rest, stops) =
      let cut = cut-there place rest [] (stops [] false (none-follows f.ended)) in
      let ends = same_Some _ _ (MovesOn-end _ _ _ _ cut.0) in (
        rest,
        (
          omega (arith, ends, width-units (f.ahead ++ []), width-units (rest ++ []), ap length (append-nil f.ahead), ap length (append-nil rest)),
          λ more may. (cut-there place rest more (stops more false may)).1,
        ),
      )
