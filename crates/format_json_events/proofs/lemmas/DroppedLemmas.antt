-- What a reader of tokens has taken stays taken: when a piece comes, at the end, when one token
-- more is read, and when blanks are dropped.
use Rattle.std.proofs.Common.{◌≡◌, ℕ, ◌+◌, ◌≤◌, ◌<◌, Bool, false, not, List, [], ◌∷◌, ◌++◌, length, take, drop, inl, inr, ap, sym, ◌∙◌, subst, refl, arith, append_assoc, length-append}
use Rattle.std.specs.Prelude.{Some}
use Rattle.std.proofs.Math.Seq.{drop-append-add}
use Rattle.std.proofs.lemmas.List.{map-append, take-append-drop, length-take-le}
use Rattle.winnow_stream.specs.Source.{units, width}
use Rattle.winnow_stream.specs.Units.{width-units}
use Rattle.winnow_stream.proofs.lemmas.FrontLemmas.{width-append}
use Rattle.winnow_parser.specs.Outcome.{Gives}
use Rattle.winnow_reader.specs.Place.{bytes_at}
use Rattle.winnow_reader.specs.State.{ReaderState, pushed, ended_after, unspent, taken_by, waiting_for}
use Rattle.winnow_reader.specs.Reading.{Reads, MayFollow, AwaitsAsked, HasRead}
use Rattle.winnow_reader.specs.Skips.{skipped}
use Rattle.winnow_reader.proofs.lemmas.ReadingLemmas.{HasRead-pushed, HasRead-ended, HasRead-value}
use Rattle.winnow_reader.proofs.lemmas.SinceLemmas.{HasReadSince-pushed}
use Rattle.format_lemmas.specs.Bytes.{Each, bytes_of}
use Rattle.format_lemmas.proofs.lemmas.ByteLemmas.{bytes-units}
use Rattle.format_json.specs.Language.{is_blank, after_blanks}
use Rattle.format_json.specs.Tokens.{TokenHere}
use Rattle.format_json.specs.TokenAnswers.{OneToken}
use Rattle.format_json.specs.TokenLaws.{IsParser-OneToken}
use Rattle.format_json.specs.Reading.{AreTokens}
use Rattle.format_json.proofs.lemmas.TokenReadingLemmas.{read-tokens}
use Rattle.format_json_events.specs.Blanks.{AreBlanks, with_blanks, HasTaken, DropsBlanks, TakesThrough, TakesAlso}
use Rattle.format_json.specs.declared.tokens.Token.{Token}
use Rattle.format_json.specs.declared.reading.JsonToken.{JsonToken}
use Rattle.format_json_events.proofs.lemmas.BlankLemmas.{after-dropped, blanks-join}

-- where nothing is wanted, nothing is waited for
none-awaited : (f : ReaderState JsonToken) → f.wanted ≡ 0 → AwaitsAsked (λ p. OneToken) f
none-awaited f e = λ wants. absurd (omega (arith, e, wants))

-- ---- A reader that dropped nothing

-- what it read it has taken
pub taken-read : (f : ReaderState JsonToken) (input : List ℕ) (tokens : List Token)
    → HasRead (λ p. OneToken) f input tokens → HasTaken f input tokens
taken-read f input tokens h = record {
  start = f.place;
  blanks = [];
  dropped = tt;
  there = omega arith;
  read = record { reads = h.reads; awaits = λ none. absurd (omega (arith, none)) };
  awaits = h.awaits;
}

-- ---- What was taken

module _ (f : ReaderState JsonToken) (input : List ℕ) (tokens : List Token) (h : HasTaken f input tokens) where
  -- no matter what follows, the input begins with what the reader took, and the blanks that it
  -- dropped, what is ahead and what follows come after
  pub taken-tokens : (more : List ℕ) → MayFollow f.ended more false
      → AreTokens false tokens (input ++ more) (h.blanks ++ (f.ahead ++ more))
  taken-tokens more may =
      subst (AreTokens false tokens (input ++ more)) (append_assoc h.blanks f.ahead more)
      (read-tokens (with_blanks f h.start h.blanks) input tokens h.read more may)

  -- what follows those blanks is what follows the blanks ahead
  pub taken-after : (more : List ℕ)
      → after_blanks (h.blanks ++ (f.ahead ++ more)) ≡ after_blanks (f.ahead ++ more)
  taken-after more = after-dropped h.blanks (f.ahead ++ more) h.dropped

-- ---- A token after blanks

module _ (partial : Bool) (start place : ℕ) (blanks ahead : List ℕ) (are : Each is_blank blanks) (there : place ≡ start + length blanks) where
  -- what the record reads of bytes it reads of blanks and these bytes
  token-after : (t : Token) (next : ℕ) (left : List ℕ)
      → OneToken partial (bytes_at place ahead) (Gives t (bytes_at next left))
      → OneToken partial (bytes_at start (blanks ++ ahead)) (Gives t (bytes_at next left))
  token-after t next left (m, h) =
      let long : place + width m.taken ≡ start + width (units blanks ++ m.taken) =
      omega (arith, there, width-append (units blanks) m.taken, width-units blanks) in
      let here : after_blanks ahead ≡ after_blanks (blanks ++ ahead) =
      sym (after-dropped blanks ahead are) in (
        record {
          taken = units blanks ++ m.taken;
          whole = map-append (λ (x : ℕ). (x, 1)) blanks ahead ∙ ap (λ l. units blanks ++ l) m.whole
              ∙ sym (append_assoc (units blanks) m.taken (units left));
          place = m.place ∙ ap Some long;
        },
        subst (λ l. TokenHere partial t l (bytes_of (units left)))
            (ap after_blanks (bytes-units ahead) ∙ here ∙ ap after_blanks (sym (bytes-units (blanks ++ ahead)))) h,
      )

-- ---- What stays

module _ (f : ReaderState JsonToken) where
  -- with a piece more, the same was taken
  pub taken-pushed : (piece : List ℕ) → f.ended ≡ false → (input : List ℕ) (tokens : List Token)
      → HasTaken f input tokens → HasTaken (pushed f piece) (input ++ piece) tokens
  taken-pushed piece goes input tokens h =
      let kept = HasRead-pushed (λ (p : JsonToken). OneToken) (with_blanks f h.start h.blanks) piece goes input tokens h.read in
      let since = HasReadSince-pushed (λ (p : JsonToken). OneToken) f.place f piece goes f.ahead [] (record { reads = λ more partial may. refl; awaits = h.awaits }) in
      record {
        start = h.start;
        blanks = h.blanks;
        dropped = h.dropped;
        there = h.there;
        read = record {
          reads = λ more partial may.
              subst (λ xs. Reads OneToken partial (bytes_at 0 ((input ++ piece) ++ more)) tokens (bytes_at h.start (xs ++ more)))
              (append_assoc h.blanks f.ahead piece) (kept.reads more partial may);
          awaits = λ none. absurd (omega (arith, none));
        };
        awaits = since.awaits;
      }

  -- so it was where what tokens took is dropped
  pub taken-unspent : TakesThrough f (unspent f)
  taken-unspent input tokens h = record {
    start = h.start;
    blanks = h.blanks;
    dropped = h.dropped;
    there = h.there;
    read = record { reads = h.read.reads; awaits = λ none. absurd (omega (arith, none)) };
    awaits = h.awaits;
  }

  -- so it was at the end
  pub taken-ended : TakesThrough f (ended_after f)
  taken-ended input tokens h = record {
    start = h.start;
    blanks = h.blanks;
    dropped = h.dropped;
    there = h.there;
    read = HasRead-ended (λ (p : JsonToken). OneToken) (with_blanks f h.start h.blanks) input tokens h.read;
    awaits = h.awaits;
  }

  -- so it was where the reader waits for what the record asked for
  pub taken-waits : (wanted : ℕ) → AwaitsAsked (λ p. OneToken) (waiting_for f wanted)
      → TakesThrough f (waiting_for f wanted)
  taken-waits wanted asked input tokens h = record {
    start = h.start;
    blanks = h.blanks;
    dropped = h.dropped;
    there = h.there;
    read = record { reads = h.read.reads; awaits = λ none. absurd (omega (arith, none)) };
    awaits = asked;
  }

  -- so it was where blanks are dropped
  taken-skipped : (n : ℕ) → AreBlanks n f.ahead → TakesThrough f (skipped f n)
  taken-skipped n (within, are) input tokens h =
      let all : h.blanks ++ f.ahead ≡ (h.blanks ++ take n f.ahead) ++ drop n f.ahead =
      ap (λ l. h.blanks ++ l) (sym (take-append-drop n f.ahead)) ∙ sym (append_assoc h.blanks (take n f.ahead) (drop n f.ahead)) in
      record {
        start = h.start;
        blanks = h.blanks ++ take n f.ahead;
        dropped = blanks-join h.blanks (take n f.ahead) h.dropped are;
        there = omega (arith, h.there, length-append h.blanks (take n f.ahead), length-take-le n f.ahead within);
        read = record {
          reads = λ more partial may.
              subst (λ xs. Reads OneToken partial (bytes_at 0 (input ++ more)) tokens (bytes_at h.start (xs ++ more))) all
              (h.read.reads more partial may);
          awaits = λ none. absurd (omega (arith, none));
        };
        awaits = none-awaited (skipped f n) refl;
      }

  -- with a token more, that was taken too
  pub taken-token : (t : Token) (n : ℕ) → 0 < n → n ≤ length f.ahead
      → OneToken (not f.ended) (bytes_at f.place f.ahead) (Gives t (bytes_at (f.place + n) (drop n f.ahead)))
      → TakesAlso f t (taken_by f n)
  taken-token t n some within gives input tokens h =
      let kept = with_blanks f h.start h.blanks in
      let m = length h.blanks + n in
      let here : f.place + n ≡ h.start + m = omega (arith, h.there) in
      let left : drop n f.ahead ≡ drop m (h.blanks ++ f.ahead) = sym (drop-append-add h.blanks f.ahead n) in
      let after = token-after (not f.ended) h.start f.place h.blanks f.ahead h.dropped h.there t (f.place + n) (drop n f.ahead) gives in
      let all = subst (λ p. OneToken (not f.ended) (bytes_at h.start (h.blanks ++ f.ahead)) (Gives t (bytes_at p (drop m (h.blanks ++ f.ahead))))) here
      (subst (λ l. OneToken (not f.ended) (bytes_at h.start (h.blanks ++ f.ahead)) (Gives t (bytes_at (f.place + n) l))) left after) in
      let far = HasRead-value (λ (p : JsonToken). OneToken) kept t m IsParser-OneToken (omega (arith, some)) (omega (arith, within, length-append h.blanks f.ahead)) all input tokens h.read in
      record {
        start = f.place + n;
        blanks = [];
        dropped = tt;
        there = omega arith;
        read = record {
          reads = λ more partial may.
              subst (λ p. Reads OneToken partial (bytes_at 0 (input ++ more)) (tokens ++ t ∷ []) (bytes_at p (drop n f.ahead ++ more))) (sym here)
              (subst (λ l. Reads OneToken partial (bytes_at 0 (input ++ more)) (tokens ++ t ∷ []) (bytes_at (h.start + m) (l ++ more))) (sym left)
              (far.reads more partial may));
          awaits = λ none. absurd (omega (arith, none));
        };
        awaits = none-awaited (taken_by f n) refl;
      }

-- so it was where all blanks ahead are dropped
pub taken-dropped : (old new : ReaderState JsonToken) → DropsBlanks old new → TakesThrough old new
taken-dropped old new (inl (n, (some, are, rest, is))) input tokens h =
    subst (λ f. HasTaken f input tokens) (sym is) (taken-skipped old n are input tokens h)
taken-dropped old new (inr (none, is)) input tokens h =
    subst (λ f. HasTaken f input tokens) (sym is) h
