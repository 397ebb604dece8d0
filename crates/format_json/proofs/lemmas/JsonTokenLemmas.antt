-- Tokens: the same bytes begin with one token at most, and a reader finds it.
use Rattle.std.proofs.Common.{◌≡◌, ◌≢◌, ℕ, ℤ, ◌≤◌, Bool, true, false, List, [], ◌∷◌, ◌++◌, length, take, drop, Option, Some, ◌↔◌, ◌⊎◌, inl, inr, ap, sym, ◌∙◌, subst, refl, arith, append_assoc, append-nil, take_all, take-append-drop, length-append, length-drop}
use Rattle.std.proofs.Math.Seq.{drop-append_seam}
use Rattle.std.proofs.lemmas.List.{append_cancel_left, append_cancel_right}
use Rattle.std.specs.Int.{w64}
use Rattle.std.specs.Prelude.{encode_utf8_all}
use Rattle.winnow_count.specs.Reading.{ReadsSigned}
use Rattle.winnow_stream.specs.Location.{location_behind}
use Rattle.winnow_stream.specs.Source.{width}
use Rattle.winnow_parser.specs.Outcome.{Ahead, Backtracks, Cuts, Needs, Refuses, Gives, Fails, Moves}
use Rattle.winnow_parser.specs.Determined.{IsDetermined, Shows}
use Rattle.format_lemmas.specs.Bytes.{Each, Starts, StartsWith, EndsRun, bytes_of}
use Rattle.format_lemmas.proofs.lemmas.ByteLemmas.{heads, tails, length-bytes, each-after}
use Rattle.format_json_scalars.specs.Numbers.{IsNumber, is_number_byte}
use Rattle.format_json_scalars.specs.Strings.{SpellsChars, StringAhead}
use Rattle.format_json_scalars.specs.StringAnswers.{BeginsChar, IsWrong, IsDamagedAt, IsBegun}
use Rattle.format_json.specs.Language.{after_blanks}
use Rattle.format_json_scalars.specs.NumberAnswers.{NumberHere}
use Rattle.format_json.specs.Founds.{MayFollow, HasNone, IsFound}
use Rattle.format_json.specs.Tokens.{Lexeme, Word, Digits, Quoted, Ending, lexeme_of, LexemeHere, TokenHere, word_from}
use Rattle.format_json.specs.TokenAnswers.{IsWrongAt, MayBecome, IsTokenFound, OneToken}
use Rattle.format_json_scalars.specs.Steps.{IsReading}
use Rattle.format_json_scalars.specs.declared.numbers.Number.{Number}
use Rattle.format_json.specs.declared.found.Found.TheVariants as found
use Rattle.format_json_scalars.specs.declared.strings.Reading.TheVariants as reading
use Rattle.format_json.specs.declared.tokens.Token.{Token}
use Rattle.format_json.specs.declared.tokens.Token.TheVariants as token
use Rattle.format_json.specs.TokenLaws.{begun-char}
use Rattle.format_json_scalars.proofs.lemmas.NumberAnswerLemmas.{number-bytes, number-some}
use Rattle.format_json_scalars.proofs.lemmas.RunLemmas.{split-once}
use Rattle.format_json_scalars.proofs.lemmas.SpellingLemmas.{spelling-once, spells-past}
use Rattle.format_json_scalars.proofs.lemmas.StringLemmas.{string-once, starts-split, begun-missed, begun-begun}
use Rattle.format_json.proofs.lemmas.ScalarLemmas.{Settled, number-none}
use Rattle.format_json_scalars.proofs.lemmas.NumberTextLemmas.{some-once}
use Rattle.format_json.proofs.lemmas.FoundLemmas.{none-here}

-- ---- The first byte of a token

-- the bytes begin as what is said does: with the first byte of a word, which is neither one of a
-- number nor a quote; with a byte of a number; with a quote; or there are none
abbrev pub BeginsAs : Lexeme → List ℕ → Type 0
BeginsAs (Word w) b = (c : ℕ) × ((q : List ℕ) × ((b ≡ c ∷ q) × (word_from c ≡ w)
    × (is_number_byte c ≡ false) × ¬ (c ≡ 34) × (w ≢ [])))
BeginsAs (Digits text integer) b =
    (c : ℕ) × ((q : List ℕ) × ((b ≡ c ∷ q) × (is_number_byte c ≡ true)))
BeginsAs (Quoted value) b = (q : List ℕ) × (b ≡ 34 ∷ q)
BeginsAs Ending b = b ≡ []

-- a number begins with one of its bytes
digits-begin : (t b r : List ℕ) → b ≡ t ++ r → IsNumber t
    → (c : ℕ) × ((q : List ℕ) × ((b ≡ c ∷ q) × (is_number_byte c ≡ true)))
digits-begin [] b r e is = absurd (let l = number-some [] is in omega (arith, l))
digits-begin (c ∷ q) b r e is = (c, (q ++ r, (e, (number-bytes (c ∷ q) is).0)))

-- where a token stands, the bytes begin as it does
pub token-begins : (partial : Bool) (t : Token) (b r : List ℕ) → TokenHere partial t b r
    → BeginsAs (lexeme_of t) b
token-begins partial token.StartArray b r e = (91, (r, (e, refl, refl, (λ z. omega (arith, z)), λ z. cc z)))
token-begins partial token.EndArray b r e = (93, (r, (e, refl, refl, (λ z. omega (arith, z)), λ z. cc z)))
token-begins partial token.StartObject b r e = (123, (r, (e, refl, refl, (λ z. omega (arith, z)), λ z. cc z)))
token-begins partial token.EndObject b r e = (125, (r, (e, refl, refl, (λ z. omega (arith, z)), λ z. cc z)))
token-begins partial token.Comma b r e = (44, (r, (e, refl, refl, (λ z. omega (arith, z)), λ z. cc z)))
token-begins partial token.Colon b r e = (58, (r, (e, refl, refl, (λ z. omega (arith, z)), λ z. cc z)))
token-begins partial token.Null b r e = (110, (_, (e, refl, refl, (λ z. omega (arith, z)), λ z. cc z)))
token-begins partial (token.Bool true) b r e = (116, (_, (e, refl, refl, (λ z. omega (arith, z)), λ z. cc z)))
token-begins partial (token.Bool false) b r e = (102, (_, (e, refl, refl, (λ z. omega (arith, z)), λ z. cc z)))
token-begins partial (token.Number n) b r ((e, is, ends), reads) = digits-begin n.text.items b r e is
token-begins partial (token.String s) b r (cs, ((t, (e, spells)), has)) = (_, e)
token-begins partial token.End b r h = h.1

-- ---- One token

module _ (partial : Bool) (b r s : List ℕ) where
  -- two words of the same bytes are the same
  words-once : (w v : List ℕ) → BeginsAs (Word w) b → BeginsAs (Word v) b
      → LexemeHere partial (Word w) b r
      → LexemeHere partial (Word v) b s → (Word w ≡ Word v) × (r ≡ s)
  words-once w v (c, (q, (e, from, digit, quote, some))) (d, (p, (f, from2, digit2, quote2, some2))) h g =
      let same : w ≡ v = sym from ∙ ap word_from (heads c d q p (sym e ∙ f)) ∙ from2 in
      (ap Word same, append_cancel_left w r s (sym h ∙ g ∙ ap (λ l. l ++ s) (sym same)))

  -- two numbers
  digits-once : (t u : List ℕ) (i j : Option ℤ) → LexemeHere partial (Digits t i) b r
      → LexemeHere partial (Digits u j) b s → (Digits t i ≡ Digits u j) × (r ≡ s)
  digits-once t u i j ((e, is, ends), reads) ((f, js, fends), also) =
      let split = split-once is_number_byte t r u s (number-bytes t is) ends.0 (number-bytes u js) fends.0 (sym e ∙ f) in
      let there = subst (λ l. (n : ℤ) → (i ≡ Some n) ↔ ReadsSigned w64 l n) split.0 reads in
      (ap (λ l. Digits l i) split.0 ∙ ap (Digits u) (some-once (ReadsSigned w64 u) i j there also), split.1)

  -- two strings
  quoted-once : (v w : List ℕ) → LexemeHere partial (Quoted v) b r
      → LexemeHere partial (Quoted w) b s → (Quoted v ≡ Quoted w) × (r ≡ s)
  quoted-once v w (cs, (h, has)) (ds, (g, also)) =
      let one = string-once b cs r ds s h g in
      (ap Quoted (has ∙ ap encode_utf8_all one.0 ∙ sym also), one.1)

  -- what is said where the bytes begin in one way is of one kind
  lexeme-once : (x y : Lexeme) → BeginsAs x b → BeginsAs y b → LexemeHere partial x b r
      → LexemeHere partial y b s → (x ≡ y) × (r ≡ s)
  lexeme-once (Word w) (Word v) p q h g = words-once w v p q h g
  lexeme-once (Word w) (Digits u j) (c, (q, (e, from, digit, quote, some))) (d, (p, (f, is))) h g =
      absurd (let z = sym digit ∙ ap is_number_byte (heads c d q p (sym e ∙ f)) ∙ is in cc z)
  lexeme-once (Word w) (Quoted v) (c, (q, (e, from, digit, quote, some))) (p, f) h g =
      absurd (quote (heads c 34 q p (sym e ∙ f)))
  lexeme-once (Word w) Ending (c, (q, (e, from, digit, quote, some))) f h g = absurd (let z = sym e ∙ f in cc z)
  lexeme-once (Digits t i) (Word v) (d, (p, (f, is))) (c, (q, (e, from, digit, quote, some))) h g =
      absurd (let z = sym digit ∙ ap is_number_byte (heads c d q p (sym e ∙ f)) ∙ is in cc z)
  lexeme-once (Digits t i) (Digits u j) p q h g = digits-once t u i j h g
  lexeme-once (Digits t i) (Quoted v) (d, (p, (f, is))) (q, e) h g =
      absurd (let z = ap is_number_byte (heads 34 d q p (sym e ∙ f)) ∙ is in cc z)
  lexeme-once (Digits t i) Ending (d, (p, (f, is))) e h g = absurd (let z = sym f ∙ e in cc z)
  lexeme-once (Quoted w) (Word v) (p, f) (c, (q, (e, from, digit, quote, some))) h g =
      absurd (quote (heads c 34 q p (sym e ∙ f)))
  lexeme-once (Quoted w) (Digits u j) (q, e) (d, (p, (f, is))) h g =
      absurd (let z = ap is_number_byte (heads 34 d q p (sym e ∙ f)) ∙ is in cc z)
  lexeme-once (Quoted w) (Quoted v) p q h g = quoted-once w v h g
  lexeme-once (Quoted w) Ending (p, f) e h g = absurd (let z = sym f ∙ e in cc z)
  lexeme-once Ending (Word v) e (c, (q, (f, from, digit, quote, some))) h g = absurd (let z = sym f ∙ e in cc z)
  lexeme-once Ending (Digits u j) e (d, (p, (f, is))) h g = absurd (let z = sym f ∙ e in cc z)
  lexeme-once Ending (Quoted v) e (p, f) h g = absurd (let z = sym f ∙ e in cc z)
  lexeme-once Ending Ending e f h g = (refl, h.2 ∙ sym g.2)

-- the same bytes begin with one token at most
pub token-once : (partial : Bool) (t u : Token) (b r s : List ℕ) → TokenHere partial t b r
    → TokenHere partial u b s → (lexeme_of t ≡ lexeme_of u) × (r ≡ s)
token-once partial t u b r s h g =
    lexeme-once partial b r s (lexeme_of t) (lexeme_of u) (token-begins partial t b r h) (token-begins partial u b s g) h g

-- ---- Damage

module _ (partial : Bool) where
  -- no character stands where a string is wrong
  wrong-here : (r : List ℕ) → IsWrong partial r → ¬ (BeginsChar r)
  wrong-here r (quote, none) begins = none [] (λ p. refl) (subst BeginsChar (sym (append-nil r)) begins)

  -- a string is wrong at one place
  wrong-once : (cs ds t u r s : List ℕ) → SpellsChars cs t → SpellsChars ds u → t ++ r ≡ u ++ s
      → IsWrong partial r → IsWrong partial s → r ≡ s
  wrong-once [] [] t u r s p q e wr ws = sym (ap (λ l. l ++ r) p) ∙ e ∙ ap (λ l. l ++ s) q
  wrong-once [] (d ∷ ds) t u r s p (f, (g, (is, one, more))) e wr ws =
      absurd (wrong-here r wr (d, (f, (g ++ s, (sym (ap (λ l. l ++ r) p) ∙ e ∙ ap (λ l. l ++ s) is ∙ append_assoc f g s, one)))))
  wrong-once (c ∷ cs) [] t u r s (f, (g, (is, one, more))) q e wr ws =
      absurd (wrong-here s ws (c, (f, (g ++ r, (sym (ap (λ l. l ++ s) q) ∙ sym e ∙ ap (λ l. l ++ r) is ∙ append_assoc f g r, one)))))
  wrong-once (c ∷ cs) (d ∷ ds) t u r s (f, (g, (is, one, more))) (h, (k, (so, other, later))) e wr ws =
      let whole : f ++ (g ++ r) ≡ h ++ (k ++ s) =
      sym (append_assoc f g r) ∙ sym (ap (λ l. l ++ r) is) ∙ e ∙ ap (λ l. l ++ s) so ∙ append_assoc h k s in
      let same = spelling-once c d f h (g ++ r) (k ++ s) one other whole in
      wrong-once cs ds g k r s more later same.1 wr ws

  -- so a string is damaged at one place
  pub damaged-once : (b r s : List ℕ) → IsDamagedAt partial b r → IsDamagedAt partial b s → r ≡ s
  damaged-once b r s (t, (cs, (e, p, wr))) (u, (ds, (f, q, ws))) =
      wrong-once cs ds t u r s p q (tails 34 34 (t ++ r) (u ++ s) (sym e ∙ f)) wr ws

  -- no quote stands where a string is wrong, no matter what follows
  wrong-quote : (r more after : List ℕ) → MayFollow partial more → IsWrong partial r
      → ¬ (r ++ more ≡ 34 ∷ after)
  wrong-quote [] more after may wrong e = wrong-end partial refl
    where
      wrong-end : (p : Bool) → partial ≡ p → ⊥
      wrong-end true same = wrong.1 (97 ∷ []) (λ f. let z = sym same ∙ f in cc z) begun-char
      wrong-end false same = let z = sym (may same) ∙ e in cc z
  wrong-quote (x ∷ r) more after may wrong e = wrong.0 (heads x 34 (r ++ more) after e)

  -- a damaged string is none, no matter what follows
  pub damaged-none : (b r more ds after : List ℕ) → IsDamagedAt partial b r
      → MayFollow partial more → ¬ (StringAhead (b ++ more) ds after)
  damaged-none b r more ds after (t, (cs, (e, p, wrong))) may (u, (f, q)) =
      let whole : t ++ (r ++ more) ≡ u ++ 34 ∷ after =
      sym (append_assoc t r more) ∙ tails 34 34 _ _ (sym (ap (λ l. l ++ more) e) ∙ f) in
      let on = spells-past cs ds t u (r ++ more) after p q whole in
      stop on.0 on.1.0 on.1.1.1 on.1.1.2
    where
      stop : (es w : List ℕ) → SpellsChars es w → r ++ more ≡ w ++ 34 ∷ after → ⊥
      stop [] w none same = wrong-quote r more after may wrong (same ∙ ap (λ l. l ++ 34 ∷ after) none)
      stop (c ∷ es) w (f, (g, (is, one, later))) same =
          wrong.1 more may (c, (f, (g ++ 34 ∷ after, (same ∙ ap (λ l. l ++ 34 ∷ after) is ∙ append_assoc f g (34 ∷ after), one))))

-- where a token is that begins with a quote, it is a string
token-string : (partial : Bool) (t : Token) (b q r : List ℕ) → b ≡ 34 ∷ q → TokenHere partial t b r
    → (cs : List ℕ) × StringAhead b cs r
token-string partial t b q r e h = of (lexeme_of t) (token-begins partial t b r h) h
  where
    of : (x : Lexeme) → BeginsAs x b → LexemeHere partial x b r → (cs : List ℕ) × StringAhead b cs r
    of (Word w) (c, (p, (f, from, digit, quote, some))) h = absurd (quote (heads c 34 p q (sym f ∙ e)))
    of (Digits t i) (c, (p, (f, is))) h =
        absurd (let z = sym is ∙ ap is_number_byte (heads c 34 p q (sym f ∙ e)) in cc z)
    of (Quoted v) p (cs, (ahead, has)) = (cs, ahead)
    of Ending f h = absurd (let z = sym e ∙ f in cc z)

-- where all bytes may be those of a number and more may follow, no token has ended
pub number-open : (t : Token) (b r : List ℕ) → Each is_number_byte b → ¬ (TokenHere true t b r)
number-open t b r each h = of (lexeme_of t) (token-begins true t b r h) h
  where
    first : (c : ℕ) (q : List ℕ) → b ≡ c ∷ q → is_number_byte c ≡ true
    first c q e = (subst (Each is_number_byte) e each).0

    run : (r : List ℕ) → Each is_number_byte r → EndsRun is_number_byte true r → ⊥
    run [] each ends = ends.1 refl refl
    run (x ∷ r) each ends = ends.0 each.0

    of : (x : Lexeme) → BeginsAs x b → LexemeHere true x b r → ⊥
    of (Word w) (c, (q, (e, from, digit, quote, some))) h = let z = sym digit ∙ first c q e in cc z
    of (Digits t i) p ((e, is, ends), reads) =
        run r (each-after is_number_byte t r (subst (Each is_number_byte) e each)) ends
    of (Quoted v) (q, e) h = let z = first 34 q e in cc z
    of Ending e h = let z = h.0 in cc z

-- ---- One answer

module _ (partial : Bool) (here : List ℕ) where
  -- no token stands where one is damaged
  pub damage-none : (t : Token) (r rest : List ℕ) → IsWrongAt partial here rest
      → ¬ (TokenHere partial t here r)
  damage-none t r rest (inl d) h =
      let s = token-string partial t here _ r d.1.1.0 h in
      damaged-none partial here rest [] s.0 r d (λ p. refl) (subst (λ l. StringAhead l s.0 r) (sym (append-nil here)) s.1)
  damage-none t r rest (inr (e, none)) h = none-here (TokenHere partial) partial here none.2 t r h

  -- damage is at one place
  damage-once : (r s : List ℕ) → IsWrongAt partial here r → IsWrongAt partial here s → r ≡ s
  damage-once r s (inl d) (inl e) = damaged-once partial here r s d e
  damage-once r s (inl d) (inr (e, none)) = absurd (none.0 (subst (StartsWith 34) (sym d.1.1.0) refl))
  damage-once r s (inr (e, none)) (inl d) = absurd (none.0 (subst (StartsWith 34) (sym d.1.1.0) refl))
  damage-once r s (inr (e, none)) (inr (f, other)) = e ∙ sym f

-- where more bytes are needed, no token stands
becomes-none : (here r : List ℕ) (t : Token) → MayBecome here → ¬ (TokenHere true t here r)
becomes-none here r t (inl each) h = number-open t here r each h
becomes-none here r t (inr (none, more)) h = none t r h

-- where a string is begun and no quote stands, there are no bytes
begun-quote : (here : List ℕ) → IsBegun here → ¬ (StartsWith 34 here) → Each is_number_byte here
begun-quote [] begun none = tt
begun-quote (x ∷ here) (more, (cs, (t, (e, spells)))) none =
    absurd (none (heads x 34 (here ++ more) (t ++ 34 ∷ []) e))

-- nor is one damaged
becomes-right : (here rest : List ℕ) → MayBecome here → ¬ (IsWrongAt true here rest)
becomes-right here rest (inl each) (inl d) =
    let z = (subst (Each is_number_byte) d.1.1.0 each).0 in cc z
becomes-right here rest (inl each) (inr (e, none)) = none.1 refl each
becomes-right here rest (inr (never, inl (more, (cs, ahead)))) (inl d) =
    damaged-none true here rest more cs [] d (λ p. absurd (let z = sym p in cc z)) ahead
becomes-right here rest (inr (never, inl begun)) (inr (e, none)) =
    none.1 refl (begun-quote here begun none.0)
becomes-right here rest (inr (never, inr (t, (more, is)))) (inl d) =
    let h = subst (λ x. LexemeHere true x (here ++ more) []) (sym is) (sym (append-nil (here ++ more))) in
    let s = token-string true t (here ++ more) _ [] (ap (λ l. l ++ more) d.1.1.0) h in
    damaged-none true here rest more s.0 [] d (λ p. absurd (let z = sym p in cc z)) s.1
becomes-right here rest (inr (never, inr (t, (more, is)))) (inr (e, none)) =
    none.2 more (λ p. absurd (let z = sym p in cc z)) t [] (subst (λ x. LexemeHere true x (here ++ more) []) (sym is) (sym (append-nil (here ++ more))))

-- two moves that leave the same bytes lead to one place
moved-once : (a b c : Ahead ℕ) → Moves a b → Moves a c → bytes_of b.tokens ≡ bytes_of c.tokens
    → b ≡ c
moved-once a b c m k same =
    let left : length b.tokens ≡ length c.tokens = sym (length-bytes b.tokens) ∙ ap length same ∙ length-bytes c.tokens in
    let whole : m.taken ++ b.tokens ≡ k.taken ++ c.tokens = sym m.whole ∙ k.whole in
    let long : length m.taken ≡ length k.taken =
    omega (arith, left, ap length whole, length-append m.taken b.tokens, length-append k.taken c.tokens) in
    let rest : b.tokens ≡ c.tokens =
    sym (drop-append_seam m.taken b.tokens) ∙ ap (λ n. drop n (m.taken ++ b.tokens)) long ∙ ap (drop (length k.taken)) whole ∙ drop-append_seam k.taken c.tokens in
    let front : m.taken ≡ k.taken =
    append_cancel_right m.taken k.taken c.tokens (ap (λ l. m.taken ++ l) (sym rest) ∙ whole) in
    let there = m.place ∙ ap (λ l. location_behind a.location (width l)) front ∙ sym k.place in
    ap (λ l. record { location = l; tokens = b.tokens }) there ∙ ap (λ l. record { location = c.location; tokens = l }) rest

-- the reader of tokens has one answer to each question
pub token-determined : IsDetermined (Shows lexeme_of) OneToken
token-determined partial a (Gives t b) (Gives u c) s g (m, h) (k, j) =
    let one = token-once partial t u (after_blanks (bytes_of a.tokens)) (bytes_of b.tokens) (bytes_of c.tokens) h j in
    (one.0, moved-once a b c m k one.1)
token-determined partial a (Gives t b) (Fails (Backtracks c)) s g h j = j
token-determined partial a (Gives t b) (Fails (Cuts c)) s g h j =
    damage-none partial (after_blanks (bytes_of a.tokens)) t (bytes_of b.tokens) (bytes_of c.tokens) j.1 h.1
token-determined partial a (Gives t b) (Fails (Needs n)) s g h (p, need, may) =
    becomes-none (after_blanks (bytes_of a.tokens)) (bytes_of b.tokens) t may (subst (λ q. TokenHere q t (after_blanks (bytes_of a.tokens)) (bytes_of b.tokens)) p h.1)
token-determined partial a (Gives t b) (Fails Refuses) s g h j = g
token-determined partial a (Fails (Backtracks b)) w s g h j = absurd h
token-determined partial a (Fails (Cuts b)) (Gives u c) s g h j =
    damage-none partial (after_blanks (bytes_of a.tokens)) u (bytes_of c.tokens) (bytes_of b.tokens) h.1 j.1
token-determined partial a (Fails (Cuts b)) (Fails (Backtracks c)) s g h j = absurd j
token-determined partial a (Fails (Cuts b)) (Fails (Cuts c)) s g (m, h) (k, j) =
    ap Cuts (moved-once a b c m k (damage-once partial (after_blanks (bytes_of a.tokens)) (bytes_of b.tokens) (bytes_of c.tokens) h j))
token-determined partial a (Fails (Cuts b)) (Fails (Needs n)) s g h (p, need, may) =
    absurd (becomes-right (after_blanks (bytes_of a.tokens)) (bytes_of b.tokens) may (subst (λ q. IsWrongAt q (after_blanks (bytes_of a.tokens)) (bytes_of b.tokens)) p h.1))
token-determined partial a (Fails (Cuts b)) (Fails Refuses) s g h j = absurd g
token-determined partial a (Fails (Needs n)) (Gives u c) s g (p, need, may) j =
    becomes-none (after_blanks (bytes_of a.tokens)) (bytes_of c.tokens) u may (subst (λ q. TokenHere q u (after_blanks (bytes_of a.tokens)) (bytes_of c.tokens)) p j.1)
token-determined partial a (Fails (Needs n)) (Fails (Backtracks c)) s g h j = absurd j
token-determined partial a (Fails (Needs n)) (Fails (Cuts c)) s g (p, need, may) j =
    absurd (becomes-right (after_blanks (bytes_of a.tokens)) (bytes_of c.tokens) may (subst (λ q. IsWrongAt q (after_blanks (bytes_of a.tokens)) (bytes_of c.tokens)) p j.1))
token-determined partial a (Fails (Needs n)) (Fails (Needs k)) s g h j =
    ap Needs (h.1 ∙ sym j.1)
token-determined partial a (Fails (Needs n)) (Fails Refuses) s g h j = absurd g
token-determined partial a (Fails Refuses) w s g h j = absurd s

-- ---- Words

-- if two lists, joined, are two others, joined, one of the first lists is a prefix of the other
fronts : (b more w r : List ℕ) → b ++ more ≡ w ++ r
    → ((s : List ℕ) × (b ≡ w ++ s)) ⊎ ((s : List ℕ) × (w ≡ b ++ s))
fronts [] more w r e = inr (w, refl)
fronts (x ∷ b) more [] r e = inl (x ∷ b, refl)
fronts (x ∷ b) more (y ∷ w) r e =
    let same = heads x y (b ++ more) (w ++ r) e in
    elim (fronts b more w r (tails x y (b ++ more) (w ++ r) e)) [
      | inl p ↦ inl (p.0, ap (λ l. x ∷ l) p.1 ∙ ap (λ z. z ∷ (w ++ p.0)) same)
      | inr p ↦ inr (p.0, ap (λ l. y ∷ l) p.1 ∙ ap (λ z. z ∷ (b ++ p.0)) (sym same))
    ]

-- bytes that begin with a byte still do where more follows
starts-more : (first : ℕ) (b more : List ℕ) → StartsWith first b → StartsWith first (b ++ more)
starts-more first [] more h = absurd h
starts-more first (x ∷ b) more h = h

-- the first byte of bytes that begin with one
first-is : (first c : ℕ) (b q : List ℕ) → StartsWith first b → b ≡ c ∷ q → c ≡ first
first-is first c [] q h e = absurd h
first-is first c (x ∷ b) q h e = sym (heads x c b q e) ∙ h

module _ (first : ℕ) (no_quote : ¬ (first ≡ 34)) (no_number : ¬ (is_number_byte first ≡ true)) where
  -- a token that begins with this byte is the word that does
  word-only : (partial : Bool) (t : Token) (b r : List ℕ) → StartsWith first b
      → TokenHere partial t b r → (b ≡ word_from first ++ r) × (word_from first ≢ [])
  word-only partial t b r starts h = of (lexeme_of t) (token-begins partial t b r h) h
    where
      of : (x : Lexeme) → BeginsAs x b → LexemeHere partial x b r
          → (b ≡ word_from first ++ r) × (word_from first ≢ [])
      of (Word w) (c, (q, (e, from, digit, quote, some))) h =
          let same : word_from first ≡ w = ap word_from (sym (first-is first c b q starts e)) ∙ from in
          (h ∙ ap (λ l. l ++ r) (sym same), λ z. some (sym same ∙ z))
      of (Digits t i) (c, (q, (e, is))) h =
          absurd (no_number (ap is_number_byte (sym (first-is first c b q starts e)) ∙ is))
      of (Quoted v) (q, e) h = absurd (no_quote (sym (first-is first 34 b q starts e)))
      of Ending e h = absurd (subst (StartsWith first) e starts)

  -- not all bytes are those of a number
  word-no_number : (b : List ℕ) → StartsWith first b → ¬ (Each is_number_byte b)
  word-no_number [] starts each = starts
  word-no_number (x ∷ b) starts each = no_number (ap is_number_byte (sym starts) ∙ each.0)

  -- no quote stands there
  word-no_quote : (b : List ℕ) → StartsWith first b → ¬ (StartsWith 34 b)
  word-no_quote [] starts quote = starts
  word-no_quote (x ∷ b) starts quote = no_quote (sym starts ∙ quote)

  module _ (partial : Bool) (b : List ℕ) (starts : StartsWith first b) where
    module _ (whole : (rest : List ℕ) → ¬ (b ≡ word_from first ++ rest)) where
      -- if the bytes do not begin with the word, and are no prefix of it that may become the word,
      -- they begin with no token
      pub word-damaged : (partial ≡ true → (rest : List ℕ) → ¬ (word_from first ≡ b ++ rest))
          → IsWrongAt partial b b
      word-damaged begun = inr (refl, (word-no_quote b starts, (λ p each. word-no_number b starts each), none))
        where
          cut : (p : Bool) → partial ≡ p → (more rest : List ℕ) → MayFollow partial more
              → b ++ more ≡ word_from first ++ rest
              → ((s : List ℕ) × (word_from first ≡ b ++ s)) → ⊥
          cut true same more rest may e f = begun same f.0 f.1
          cut false same more rest may e f =
              whole rest (sym (append-nil b) ∙ ap (λ l. b ++ l) (sym (may same)) ∙ e)

          none : HasNone (TokenHere partial) partial b
          none more may t r h =
              let e = (word-only partial t (b ++ more) r (starts-more first b more starts) h).0 in
              elim (fronts b more (word_from first) r e) [ inl p ↦ whole p.0 p.1 | inr p ↦ cut partial refl more r may e p ]

      -- if the bytes are a prefix of the word, more bytes may make them a token
      pub word-begun : (t : Token) (rest : List ℕ) → lexeme_of t ≡ Word (word_from first)
          → word_from first ≡ b ++ rest → MayBecome b
      word-begun t rest is e = inr ((λ u r h. whole r (word-only true u b r starts h).0), inr (t, (rest, is ∙ ap Word e)))

-- ---- Numbers

-- a token that begins with a byte of a number is a number
digits-of : (partial : Bool) (t : Token) (b r : List ℕ) → Starts is_number_byte b
    → TokenHere partial t b r → (n : Number) × NumberHere partial n b r
digits-of partial token.StartArray b r s e = absurd (let z = subst (Starts is_number_byte) e s in cc z)
digits-of partial token.EndArray b r s e = absurd (let z = subst (Starts is_number_byte) e s in cc z)
digits-of partial token.StartObject b r s e = absurd (let z = subst (Starts is_number_byte) e s in cc z)
digits-of partial token.EndObject b r s e = absurd (let z = subst (Starts is_number_byte) e s in cc z)
digits-of partial token.Comma b r s e = absurd (let z = subst (Starts is_number_byte) e s in cc z)
digits-of partial token.Colon b r s e = absurd (let z = subst (Starts is_number_byte) e s in cc z)
digits-of partial token.Null b r s e = absurd (let z = subst (Starts is_number_byte) e s in cc z)
digits-of partial (token.Bool true) b r s e = absurd (let z = subst (Starts is_number_byte) e s in cc z)
digits-of partial (token.Bool false) b r s e = absurd (let z = subst (Starts is_number_byte) e s in cc z)
digits-of partial (token.Number n) b r s (ahead, reads) = (n, (n.text.items, (ahead, (refl, reads))))
digits-of partial (token.String v) b r s (cs, ((t, (e, spells)), has)) =
    absurd (let z = subst (Starts is_number_byte) e s in cc z)
digits-of partial token.End b r s h = absurd (subst (Starts is_number_byte) h.1 s)

-- bytes that begin with one of a number still do where more follows
starts-on : (b more : List ℕ) → Starts is_number_byte b → Starts is_number_byte (b ++ more)
starts-on [] more s = absurd s
starts-on (x ∷ b) more s = s

-- a number begins with no quote
starts-no_quote : (b : List ℕ) → Starts is_number_byte b → ¬ (StartsWith 34 b)
starts-no_quote [] s quote = s
starts-no_quote (x ∷ b) s quote = let z = ap is_number_byte (sym quote) ∙ s in cc z

-- where all bytes are those of a number, none is left after the run of them
none-left : (b : List ℕ) (count : ℕ) → count ≤ length b → Each is_number_byte b
    → ¬ (Starts is_number_byte (drop count b)) → count ≡ length b
none-left b count within each stops =
    let z = rest (drop count b) (each-after is_number_byte (take count b) (drop count b) (subst (Each is_number_byte) (sym (take-append-drop count b)) each)) stops in
    omega (arith, within, z, length-drop count b)
  where
    rest : (d : List ℕ) → Each is_number_byte d → ¬ (Starts is_number_byte d) → length d ≡ 0
    rest [] h none = refl
    rest (x ∷ d) h none = absurd (none h.0)

module _ (partial : Bool) (b : List ℕ) (count : ℕ) (starts : Starts is_number_byte b) where
  -- where all bytes may be those of a number, more are needed
  pub number-needs : count ≡ length b → Each is_number_byte (take count b) → MayBecome b
  number-needs all each = inl (subst (Each is_number_byte) (take_all count b (omega (arith, all))) each)

  -- where a run has ended and is no number, no token stands there
  pub number-wrong : count ≤ length b → Each is_number_byte (take count b)
      → ¬ (Starts is_number_byte (drop count b)) → Settled partial b count
      → ¬ (IsNumber (take count b)) → IsWrongAt partial b b
  number-wrong within each stops settled never =
      inr (
        refl,
        (
          starts-no_quote b starts,
          (λ p all. settled-open settled p (none-left b count within all stops)),
          λ more may t r h.
              let n = digits-of partial t (b ++ more) r (starts-on b more starts) h in
              number-none partial b count within each stops settled never more may n.0 r n.1,
        ),
      )
    where
      settled-open : Settled partial b count → partial ≡ true → ¬ (count ≡ length b)
      settled-open (inl s) p = s.1
      settled-open (inr s) p = absurd (let z = sym s ∙ p in cc z)

-- a number that is found is a token
pub number-token : (partial : Bool) (b : List ℕ) (n : Number) (count : ℕ)
    → IsFound (NumberHere partial) partial b (found.Whole n count)
    → IsTokenFound partial b b (found.Whole (token.Number n) count)
number-token partial b n count (within, (text, (ahead, (is, reads)))) =
    (within, subst (λ l. LexemeHere partial (Digits l n.integer) b (drop count b)) (sym is) (ahead, reads))

-- ---- Strings

-- a string that is begun needs more
pub string-needs : (b : List ℕ) (n : ℕ) → StartsWith 34 b → IsReading b (reading.Begun n)
    → MayBecome b
string-needs b n starts is = inr (
  (λ t r h.
      let s = token-string true t b (drop 1 b) r (starts-split b 34 starts) h in
      begun-missed b s.0 r n is s.1),
  inl (begun-begun b n is),
)
