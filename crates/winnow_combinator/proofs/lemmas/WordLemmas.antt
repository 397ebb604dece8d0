-- A lexer: a repeated parser of words, with gaps before each word and after the last.
use Rattle.std.proofs.Common.{◌≡◌, ℕ, zero, suc, ◌+◌, ◌≤◌, false, List, [], ◌∷◌, ◌++◌, length, Option, None, Some, inl, inr, ap, sym, ◌∙◌, subst, refl, arith, append_assoc}
use Rattle.std.specs.declared.ops.Range.{Range}
use Rattle.std.proofs.lemmas.List.{append-nil}
use Rattle.std.proofs.lemmas.Option.{same_Some}
use Rattle.std.specs.Prelude.{All}
use Rattle.winnow_stream.specs.Source.{Source, units, width, HasPositiveWidths}
use Rattle.winnow_stream.specs.Location.{location_behind}
use Rattle.winnow_parser.specs.Outcome.{Ahead, Cuts, Gives, Fails, Meaning}
use Rattle.winnow_parser.specs.Meanings.{Maps, IsPreceded, IsTerminated}
use Rattle.winnow_parser.specs.Span.{HasSpan}
use Rattle.winnow_parser.specs.Whole.{ReadsWhole, StopsAt}
use Rattle.winnow_parser.proofs.lemmas.SpanLemmas.{next-part}
use Rattle.winnow_combinator.specs.Appended.{AppendingIf, needs_some}
use Rattle.winnow_combinator.specs.Counts.{Ascending}
use Rattle.winnow_combinator.specs.Gathering.{Gathered}
use Rattle.winnow_combinator.specs.Repeat.{Taking, InTurn, Repeats}
use Rattle.winnow_combinator.specs.Words.{IsNextWord, AreWords, IsLexer, StandsAt}
use Rattle.winnow_combinator.proofs.lemmas.TurnLemmas.{Repeats-failed, Repeats-never-backtracks}

-- ---- Widths

module _ {T : Type 0} where
  -- the tokens after a front have positive widths too
  positive-after : (r front rest : Source T) → r ≡ front ++ rest → HasPositiveWidths r
      → HasPositiveWidths rest
  positive-after r [] rest e h = subst HasPositiveWidths e h
  positive-after r (x ∷ xs) rest e h = positive-after (xs ++ rest) xs rest refl (subst HasPositiveWidths e h).1

  -- a front is at least as wide as its number of tokens
  narrower-by : (r front rest : Source T) → r ≡ front ++ rest → HasPositiveWidths r
      → length front + width rest ≤ width r
  narrower-by r [] rest e h = omega (arith, ap width e)
  narrower-by r (x ∷ xs) rest e h =
      let wide : HasPositiveWidths (x ∷ (xs ++ rest)) = subst HasPositiveWidths e h in
      omega (arith, wide.0, ap width e, narrower-by (xs ++ rest) xs rest refl wide.1)

-- ---- The places of words in a list

module _ {O T : Type 0} (gap : Source T → Type 0) (word : O → Source T → Source T → Type 0) (span : O → Range ℕ) (is_text : O → Source T → Type 0) (texts : (x : O) (text rest : Source T) → word x text rest → is_text x text × (1 ≤ length text)) (xs : List T) where
  -- each word of a list stands at its span
  pub words-stand : (front ahead : Source T) (place : ℕ) (os : List O) → units xs ≡ front ++ ahead
      → place ≡ width front → AreWords gap word span ahead place os
      → All (λ x. StandsAt (is_text x) xs (span x)) os
  words-stand front ahead place [] whole at are k d l = absurd (omega arith)
  words-stand front ahead place (x ∷ os) whole at (rest, (next, more)) zero d l =
      let part = next-part xs front next.before next.text rest ahead place (span x).start (span x).end whole at next.whole next.starts next.ends in
      let is = texts x next.text rest next.is_word in
      record { starts = omega (arith, part.long, is.1); within = part.within; text = subst (is_text x) part.is is.0 }
  words-stand front ahead place (x ∷ os) whole at (rest, (next, more)) (suc k) d l =
      let part = next-part xs front next.before next.text rest ahead place (span x).start (span x).end whole at next.whole next.starts next.ends in
      words-stand part.front rest (span x).end os part.whole part.at more k d (omega arith)

-- ---- The words

-- the place is known, and the tokens have positive widths
abbrev pub IsPlaced : {T : Type 0} → Ahead T → Type 0
IsPlaced a = HasPositiveWidths a.tokens × ((place : ℕ) × (a.location ≡ Some place))

module _ {S K O V T : Type 0} (skip : Meaning S T) (read : Meaning K T) (gap clear : Source T → Type 0) (word : K → Source T → Source T → Type 0) (l : IsLexer skip read gap clear word)
    (makes : K × Range ℕ → O → Type 0) (kind : O → K) (span : O
    → Range ℕ) (made : (both : K × Range ℕ) (x : O) → makes both x
    → (both.0 ≡ kind x) × (both.1 ≡ span x)) (refusable q : Type 0) (items : V → List O) where
  -- a gap and then a word
  abbrev pub Word : Meaning O T
  Word = Maps makes (IsPreceded skip (HasSpan read))

  -- gaps and words, and a gap after the last
  abbrev pub Lexer : ℕ → Option ℕ → Meaning V T
  Lexer l g = IsTerminated (Ascending l g (Gathered refusable (λ xs v. items v ≡ xs) (AppendingIf (needs_some l) q (Repeats l g Word)))) skip

  -- the word comes next, its span ends where the stream then stands, and the stream is narrower
  abbrev IsNext : (a b : Ahead T) → IsPlaced a → O → Type 0
  IsNext a b p x = IsNextWord gap (word (kind x)) a.tokens p.1.0 (span x) b.tokens × (HasPositiveWidths b.tokens × (b.location ≡ Some (span x).end)) × (1 + width b.tokens ≤ width a.tokens)

  -- a word that `Word` gives comes next
  next : (x : O) (a b : Ahead T) (p : IsPlaced a) → Word false a (Gives x b) → IsNext a b p x
  next x a b (wide, (place, at)) (y, (m, (both, (e, (c, (h, (k, range))))))) =
      let skipped = l.skips both.0 a c wide h in
      let wide_c = positive-after a.tokens skipped.0.taken c.tokens skipped.0.whole wide in
      let got = l.reads both.1.0 c b wide_c skipped.1.1 k in
      let is = made y x m in
      let is_kind : both.1.0 ≡ kind x = ap (λ z. z.0) e ∙ is.0 in
      let is_span : both.1.1 ≡ span x = ap (λ z. z.1) e ∙ is.1 in
      let start : c.location ≡ Some (span x).start = range.0 ∙ ap (λ r. Some r.start) is_span in
      let end : b.location ≡ Some (span x).end = range.1 ∙ ap (λ r. Some r.end) is_span in (
        record {
          before = skipped.0.taken;
          text = got.0.taken;
          whole = skipped.0.whole ∙ ap (λ t. skipped.0.taken ++ t) got.0.whole ∙ sym (append_assoc skipped.0.taken got.0.taken b.tokens);
          is_gap = skipped.1.0;
          is_word = subst (λ z. word z got.0.taken b.tokens) is_kind got.1.0;
          starts = same_Some _ _ (sym start ∙ skipped.0.place ∙ ap (λ q. location_behind q (width skipped.0.taken)) at);
          ends = same_Some _ _ (sym end ∙ got.0.place ∙ ap (λ q. location_behind q (width got.0.taken)) start);
        },
        (positive-after c.tokens got.0.taken b.tokens got.0.whole wide_c, end),
        omega (arith, got.1.1, narrower-by c.tokens got.0.taken b.tokens got.0.whole wide_c, narrower-by a.tokens skipped.0.taken c.tokens skipped.0.whole wide),
      )

  -- the place after a word is known
  placed-after : (x : O) (a b : Ahead T) → IsPlaced a → Taking Word false a (Gives x b) → IsPlaced b
  placed-after x a b p h = let n = next x a b p h.0 in (n.1.0, ((span x).end, n.1.1))

  -- `Word` never cuts, since each word takes a token
  goes-on : (a b : Ahead T) → IsPlaced a → ¬ (Taking Word false a (Fails (Cuts b)))
  goes-on a b p (inl (inl h)) = l.skips_uncut a b h
  goes-on a b p (inl (inr (s, (c, (h, k))))) = l.reads_uncut c b k
  goes-on a b p (inr (x, (h, le))) = omega (arith, le, (next x a b p h).2)

  -- words in turn, with a gap after them up to the end, are the words of the input
  are : (xs : List O) (a b c : Ahead T) (s : S) (p : IsPlaced a)
      → InTurn (Taking Word) false xs a b → skip false b (Gives s c) → c.tokens ≡ []
      → AreWords gap (λ x. word (kind x)) span a.tokens p.1.0 xs
  are [] a b c s p turns h end =
      let m = l.skips s a c p.0 (subst (λ d. skip false d (Gives s c)) (sym turns) h) in
      subst gap (sym (m.0.whole ∙ ap (λ t. m.0.taken ++ t) end ∙ append-nil m.0.taken)) m.1.0
  are (x ∷ xs) a b c s p (d, (h, turns)) k end =
      let n = next x a d p h.0 in (d.tokens, (n.0, are xs d b c s (n.1.0, ((span x).end, n.1.1)) turns k end))

  -- the items that `Lexer` reads of a whole input are its words
  words : (v : V) (a : Ahead T) (p : IsPlaced a) → ReadsWhole (Lexer 0 None) a v
      → AreWords gap (λ x. word (kind x)) span a.tokens p.1.0 (items v)
  words v a p (b, ((both, (same, (c, ((xs, (is, h)), k)))), end)) =
      subst (AreWords gap (λ x. word (kind x)) span a.tokens p.1.0) (sym is ∙ ap items same) (are xs a c b both.1 p h.0 k end)

  -- `Lexer` never stops before the end of a whole input
  never-stops : (a b : Ahead T) → IsPlaced a → ¬ (StopsAt (Lexer 0 None) a b)
  never-stops a b p (inl (inl h)) = Repeats-never-backtracks None Word false a b h
  never-stops a b p (inl (inr (v, (c, (h, k))))) = l.skips_on c b k
  never-stops a b p (inr (inl (inl h))) =
      let at = Repeats-failed None Word false a 0 IsPlaced placed-after (Cuts b) p h in goes-on at.0 b at.1.0 at.1.1
  never-stops a b p (inr (inl (inr (v, (c, (h, k)))))) = l.skips_uncut c b k
  never-stops a b p (inr (inr (v, ((both, (same, (c, ((xs, (is, (turns, enough, inl full))), k)))), some)))) = cc
  never-stops a b p (inr (inr (v, ((both, (same, (c, ((xs, (is, (turns, enough, inr (below, (e, le, (d, inl h)))))), k)))), some)))) = l.skips_on c d h
  never-stops a b p (inr (inr (v, ((both, (same, (c, ((xs, (is, (turns, enough, inr (below, (e, le, (d, inr (s, (f, (h, none))))))))), k)))), some)))) =
      some (ap (λ q. q.tokens) (l.skips_one both.1 s c b f k h) ∙ l.reads_all f d none)

-- ---- The same for a grammar, whose parsers and counts are equal to these

-- the meaning of `terminated(repeat(counts, preceded(skip, read.with_span()).map(..)), last)`
abbrev pub LexerOf : {S K O V T : Type 0} → (K × Range ℕ → O → Type 0) → Type 0 → Type 0
    → (V → List O) → ℕ → Option ℕ → Meaning S T → Meaning K T → Meaning S T → Meaning V T
LexerOf makes refusable q items l g skip read last =
    IsTerminated (Ascending l g (Gathered refusable (λ xs v. items v ≡ xs) (AppendingIf (needs_some l) q (Repeats l g (Maps makes (IsPreceded skip (HasSpan read))))))) last

module _ {S K O V T P Q : Type 0} (skips : P → Meaning S T) (reads : Q → Meaning K T) (skip : P) (read : Q) {gap clear : Source T → Type 0} {word : K → Source T → Source T → Type 0} (l : IsLexer (skips skip) (reads read) gap clear word)
    (makes : K × Range ℕ → O → Type 0) (kind : O → K) (span : O
    → Range ℕ) (made : (both : K × Range ℕ) (x : O) → makes both x
    → (both.0 ≡ kind x) × (both.1 ≡ span x)) (refusable q : Type 0) (items : V → List O)
    {least : ℕ} {greatest : Option ℕ} (counts : (least ≡ 0)
    × (greatest ≡ None)) {first last : P} {inner : Q} (begins : first ≡ skip) (middle : inner
    ≡ read) (ends : last ≡ skip) where
  -- the meaning of the grammar's parser
  abbrev Meant : ℕ → Option ℕ → P → Q → P → Meaning V T
  Meant n g f i e = LexerOf makes refusable q items n g (skips f) (reads i) (skips e)

  -- a fact about the grammar's parser is one about `Lexer`
  meant : (F : Meaning V T → Type 0) → F (Meant least greatest first inner last)
      → F (Meant 0 None skip read skip)
  meant F h =
      subst (λ n. F (Meant n None skip read skip)) counts.0
      (subst (λ g. F (Meant least g skip read skip)) counts.1
      (subst (λ f. F (Meant least greatest f read skip)) begins
      (subst (λ i. F (Meant least greatest first i skip)) middle
      (subst (λ e. F (Meant least greatest first inner e)) ends h))))

  -- the grammar's parser reads the words of a whole input
  pub lexer-words : (v : V) (a : Ahead T) (p : IsPlaced a)
      → ReadsWhole (Meant least greatest first inner last) a v
      → AreWords gap (λ x. word (kind x)) span a.tokens p.1.0 (items v)
  lexer-words v a p h =
      words (skips skip) (reads read) gap clear word l makes kind span made refusable q items v a p (meant (λ m. ReadsWhole m a v) h)

  -- the grammar's parser never stops before the end of a whole input
  pub lexer-never-stops : (a b : Ahead T) → IsPlaced a
      → ¬ (StopsAt (Meant least greatest first inner last) a b)
  lexer-never-stops a b p h =
      never-stops (skips skip) (reads read) gap clear word l makes kind span made refusable q items a b p (meant (λ m. StopsAt m a b) h)
