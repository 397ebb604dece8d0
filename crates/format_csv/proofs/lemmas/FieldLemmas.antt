-- From the meanings of the parsers of fields to the words of the format.
use Rattle.std.proofs.Common.{◌≡◌, ◌≢◌, ℕ, Bool, true, false, List, [], ◌∷◌, ◌++◌, length, None, inl, inr, ap, sym, ◌∙◌, subst, refl, arith, append_assoc}
use Rattle.std.specs.Prelude.{◌⊎◌, ◌==◌, not, ⊤}
use Rattle.std.proofs.lemmas.Bool.Decides.{eqb_tells}
use Rattle.std.specs.declared.vec.Vec.{Vec}
use Rattle.std.specs.declared.alloc.Global.{Global}
use Rattle.std.proofs.lemmas.List.{append-nil}
use Rattle.std.proofs.lemmas.Option.{none-some}
use Rattle.winnow_stream.specs.Source.{Source, HasPositiveWidths}
use Rattle.winnow_stream.specs.Longer.{SlicesStay}
use Rattle.winnow_stream.specs.SliceBytes.{SlicesHaveBytes}
use Rattle.winnow_parser.specs.Outcome.{Ahead, Failed, Backtracks, Cuts, Needs, Refuses, Gives, Fails, Meaning}
use Rattle.winnow_parser.specs.Laws.{IsParser}
use Rattle.winnow_parser.specs.Meanings.{IsTerminated, CutsErr}
use Rattle.winnow_parser.specs.Parts.{IsParser-IsTerminated, IsParser-CutsErr}
use Rattle.winnow_token.specs.OneOf.{IsParser-IsOneOf}
use Rattle.winnow_token.specs.TakeWhile.{TakesWhile, IsParser-TakesWhile}
use Rattle.winnow_combinator.specs.Repeat.{Taking, InTurn, OneMore}
use Rattle.format_lemmas.specs.Bytes.{Each, bytes_of, StartsWith, Starts}
use Rattle.format_lemmas.proofs.lemmas.ByteLemmas.{tails, begins, each-after, none-left}
use Rattle.format_lemmas.proofs.lemmas.TokenLemmas.{positive-moved, byte-given, byte-missing, byte-complete, held-given, held-fails}
use Rattle.format_csv.specs.Fields.{is_plain, doubled, SpellsField}
use Rattle.format_csv.specs.Meanings.{Byte, is_other, Chunk, QuotedField, AnyField}
use Rattle.format_csv.proofs.lemmas.ByteLemmas.{ended, quoted, AreOther, quoted-doubled, quoted-value, ended-front, closed-once, not-closed, plain-once, plain-no-quote}
use Rattle.format_csv.proofs.lemmas.TokenLemmas.{taking-fails, after-positive}

-- a byte is a quote or another byte
ends-step : (b : ℕ) → ¬ (is_other b ≡ true) → ¬ (b ≡ 34) → ⊥
ends-step b p q = elim (eqb_tells 34 b) [
  | inl t ↦ q (sym t.1)
  | inr t ↦ p (ap not t.0)
]

-- where neither a quote nor another byte follows, nothing does
ends : (r : List ℕ) → ¬ (Starts is_other r) → ¬ (StartsWith 34 r) → r ≡ []
ends [] p q = refl
ends (b ∷ r) p q = absurd (ends-step b p q)

-- ---- A quoted field that is not closed

-- the bytes are a quote and bytes that no quote closes
abbrev pub IsOpen : List ℕ → Type 0
IsOpen r = (t : List ℕ) × ((c : List ℕ) × ((r ≡ 34 ∷ (doubled t ++ c)) × Each is_other c))

-- the bytes are one closed field and no more
abbrev pub IsClosedOnly : List ℕ → Type 0
IsClosedOnly r = (t : List ℕ) × (r ≡ 34 ∷ (doubled t ++ 34 ∷ []))

-- the bytes are a field of this value, closed or plain, and what follows it
abbrev pub FieldStands : List ℕ → List ℕ → List ℕ → Type 0
FieldStands value r s = ((r ≡ 34 ∷ (doubled value ++ 34 ∷ s)) × ¬ (StartsWith 34 s))
    ⊎ (Each is_plain value × (r ≡ value ++ s) × ¬ (Starts is_plain s) × ¬ (StartsWith 34 r))

-- a field fails where no quote closes it, or where more may belong to it
abbrev pub FieldFails : Bool → List ℕ → Failed ℕ → Type 0
FieldFails partial r (Backtracks b) = ⊥
FieldFails partial r (Cuts b) = IsOpen r × (bytes_of b.tokens ≡ []) × (partial ≡ false)
FieldFails partial r (Needs n) = (partial ≡ true) × (IsOpen r ⊎ (IsClosedOnly r ⊎ Each is_plain r))
FieldFails partial r Refuses = ⊤

-- a field may end before this rest
abbrev pub StopsAt : Bool → List ℕ → Type 0
StopsAt partial rest = ¬ (StartsWith 34 rest) × ¬ (Starts is_plain rest) × (partial ≡ true → rest ≢ [])

-- if the bytes begin with a field, they begin with a spelling of it
pub field-spelled : (value r s : List ℕ) → FieldStands value r s
    → (text : List ℕ) × ((r ≡ text ++ s) × SpellsField value text)
field-spelled value r s (inl h) = (34 ∷ (doubled value ++ 34 ∷ []), (h.0 ∙ ap (λ t. 34 ∷ t) (sym (append_assoc (doubled value) (34 ∷ []) s)), inr refl))
field-spelled value r s (inr h) = (value, (h.1, inl (h.0, refl)))

-- a quoted field before a rest
quoted-before : (text value rest : List ℕ) → text ≡ 34 ∷ (doubled value ++ 34 ∷ [])
    → text ++ rest ≡ 34 ∷ (doubled value ++ 34 ∷ rest)
quoted-before text value rest e = ap (λ t. t ++ rest) e ∙ ap (λ t. 34 ∷ t) (append_assoc (doubled value) (34 ∷ []) rest)

-- plain bytes before a rest where a field may end do not begin with a quote
plain-before : (text value rest s : List ℕ) → Each is_plain value → text ≡ value
    → ¬ (StartsWith 34 rest) → text ++ rest ≡ 34 ∷ s → ⊥
plain-before text value rest s h e p f = plain-no-quote value rest h p (begins 34 (value ++ rest) s (ap (λ t. t ++ rest) (sym e) ∙ f))

-- the field with which the bytes begin is the one that they spell there
pub field-once : (partial : Bool) (v w text rest s : List ℕ) → SpellsField w text
    → StopsAt partial rest → FieldStands v (text ++ rest) s → (v ≡ w) × (s ≡ rest)
field-once partial v w text rest s (inl h) stops (inl k) = absurd (plain-before text w rest (doubled v ++ 34 ∷ s) h.0 h.1 stops.0 k.0)
field-once partial v w text rest s (inl h) stops (inr k) =
    plain-once v w s rest k.0 h.0 k.2 stops.1 (sym k.1 ∙ ap (λ t. t ++ rest) h.1)
field-once partial v w text rest s (inr h) stops (inl k) =
    closed-once v w s rest k.1 stops.0 (tails 34 34 _ _ (sym k.0 ∙ quoted-before text w rest h))
field-once partial v w text rest s (inr h) stops (inr k) = absurd (k.3 (begins 34 (text ++ rest) (doubled w ++ 34 ∷ rest) (quoted-before text w rest h)))

-- an open field is not spelled there
pub open-not : (partial : Bool) (w text rest : List ℕ) → SpellsField w text → StopsAt partial rest
    → IsOpen (text ++ rest) → ⊥
open-not partial w text rest (inl h) stops (t, (c, (e, o))) = plain-before text w rest (doubled t ++ c) h.0 h.1 stops.0 e
open-not partial w text rest (inr h) stops (t, (c, (e, o))) = not-closed t w c rest o stops.0 (tails 34 34 _ _ (sym e ∙ quoted-before text w rest h))

-- nor is a closed field to which another chunk may come
closed-not : (w text rest : List ℕ) → SpellsField w text → StopsAt true rest
    → IsClosedOnly (text ++ rest) → ⊥
closed-not w text rest (inl h) stops (t, e) = plain-before text w rest (doubled t ++ 34 ∷ []) h.0 h.1 stops.0 e
closed-not w text rest (inr h) stops (t, e) =
    stops.2 refl (sym (closed-once t w [] rest (λ n. n) stops.0 (tails 34 34 _ _ (sym e ∙ quoted-before text w rest h))).1)

-- a rest where a field may end is not plain, if more may follow
plain-rest : (rest : List ℕ) → StopsAt true rest → Each is_plain rest → ⊥
plain-rest [] stops h = stops.2 refl refl
plain-rest (b ∷ rest) stops h = stops.1 h.0

-- nor are plain bytes to which more may come
plain-not : (w text rest : List ℕ) → SpellsField w text → StopsAt true rest
    → Each is_plain (text ++ rest) → ⊥
plain-not w text rest (inl h) stops e = plain-rest rest stops (each-after is_plain text rest e)
plain-not w text rest (inr h) stops e = let f = (subst (Each is_plain) (quoted-before text w rest h) e).0 in cc

-- only refused memory
abbrev pub IsRefusal : Failed ℕ → Type 0
IsRefusal (Backtracks b) = ⊥
IsRefusal (Cuts b) = ⊥
IsRefusal (Needs n) = ⊥
IsRefusal Refuses = ⊤

-- where a field is spelled, only refused memory makes it fail
pub field-missed : (partial : Bool) (f : Failed ℕ) (w text rest : List ℕ) → SpellsField w text
    → StopsAt partial rest → FieldFails partial (text ++ rest) f → IsRefusal f
field-missed partial (Backtracks d) w text rest spells stops h = h
field-missed partial (Cuts d) w text rest spells stops h = open-not partial w text rest spells stops h.0
field-missed true (Needs n) w text rest spells stops (p, inl h) = open-not true w text rest spells stops h
field-missed true (Needs n) w text rest spells stops (p, inr (inl h)) = closed-not w text rest spells stops h
field-missed true (Needs n) w text rest spells stops (p, inr (inr h)) = plain-not w text rest spells stops h
field-missed false (Needs n) w text rest spells stops h = absurd (let e = h.0 in cc)
field-missed partial Refuses w text rest spells stops h = tt

module _ {S : Type 0} (is_slice : S → Source ℕ → ℕ → Type 0) (bytes : S → List ℕ) (stay : SlicesStay is_slice) (have : SlicesHaveBytes is_slice bytes) (partial : Bool) where
  -- ---- One chunk

  -- what stands in a chunk, and its closing quote
  abbrev Inside : Meaning S ℕ
  Inside = IsTerminated (TakesWhile is_slice is_other 0 None) (CutsErr (Byte 34))

  -- `Inside` keeps the laws of a parser
  IsParser-Inside : IsParser Inside
  IsParser-Inside =
      IsParser-IsTerminated (TakesWhile is_slice is_other 0 None) (CutsErr (Byte 34)) (IsParser-TakesWhile is_slice stay is_other 0 None)
      (IsParser-CutsErr (Byte 34) (IsParser-IsOneOf (λ token. 34 == token)))

  -- a chunk that is given stands between two quotes
  chunk-given : (a d : Ahead ℕ) (s : S) → HasPositiveWidths a.tokens
      → Chunk is_slice bytes partial a (Gives s d)
      → (bytes_of a.tokens ≡ 34 ∷ (bytes s ++ 34 ∷ bytes_of d.tokens)) × Each is_other (bytes s)
  chunk-given a d s wide (both, (is, (b, (h, (pair, (first, (c, (k, l)))))))) =
      let wide_b = positive-moved a b ((IsParser-IsOneOf (λ token. 34 == token)).onward partial a (Gives both.0 b) h) wide in
      let held = held-given is_slice is_other 0 bytes have partial b c pair.0 wide_b k in
      let same : pair.0 ≡ s = first ∙ is in (
        byte-given 34 partial a b both.0 h ∙ ap (λ t. 34 ∷ t) (held.0 ∙ ap (λ t. bytes pair.0 ++ t) (byte-given 34 partial c d pair.1 l))
            ∙ ap (λ s. 34 ∷ (bytes s ++ 34 ∷ bytes_of d.tokens)) same,
        subst (λ s. Each is_other (bytes s)) same held.1,
      )

  -- a chunk fails where no quote opens it, or none closes it
  abbrev ChunkFails : Ahead ℕ → Failed ℕ → Type 0
  ChunkFails a (Backtracks b) = ¬ (StartsWith 34 (bytes_of a.tokens))
  ChunkFails a (Cuts b) = ((c : List ℕ) × ((bytes_of a.tokens ≡ 34 ∷ c) × Each is_other c)) × (bytes_of b.tokens ≡ []) × (partial ≡ false)
  ChunkFails a (Needs n) = (partial ≡ true) × ((bytes_of a.tokens ≡ []) ⊎ ((c : List ℕ) × ((bytes_of a.tokens ≡ 34 ∷ c) × Each is_other c)))
  ChunkFails a Refuses = ⊤

  -- a failure after the opening quote
  inside-fails : (f : Failed ℕ) (a b : Ahead ℕ) → HasPositiveWidths b.tokens
      → bytes_of a.tokens ≡ 34 ∷ bytes_of b.tokens → Inside partial b (Fails f) → ChunkFails a f
  inside-fails (Backtracks d) a b wide e (inl h) = absurd (omega (arith, h.1))
  inside-fails (Backtracks d) a b wide e (inr (s, (c, (k, l)))) = absurd l
  inside-fails (Cuts d) a b wide e (inl h) = absurd (held-fails is_slice is_other 0 partial b (Cuts d) (omega arith) h)
  inside-fails (Cuts d) a b wide e (inr (s, (c, (k, inl l)))) =
      let held = held-given is_slice is_other 0 bytes have partial b c s wide k in
      let missing = byte-missing 34 partial c d l in
      let none = ends (bytes_of c.tokens) held.2.0 missing.0 in (
        (bytes s, (e ∙ ap (λ t. 34 ∷ t) (held.0 ∙ ap (λ t. bytes s ++ t) none ∙ append-nil (bytes s)), held.1)),
        ap (λ p. bytes_of p.tokens) missing.1 ∙ none,
        byte-complete 34 partial c d l (none-left c.tokens none),
      )
  inside-fails (Cuts d) a b wide e (inr (s, (c, (k, inr l)))) = absurd l
  inside-fails (Needs n) a b wide e (inl h) =
      let unclosed = held-fails is_slice is_other 0 partial b (Needs n) (omega arith) h in (unclosed.0, inr (bytes_of b.tokens, (e, unclosed.1)))
  inside-fails (Needs n) a b wide e (inr (s, (c, (k, l)))) =
      let held = held-given is_slice is_other 0 bytes have partial b c s wide k in
      (l.1, inr (bytes s, (e ∙ ap (λ t. 34 ∷ t) (held.0 ∙ ap (λ t. bytes s ++ bytes_of t) l.0 ∙ append-nil (bytes s)), held.1)))
  inside-fails Refuses a b wide e h = tt

  -- a chunk fails as `ChunkFails` says
  chunk-fails : (f : Failed ℕ) (a : Ahead ℕ) → HasPositiveWidths a.tokens
      → Chunk is_slice bytes partial a (Fails f) → ChunkFails a f
  chunk-fails (Backtracks d) a wide (inl h) = (byte-missing 34 partial a d h).0
  chunk-fails (Cuts d) a wide (inl h) = absurd h
  chunk-fails (Needs n) a wide (inl h) = (h.1, inl (ap bytes_of h.0))
  chunk-fails Refuses a wide (inl h) = tt
  chunk-fails f a wide (inr (x, (b, (h, k)))) =
      let wide_b = positive-moved a b ((IsParser-IsOneOf (λ token. 34 == token)).onward partial a (Gives x b) h) wide in
      inside-fails f a b wide_b (byte-given 34 partial a b x h) k

  -- ---- Chunks, one after the other

  -- chunks in turn stand between quotes
  chunks-given : (xs : List S) (a b : Ahead ℕ) → HasPositiveWidths a.tokens
      → InTurn (Taking (Chunk is_slice bytes)) partial xs a b
      → (bytes_of a.tokens ≡ quoted bytes xs ++ bytes_of b.tokens) × AreOther bytes xs
      × HasPositiveWidths b.tokens
  chunks-given [] a b wide e = (ap (λ p. bytes_of p.tokens) e, tt, subst (λ p. HasPositiveWidths p.tokens) e wide)
  chunks-given (x ∷ xs) a b wide t =
      let first = chunk-given a t.0 x wide t.1.0.0 in
      let on = chunks-given xs t.0 b (after-positive 34 IsParser-Inside partial a wide x t.0 t.1.0.0) t.1.1 in
      let rest = quoted bytes xs ++ bytes_of b.tokens in (
        first.0 ∙ ap (λ t. 34 ∷ (bytes x ++ 34 ∷ t)) on.0 ∙ ap (λ t. 34 ∷ t) (sym (append_assoc (bytes x) (34 ∷ []) rest))
            ∙ sym (append_assoc (34 ∷ (bytes x ++ 34 ∷ [])) (quoted bytes xs) (bytes_of b.tokens)),
        (first.1, on.1),
        on.2,
      )

  -- where one more chunk fails, the chunk itself does
  taking-chunk : (f : Failed ℕ) (b : Ahead ℕ) → HasPositiveWidths b.tokens
      → Taking (Chunk is_slice bytes) partial b (Fails f) → ChunkFails b f
  taking-chunk f b wide h = chunk-fails f b wide (taking-fails 34 IsParser-Inside partial b wide f h)

  -- ---- A quoted field

  -- the bytes begin with the quoted field that is returned, and no quote follows it
  quoted-given : (v : Vec ℕ Global) (a b : Ahead ℕ) → HasPositiveWidths a.tokens
      → QuotedField is_slice bytes partial a (Gives v b)
      → (bytes_of a.tokens ≡ 34 ∷ (doubled v.items ++ 34 ∷ bytes_of b.tokens))
      × ¬ (StartsWith 34 (bytes_of b.tokens))
  quoted-given v a b wide (xs, (made, (turns, least, inl e))) = absurd (none-some _ e)
  quoted-given v a b wide (xs, (made, (turns, least, inr (below, (same, enough, (c, h)))))) =
      let all = chunks-given xs a b wide turns in (
        all.0 ∙ ap (λ t. t ++ bytes_of b.tokens) (quoted-value bytes xs v.items all.1 made)
            ∙ ap (λ t. 34 ∷ t) (append_assoc (doubled v.items) (34 ∷ []) (bytes_of b.tokens)),
        taking-chunk (Backtracks c) b all.2 h,
      )

  -- a quoted field fails where no quote opens it, where none closes it, or where another may follow
  abbrev QuotedFails : Ahead ℕ → Failed ℕ → Type 0
  QuotedFails a (Backtracks b) = ¬ (StartsWith 34 (bytes_of a.tokens))
  QuotedFails a (Cuts b) = IsOpen (bytes_of a.tokens) × (bytes_of b.tokens ≡ []) × (partial ≡ false)
  QuotedFails a (Needs n) = (partial ≡ true) × ((bytes_of a.tokens ≡ []) ⊎ (IsOpen (bytes_of a.tokens) ⊎ IsClosedOnly (bytes_of a.tokens)))
  QuotedFails a Refuses = ⊤

  -- chunks before an open one are open
  opened : (xs : List S) (a b : Ahead ℕ) (c : List ℕ)
      → bytes_of a.tokens ≡ quoted bytes xs ++ bytes_of b.tokens → AreOther bytes xs
      → bytes_of b.tokens ≡ 34 ∷ c → Each is_other c → IsOpen (bytes_of a.tokens)
  opened xs a b c e others f h = (ended bytes xs, (c, (e ∙ ap (λ t. quoted bytes xs ++ t) f ∙ quoted-doubled bytes xs c others, h)))

  -- chunks before the end are nothing or a closed field
  closed : (xs : List S) (a b : Ahead ℕ) → bytes_of a.tokens ≡ quoted bytes xs ++ bytes_of b.tokens
      → AreOther bytes xs → bytes_of b.tokens ≡ []
      → (bytes_of a.tokens ≡ []) ⊎ (IsOpen (bytes_of a.tokens) ⊎ IsClosedOnly (bytes_of a.tokens))
  closed [] a b e others f = inl (e ∙ f)
  closed (x ∷ xs) a b e others f =
      let front = ended-front bytes x xs in
      inr (inr (front.0, e ∙ ap (λ t. quoted bytes (x ∷ xs) ++ t) f ∙ append-nil (quoted bytes (x ∷ xs)) ∙ quoted-value bytes (x ∷ xs) front.0 others (sym front.1)))

  -- a repetition of chunks fails as `QuotedFails` says
  repeated-fails : (f : Failed ℕ) (xs : List S) (a b : Ahead ℕ) → HasPositiveWidths a.tokens
      → InTurn (Taking (Chunk is_slice bytes)) partial xs a b
      → OneMore 1 (length xs) (Taking (Chunk is_slice bytes)) partial b (Fails f) → QuotedFails a f
  repeated-fails (Backtracks d) [] a b wide turns h = subst (λ p. ¬ (StartsWith 34 (bytes_of p.tokens))) (sym turns) (taking-chunk (Backtracks d) b (subst (λ p. HasPositiveWidths p.tokens) turns wide) h.1)
  repeated-fails (Backtracks d) (x ∷ xs) a b wide turns h = absurd (omega (arith, h.0))
  repeated-fails (Cuts d) xs a b wide turns h =
      let all = chunks-given xs a b wide turns in
      let fails = taking-chunk (Cuts d) b all.2 h.1 in
      (opened xs a b fails.0.0 all.0 all.1 fails.0.1.0 fails.0.1.1, fails.1, fails.2)
  repeated-fails (Needs n) xs a b wide turns h =
      let all = chunks-given xs a b wide turns in
      let fails = taking-chunk (Needs n) b all.2 h.1 in (
        fails.0,
        elim fails.1 [
          | inl e ↦ closed xs a b all.0 all.1 e
          | inr k ↦ inr (inl (opened xs a b k.0 all.0 all.1 k.1.0 k.1.1))
        ],
      )
  repeated-fails Refuses xs a b wide turns h = tt

  -- a quoted field fails as `QuotedFails` says
  quoted-fails : (f : Failed ℕ) (a : Ahead ℕ) → HasPositiveWidths a.tokens
      → QuotedField is_slice bytes partial a (Fails f) → QuotedFails a f
  quoted-fails (Backtracks d) a wide (xs, (b, (turns, below, h))) = repeated-fails (Backtracks d) xs a b wide turns h
  quoted-fails (Cuts d) a wide (xs, (b, (turns, below, h))) = repeated-fails (Cuts d) xs a b wide turns h
  quoted-fails (Needs n) a wide (xs, (b, (turns, below, h))) = repeated-fails (Needs n) xs a b wide turns h
  quoted-fails Refuses a wide h = tt

  -- ---- A field

  -- a field of either kind that is given
  pub field-given : (appends refusable : Type 0) (v : Vec ℕ Global) (a b : Ahead ℕ)
      → HasPositiveWidths a.tokens → AnyField is_slice bytes appends refusable partial a (Gives v b)
      → FieldStands v.items (bytes_of a.tokens) (bytes_of b.tokens)
  field-given appends refusable v a b wide (inl h) = inl (quoted-given v a b wide h)
  field-given appends refusable v a b wide (inr (c, (h, (s, (made, k))))) =
      let held = held-given is_slice is_plain 0 bytes have partial a b s wide k in
      inr (
        subst (Each is_plain) (sym made) held.1,
        held.0 ∙ ap (λ t. t ++ bytes_of b.tokens) (sym made),
        held.2.0,
        quoted-fails (Backtracks c) a wide h,
      )

  -- a field of either kind fails as `FieldFails` says
  pub field-fails : (appends refusable : Type 0) (f : Failed ℕ) (a : Ahead ℕ)
      → HasPositiveWidths a.tokens
      → AnyField is_slice bytes appends refusable partial a (Fails f)
      → FieldFails partial (bytes_of a.tokens) f
  field-fails appends refusable (Backtracks d) a wide (c, (h, k)) = absurd (omega (arith, k.1))
  field-fails appends refusable (Cuts d) a wide (inl h) = quoted-fails (Cuts d) a wide h
  field-fails appends refusable (Cuts d) a wide (inr (c, (h, k))) = absurd (held-fails is_slice is_plain 0 partial a (Cuts d) (omega arith) k)
  field-fails appends refusable (Needs n) a wide (inl h) =
      let fails = quoted-fails (Needs n) a wide h in (
        fails.0,
        elim fails.1 [
          | inl e ↦ inr (inr (subst (Each is_plain) (sym e) tt))
          | inr k ↦ elim k [
            | inl o ↦ inl o
            | inr o ↦ inr (inl o)
          ]
        ],
      )
  field-fails appends refusable (Needs n) a wide (inr (c, (h, k))) =
      let unclosed = held-fails is_slice is_plain 0 partial a (Needs n) (omega arith) k in (unclosed.0, inr (inr unclosed.1))
  field-fails appends refusable Refuses a wide h = tt
