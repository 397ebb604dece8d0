-- The same bytes have the same events.
use Rattle.std.proofs.Common.{◌≡◌, ℕ, zero, suc, ◌+◌, ◌<◌, ◌^◌, List, [], ◌∷◌, ◌++◌, length, Some, ℤ, refl, ap, sym, ◌∙◌, subst, inl, inr, arith, append_assoc}
use Rattle.std.specs.Prelude.{decimal}
use Rattle.std.proofs.lemmas.Fmt.{decimal_injective, signed_decimal_injective}
use Rattle.std.proofs.lemmas.List.{append-nil}
use Rattle.winnow_reader.specs.SameValues.{AreAlike}
use Rattle.format_lemmas.proofs.lemmas.ByteLemmas.{heads, tails}
use Rattle.format_resp.specs.Language.{line, line_end, no_length, AreInLine, IsInteger, IsLength, greatest_count}
use Rattle.format_resp.proofs.lemmas.BreakLemmas.{line-once}
use Rattle.format_resp.proofs.lemmas.NumberLemmas.{no-minus, integer-line, length-line}
use Rattle.format_resp_events.specs.Events.{SameEvent, SpellsRow, SpellsArray, SpellsScalar, SpellsEither, SpellsNothing, SpellsEvents, AreReplies}
use Rattle.format_resp_events.specs.declared.event.ReplyEvent.{ReplyEvent}
use Rattle.format_resp_events.specs.declared.event.ReplyEvent.TheVariants as event

-- ---- The first line of an event

-- the byte of the kind
abbrev kind_of : ReplyEvent → ℕ
kind_of (event.StartArray n) = 42
kind_of event.EndArray = 0
kind_of (event.Simple v) = 43
kind_of (event.Error v) = 45
kind_of (event.Integer n) = 58
kind_of (event.Bulk v) = 36
kind_of event.NullBulk = 36
kind_of event.NullArray = 42

-- the text is this number
abbrev IsCount : ℕ → List ℕ → Type 0
IsCount n text = (n < 2 ^ 64) × (text ≡ decimal n)

-- the event has this text on its line, and these bytes after it
abbrev Says : ReplyEvent → List ℕ → List ℕ → Type 0
Says (event.StartArray n) text more = IsCount n text × (more ≡ [])
Says event.EndArray text more = ⊥
Says (event.Simple v) text more = (text ≡ v.items) × (more ≡ [])
Says (event.Error v) text more = (text ≡ v.items) × (more ≡ [])
Says (event.Integer n) text more = IsInteger text n × (more ≡ [])
Says (event.Bulk v) text more = IsCount (length v.items) text × (more ≡ line v.items)
Says event.NullBulk text more = (text ≡ no_length) × (more ≡ [])
Says event.NullArray text more = (text ≡ no_length) × (more ≡ [])

-- the bytes are the line of the event, and what belongs to it
pub record IsFirst (e : ReplyEvent) (bytes : List ℕ) : Type 0 where
  text : List ℕ
  more : List ℕ
  fits : AreInLine text
  whole : bytes ≡ kind_of e ∷ (line text ++ more)
  says : Says e text more

-- a line with nothing after it
line-alone : (kind : ℕ) (text : List ℕ) → kind ∷ line text ≡ kind ∷ (line text ++ [])
line-alone kind text = ap (λ t. kind ∷ t) (sym (append-nil (line text)))

-- -1 stands on a line
null-line : AreInLine no_length
null-line = (refl, (refl, tt))

-- a reply that is no array is so
pub scalar-first : (longest : ℕ) (e : ReplyEvent) (bytes : List ℕ) → SpellsScalar longest e bytes
    → IsFirst e bytes
scalar-first longest (event.StartArray n) bytes h = absurd h
scalar-first longest event.EndArray bytes h = absurd h
scalar-first longest (event.Simple v) bytes (is, e) =
    record { text = v.items; more = []; fits = is.0; whole = e ∙ line-alone 43 v.items; says = (refl, refl) }
scalar-first longest (event.Error v) bytes (is, e) =
    record { text = v.items; more = []; fits = is.0; whole = e ∙ line-alone 45 v.items; says = (refl, refl) }
scalar-first longest (event.Integer n) bytes (text, (is, e)) =
    record { text = text; more = []; fits = (integer-line text n is).0; whole = e ∙ line-alone 58 text; says = (is, refl) }
scalar-first longest (event.Bulk v) bytes (text, (is, e)) =
    record { text = text; more = line v.items; fits = (length-line longest text (Some (length v.items)) is).0; whole = e; says = ((is.1, is.2), refl) }
scalar-first longest event.NullBulk bytes e =
    record { text = no_length; more = []; fits = null-line; whole = e ∙ line-alone 36 no_length; says = (refl, refl) }
scalar-first longest event.NullArray bytes e =
    record { text = no_length; more = []; fits = null-line; whole = e ∙ line-alone 42 no_length; says = (refl, refl) }

-- and so is the line of an array
pub array-first : (text : List ℕ) (n : ℕ) → IsLength greatest_count text (Some n)
    → IsFirst (event.StartArray n) (42 ∷ line text)
array-first text n is =
    record { text = text; more = []; fits = (length-line greatest_count text (Some n) is).0; whole = line-alone 42 text; says = ((is.1, is.2), refl) }

-- ---- The same line

-- nothing stands between two rests
rests : {A : Type 0} (s t q r : List A) → s ≡ [] → t ≡ [] → s ++ q ≡ t ++ r → q ≡ r
rests s t q r none nil e = ap (λ l. l ++ q) (sym none) ∙ e ∙ ap (λ l. l ++ r) nil

-- a count is not -1
count-null : (n : ℕ) (text : List ℕ) → IsCount n text → ¬ (text ≡ no_length)
count-null n text (small, is) e = no-minus n (49 ∷ []) small (sym e ∙ is)

-- lists of one length that begin the same list are the same
same-front : (s t q r : List ℕ) → length s ≡ length t → s ++ q ≡ t ++ r → (s ≡ t) × (q ≡ r)
same-front [] [] q r n e = (refl, e)
same-front [] (y ∷ t) q r n e = absurd (cc n)
same-front (x ∷ s) [] q r n e = absurd (cc n)
same-front (x ∷ s) (y ∷ t) q r n e =
    let more = same-front s t q r (omega (arith, n)) (tails x y (s ++ q) (t ++ r) e) in
    (ap (λ z. z ∷ s) (heads x y (s ++ q) (t ++ r) e) ∙ ap (λ l. y ∷ l) more.0, more.1)

-- an integer is that of its text
integer-once : (text : List ℕ) (n m : ℤ) → IsInteger text n → IsInteger text m → n ≡ m
integer-once text n m (small, is) (low, e) = signed_decimal_injective n m (omega (arith, small)) (omega (arith, low)) (sym is ∙ e)

-- a bulk string is the bytes that its length says
bulk-once : (v w : List ℕ) (text s t q r : List ℕ) → IsCount (length v) text
    → IsCount (length w) text
    → s ≡ line v → t ≡ line w → s ++ q ≡ t ++ r → (v ≡ w) × (q ≡ r)
bulk-once v w text s t q r (small, is) (low, too) a b e =
    let n = decimal_injective (length v) (length w) small low (sym is ∙ too) in
    let both : v ++ (line_end ++ q) ≡ w ++ (line_end ++ r) =
    sym (append_assoc v line_end q) ∙ ap (λ l. l ++ q) (sym a) ∙ e ∙ ap (λ l. l ++ r) b ∙ append_assoc w line_end r in
    let k = same-front v w (line_end ++ q) (line_end ++ r) n both in
    (k.0, tails 10 10 q r (tails 13 13 (10 ∷ q) (10 ∷ r) k.1))

-- events of one kind with one text are the same
same-says : (e f : ReplyEvent) (text s t q r : List ℕ) → kind_of e ≡ kind_of f → Says e text s
    → Says f text t → s ++ q ≡ t ++ r → SameEvent e f × (q ≡ r)
same-says (event.StartArray n) (event.StartArray m) text s t q r k a b e = (decimal_injective n m a.0.0 b.0.0 (sym a.0.1 ∙ b.0.1), rests s t q r a.1 b.1 e)
same-says (event.StartArray n) event.EndArray text s t q r k a b e = absurd b
same-says (event.StartArray n) (event.Simple w) text s t q r k a b e = let o : 42 ≡ 43 = k in absurd (omega (arith, o))
same-says (event.StartArray n) (event.Error w) text s t q r k a b e = let o : 42 ≡ 45 = k in absurd (omega (arith, o))
same-says (event.StartArray n) (event.Integer m) text s t q r k a b e = let o : 42 ≡ 58 = k in absurd (omega (arith, o))
same-says (event.StartArray n) (event.Bulk w) text s t q r k a b e = let o : 42 ≡ 36 = k in absurd (omega (arith, o))
same-says (event.StartArray n) event.NullBulk text s t q r k a b e = let o : 42 ≡ 36 = k in absurd (omega (arith, o))
same-says (event.StartArray n) event.NullArray text s t q r k a b e = absurd (count-null n text a.0 b.0)
same-says event.EndArray (event.StartArray m) text s t q r k a b e = absurd a
same-says event.EndArray event.EndArray text s t q r k a b e = absurd a
same-says event.EndArray (event.Simple w) text s t q r k a b e = absurd a
same-says event.EndArray (event.Error w) text s t q r k a b e = absurd a
same-says event.EndArray (event.Integer m) text s t q r k a b e = absurd a
same-says event.EndArray (event.Bulk w) text s t q r k a b e = absurd a
same-says event.EndArray event.NullBulk text s t q r k a b e = absurd a
same-says event.EndArray event.NullArray text s t q r k a b e = absurd a
same-says (event.Simple v) (event.StartArray m) text s t q r k a b e = let o : 43 ≡ 42 = k in absurd (omega (arith, o))
same-says (event.Simple v) event.EndArray text s t q r k a b e = absurd b
same-says (event.Simple v) (event.Simple w) text s t q r k a b e = (sym a.0 ∙ b.0, rests s t q r a.1 b.1 e)
same-says (event.Simple v) (event.Error w) text s t q r k a b e = let o : 43 ≡ 45 = k in absurd (omega (arith, o))
same-says (event.Simple v) (event.Integer m) text s t q r k a b e = let o : 43 ≡ 58 = k in absurd (omega (arith, o))
same-says (event.Simple v) (event.Bulk w) text s t q r k a b e = let o : 43 ≡ 36 = k in absurd (omega (arith, o))
same-says (event.Simple v) event.NullBulk text s t q r k a b e = let o : 43 ≡ 36 = k in absurd (omega (arith, o))
same-says (event.Simple v) event.NullArray text s t q r k a b e = let o : 43 ≡ 42 = k in absurd (omega (arith, o))
same-says (event.Error v) (event.StartArray m) text s t q r k a b e = let o : 45 ≡ 42 = k in absurd (omega (arith, o))
same-says (event.Error v) event.EndArray text s t q r k a b e = absurd b
same-says (event.Error v) (event.Simple w) text s t q r k a b e = let o : 45 ≡ 43 = k in absurd (omega (arith, o))
same-says (event.Error v) (event.Error w) text s t q r k a b e = (sym a.0 ∙ b.0, rests s t q r a.1 b.1 e)
same-says (event.Error v) (event.Integer m) text s t q r k a b e = let o : 45 ≡ 58 = k in absurd (omega (arith, o))
same-says (event.Error v) (event.Bulk w) text s t q r k a b e = let o : 45 ≡ 36 = k in absurd (omega (arith, o))
same-says (event.Error v) event.NullBulk text s t q r k a b e = let o : 45 ≡ 36 = k in absurd (omega (arith, o))
same-says (event.Error v) event.NullArray text s t q r k a b e = let o : 45 ≡ 42 = k in absurd (omega (arith, o))
same-says (event.Integer n) (event.StartArray m) text s t q r k a b e = let o : 58 ≡ 42 = k in absurd (omega (arith, o))
same-says (event.Integer n) event.EndArray text s t q r k a b e = absurd b
same-says (event.Integer n) (event.Simple w) text s t q r k a b e = let o : 58 ≡ 43 = k in absurd (omega (arith, o))
same-says (event.Integer n) (event.Error w) text s t q r k a b e = let o : 58 ≡ 45 = k in absurd (omega (arith, o))
same-says (event.Integer n) (event.Integer m) text s t q r k a b e = (integer-once text n m a.0 b.0, rests s t q r a.1 b.1 e)
same-says (event.Integer n) (event.Bulk w) text s t q r k a b e = let o : 58 ≡ 36 = k in absurd (omega (arith, o))
same-says (event.Integer n) event.NullBulk text s t q r k a b e = let o : 58 ≡ 36 = k in absurd (omega (arith, o))
same-says (event.Integer n) event.NullArray text s t q r k a b e = let o : 58 ≡ 42 = k in absurd (omega (arith, o))
same-says (event.Bulk v) (event.StartArray m) text s t q r k a b e = let o : 36 ≡ 42 = k in absurd (omega (arith, o))
same-says (event.Bulk v) event.EndArray text s t q r k a b e = absurd b
same-says (event.Bulk v) (event.Simple w) text s t q r k a b e = let o : 36 ≡ 43 = k in absurd (omega (arith, o))
same-says (event.Bulk v) (event.Error w) text s t q r k a b e = let o : 36 ≡ 45 = k in absurd (omega (arith, o))
same-says (event.Bulk v) (event.Integer m) text s t q r k a b e = let o : 36 ≡ 58 = k in absurd (omega (arith, o))
same-says (event.Bulk v) (event.Bulk w) text s t q r k a b e = bulk-once v.items w.items text s t q r a.0 b.0 a.1 b.1 e
same-says (event.Bulk v) event.NullBulk text s t q r k a b e = absurd (count-null (length v.items) text a.0 b.0)
same-says (event.Bulk v) event.NullArray text s t q r k a b e = let o : 36 ≡ 42 = k in absurd (omega (arith, o))
same-says event.NullBulk (event.StartArray m) text s t q r k a b e = let o : 36 ≡ 42 = k in absurd (omega (arith, o))
same-says event.NullBulk event.EndArray text s t q r k a b e = absurd b
same-says event.NullBulk (event.Simple w) text s t q r k a b e = let o : 36 ≡ 43 = k in absurd (omega (arith, o))
same-says event.NullBulk (event.Error w) text s t q r k a b e = let o : 36 ≡ 45 = k in absurd (omega (arith, o))
same-says event.NullBulk (event.Integer m) text s t q r k a b e = let o : 36 ≡ 58 = k in absurd (omega (arith, o))
same-says event.NullBulk (event.Bulk w) text s t q r k a b e = absurd (count-null (length w.items) text b.0 a.0)
same-says event.NullBulk event.NullBulk text s t q r k a b e = (tt, rests s t q r a.1 b.1 e)
same-says event.NullBulk event.NullArray text s t q r k a b e = let o : 36 ≡ 42 = k in absurd (omega (arith, o))
same-says event.NullArray (event.StartArray m) text s t q r k a b e = absurd (count-null m text b.0 a.0)
same-says event.NullArray event.EndArray text s t q r k a b e = absurd b
same-says event.NullArray (event.Simple w) text s t q r k a b e = let o : 42 ≡ 43 = k in absurd (omega (arith, o))
same-says event.NullArray (event.Error w) text s t q r k a b e = let o : 42 ≡ 45 = k in absurd (omega (arith, o))
same-says event.NullArray (event.Integer m) text s t q r k a b e = let o : 42 ≡ 58 = k in absurd (omega (arith, o))
same-says event.NullArray (event.Bulk w) text s t q r k a b e = let o : 42 ≡ 36 = k in absurd (omega (arith, o))
same-says event.NullArray event.NullBulk text s t q r k a b e = let o : 42 ≡ 36 = k in absurd (omega (arith, o))
same-says event.NullArray event.NullArray text s t q r k a b e = (tt, rests s t q r a.1 b.1 e)

-- bytes begin with one first line and what belongs to it
pub first-once : (e f : ReplyEvent) (s t q r : List ℕ) → IsFirst e s → IsFirst f t → s ++ q ≡ t ++ r
    → SameEvent e f × (q ≡ r)
first-once e f s t q r a b same =
    let both : kind_of e ∷ (line a.text ++ (a.more ++ q)) ≡ kind_of f ∷ (line b.text ++ (b.more ++ r)) =
    ap (λ l. kind_of e ∷ l) (sym (append_assoc (line a.text) a.more q)) ∙ sym (ap (λ l. l ++ q) a.whole)
    ∙ same ∙ ap (λ l. l ++ r) b.whole ∙ ap (λ l. kind_of f ∷ l) (append_assoc (line b.text) b.more r) in
    let k = heads (kind_of e) (kind_of f) (line a.text ++ (a.more ++ q)) (line b.text ++ (b.more ++ r)) both in
    let lines = line-once a.text b.text (a.more ++ q) (b.more ++ r) a.fits b.fits
    (tails (kind_of e) (kind_of f) (line a.text ++ (a.more ++ q)) (line b.text ++ (b.more ++ r)) both) in
    same-says e f a.text a.more b.more q r k a.says (subst (λ l. Says f l b.more) (sym lines.0) b.says) lines.1

-- a reply that is no array does not begin as one
pub scalar-start : (longest : ℕ) (e : ReplyEvent) (s : List ℕ) (n : ℕ) → SpellsScalar longest e s
    → ¬ (SameEvent e (event.StartArray n))
scalar-start longest (event.StartArray m) s n a same = a
scalar-start longest event.EndArray s n a same = same
scalar-start longest (event.Simple v) s n a same = same
scalar-start longest (event.Error v) s n a same = same
scalar-start longest (event.Integer m) s n a same = same
scalar-start longest (event.Bulk v) s n a same = same
scalar-start longest event.NullBulk s n a same = same
scalar-start longest event.NullArray s n a same = same

-- ---- The same events

-- lists that are alike stay so when alike ones follow
pub alike-join : (s t q r : List ReplyEvent) → AreAlike SameEvent s t → AreAlike SameEvent q r
    → AreAlike SameEvent (s ++ q) (t ++ r)
alike-join [] [] q r a b = b
alike-join [] (y ∷ t) q r a b = absurd a
alike-join (x ∷ s) [] q r a b = absurd a
alike-join (x ∷ s) (y ∷ t) q r a b = (a.0, alike-join s t q r a.1 b)

-- the bytes have these events alone, whatever follows
abbrev pub IsOnce : (List ℕ → List ReplyEvent → Type 0) → Type 0
IsOnce spells = (s t q r : List ℕ) (es fs : List ReplyEvent) → spells s es → spells t fs → s ++ q ≡ t ++ r
    → AreAlike SameEvent es fs × (q ≡ r)

module _ (spells : List ℕ → List ReplyEvent → Type 0) (one : IsOnce spells) where
  -- so have rows of as many replies
  row-once : (n m : ℕ) → n ≡ m → (s t q r : List ℕ) (es fs : List ReplyEvent)
      → SpellsRow spells n s es
      → SpellsRow spells m t fs → s ++ q ≡ t ++ r → AreAlike SameEvent es fs × (q ≡ r)
  row-once zero zero k s t q r es fs (a, e) (b, f) same =
      (subst (AreAlike SameEvent es) (sym f) (subst (λ l. AreAlike SameEvent l []) (sym e) tt), rests s t q r a b same)
  row-once zero (suc m) k s t q r es fs a b same = absurd (omega (arith, k))
  row-once (suc n) zero k s t q r es fs a b same = absurd (omega (arith, k))
  row-once (suc n) (suc m) k s t q r es fs (s1, (s2, (e1, (e2, (sa, ea, h1, row1))))) (t1, (t2, (f1, (f2, (ta, fa, h2, row2))))) same =
      let both : s1 ++ (s2 ++ q) ≡ t1 ++ (t2 ++ r) =
      sym (append_assoc s1 s2 q) ∙ ap (λ l. l ++ q) (sym sa) ∙ same ∙ ap (λ l. l ++ r) ta ∙ append_assoc t1 t2 r in
      let first = one s1 t1 (s2 ++ q) (t2 ++ r) e1 f1 h1 h2 both in
      let more = row-once n m (omega (arith, k)) s2 t2 q r e2 f2 row1 row2 first.1 in
      (subst (AreAlike SameEvent es) (sym fa) (subst (λ l. AreAlike SameEvent l (f1 ++ f2)) (sym ea) (alike-join e1 f1 e2 f2 first.0 more.0)), more.1)

  -- an array has a first line, and its replies after it
  array-rest : (s q : List ℕ) (es : List ReplyEvent) (a : SpellsArray spells s es)
      → s ++ q ≡ 42 ∷ line a.text ++ (a.more ++ q)
  array-rest s q es a = ap (λ l. l ++ q) a.whole ∙ ap (λ l. 42 ∷ l) (append_assoc (line a.text) a.more q)

  -- arrays of such replies too
  array-once : (s t q r : List ℕ) (es fs : List ReplyEvent) → SpellsArray spells s es
      → SpellsArray spells t fs → s ++ q ≡ t ++ r → AreAlike SameEvent es fs × (q ≡ r)
  array-once s t q r es fs a b same =
      let first = first-once (event.StartArray a.count) (event.StartArray b.count) (42 ∷ line a.text) (42 ∷ line b.text) (a.more ++ q) (b.more ++ r)
      (array-first a.text a.count a.number) (array-first b.text b.count b.number)
      (sym (array-rest s q es a) ∙ same ∙ array-rest t r fs b) in
      let rows = row-once a.count b.count first.0 a.more b.more q r a.inside b.inside a.row b.row first.1 in
      let inner = alike-join a.inside b.inside (event.EndArray ∷ []) (event.EndArray ∷ []) rows.0 (tt, tt) in
      (subst (AreAlike SameEvent es) (sym b.told) (subst (λ l. AreAlike SameEvent l (event.StartArray b.count ∷ (b.inside ++ event.EndArray ∷ []))) (sym a.told) (first.0, inner)), rows.1)

  -- no other reply begins as an array does
  mixed-never : (longest : ℕ) (e : ReplyEvent) (s t q r : List ℕ) (fs : List ReplyEvent)
      → SpellsScalar longest e s → SpellsArray spells t fs → s ++ q ≡ t ++ r → ⊥
  mixed-never longest e s t q r fs a b same =
      scalar-start longest e s b.count a
      (first-once e (event.StartArray b.count) s (42 ∷ line b.text) q (b.more ++ r) (scalar-first longest e s a) (array-first b.text b.count b.number)
      (same ∙ array-rest t r fs b)).0

  -- so a reply has its events alone
  either-once : (longest : ℕ) → IsOnce (SpellsEither longest spells)
  either-once longest s t q r es fs (inl (e, (a, ea))) (inl (f, (b, fb))) same =
      let k = first-once e f s t q r (scalar-first longest e s a) (scalar-first longest f t b) same in
      (subst (AreAlike SameEvent es) (sym fb) (subst (λ l. AreAlike SameEvent l (f ∷ [])) (sym ea) (k.0, tt)), k.1)
  either-once longest s t q r es fs (inl (e, (a, ea))) (inr b) same =
      absurd (mixed-never longest e s t q r fs a b same)
  either-once longest s t q r es fs (inr a) (inl (f, (b, fb))) same =
      absurd (mixed-never longest f t s r q es b a (sym same))
  either-once longest s t q r es fs (inr a) (inr b) same = array-once s t q r es fs a b same

-- bytes spell one reply, with one list of events
pub reply-once : (longest depth : ℕ) → IsOnce (SpellsEvents longest depth)
reply-once longest zero = either-once SpellsNothing (λ s t q r es fs a b same. absurd a) longest
reply-once longest (suc depth) = either-once (SpellsEvents longest depth) (reply-once longest depth) longest

-- ---- Whole inputs

-- a reply begins with a byte
either-some : (longest : ℕ) (spells : List ℕ → List ReplyEvent → Type 0) (s q : List ℕ)
    (es : List ReplyEvent) → SpellsEither longest spells s es → ¬ (s ++ q ≡ [])
either-some longest spells s q es (inl (e, (a, told))) same =
    let f = ap (λ l. l ++ q) (sym (scalar-first longest e s a).whole) ∙ same in cc f
either-some longest spells s q es (inr a) same =
    let f = ap (λ l. l ++ q) (sym a.whole) ∙ same in cc f

-- also within limits
pub first-some : (longest depth : ℕ) (s q : List ℕ) (es : List ReplyEvent)
    → SpellsEvents longest depth s es → ¬ (s ++ q ≡ [])
first-some longest zero s q es h = either-some longest SpellsNothing s q es h
first-some longest (suc depth) s q es h = either-some longest (SpellsEvents longest depth) s q es h

-- rows over the same bytes are as long
rows-once : (longest depth n m : ℕ) (s t : List ℕ) (es fs : List ReplyEvent) → s ≡ t
    → SpellsRow (SpellsEvents longest depth) n s es → SpellsRow (SpellsEvents longest depth) m t fs
    → AreAlike SameEvent es fs
rows-once longest depth zero zero s t es fs same (a, e) (b, f) =
    subst (AreAlike SameEvent es) (sym f) (subst (λ l. AreAlike SameEvent l []) (sym e) tt)
rows-once longest depth zero (suc m) s t es fs same (a, e) (t1, (t2, (f1, (f2, (ta, fa, h2, row2))))) =
    absurd (first-some longest depth t1 t2 f1 h2 (sym ta ∙ sym same ∙ a))
rows-once longest depth (suc n) zero s t es fs same (s1, (s2, (e1, (e2, (sa, ea, h1, row1))))) (b, f) =
    absurd (first-some longest depth s1 s2 e1 h1 (sym sa ∙ same ∙ b))
rows-once longest depth (suc n) (suc m) s t es fs same (s1, (s2, (e1, (e2, (sa, ea, h1, row1))))) (t1, (t2, (f1, (f2, (ta, fa, h2, row2))))) =
    let first = reply-once longest depth s1 t1 s2 t2 e1 f1 h1 h2 (sym sa ∙ same ∙ ta) in
    let more = rows-once longest depth n m s2 t2 e2 f2 first.1 row1 row2 in
    subst (AreAlike SameEvent es) (sym fa) (subst (λ l. AreAlike SameEvent l (f1 ++ f2)) (sym ea) (alike-join e1 f1 e2 f2 first.0 more))

-- the same input has the same events
pub replies-once : (longest depth : ℕ) (bytes : List ℕ) (es fs : List ReplyEvent)
    → AreReplies longest depth bytes es → AreReplies longest depth bytes fs → AreAlike SameEvent es fs
replies-once longest depth bytes es fs (n, a) (m, b) =
    rows-once longest depth n m bytes bytes es fs refl a b
