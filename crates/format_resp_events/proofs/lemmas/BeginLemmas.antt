-- The events so far are the first ones of the replies that the input becomes.
use Rattle.std.proofs.Common.{◌≡◌, ℕ, zero, suc, ◌+◌, ◌-◌, ◌<◌, List, [], ◌∷◌, ◌++◌, length, Some, refl, ap, sym, ◌∙◌, subst, inl, inr, arith, append_assoc}
use Rattle.winnow_reader.specs.SameValues.{AreAlike, IsFrontOf}
use Rattle.format_resp.specs.Language.{line, IsLength, greatest_count}
use Rattle.format_resp_events.specs.Events.{SameEvent, SpellsRow, SpellsEvents, SpellsInside, AreReplies}
use Rattle.format_resp_events.specs.OpenArrays.{IsDue}
use Rattle.format_resp_events.specs.Reading.{AreBegun}
use Rattle.format_resp_events.specs.declared.event.ReplyEvent.{ReplyEvent}
use Rattle.format_resp_events.specs.declared.event.ReplyEvent.TheVariants as event
use Rattle.format_resp_events.proofs.lemmas.EventLemmas.{at-either, due-some}
use Rattle.format_resp_events.proofs.lemmas.SameLemmas.{IsOnce, reply-once, first-once, first-some, scalar-first, scalar-start, array-first, alike-join}

-- events that are alike stand first, and then the rest
record Begins (es fs rest : List ReplyEvent) : Type 0 where
  front : List ReplyEvent
  alike : AreAlike SameEvent es front
  whole : fs ≡ front ++ rest

-- no events stand first
begins-none : (es fs : List ReplyEvent) → es ≡ [] → Begins es fs fs
begins-none es fs e = record { front = []; alike = subst (λ l. AreAlike SameEvent l []) (sym e) tt; whole = refl }

-- events stand first, and then more
begins-join : (es e1 e2 fs f1 f2 rest : List ReplyEvent) → es ≡ e1 ++ e2 → fs ≡ f1 ++ f2
    → AreAlike SameEvent e1 f1 → Begins e2 f2 rest → Begins es fs rest
begins-join es e1 e2 fs f1 f2 rest e f one more = record {
  front = f1 ++ more.front;
  alike = subst (λ l. AreAlike SameEvent l (f1 ++ more.front)) (sym e) (alike-join e1 f1 e2 more.front one more.alike);
  whole = f ∙ ap (λ l. f1 ++ l) more.whole ∙ sym (append_assoc f1 more.front rest);
}

-- two parts before the same rest
two-parts : (s1 s2 q t1 t2 r s t : List ℕ) → s ≡ s1 ++ s2 → t ≡ t1 ++ t2 → s ++ q ≡ t ++ r
    → s1 ++ (s2 ++ q) ≡ t1 ++ (t2 ++ r)
two-parts s1 s2 q t1 t2 r s t a b e =
    sym (append_assoc s1 s2 q) ∙ ap (λ l. l ++ q) (sym a) ∙ e ∙ ap (λ l. l ++ r) b ∙ append_assoc t1 t2 r

-- ---- Rows

module _ (spells : List ℕ → List ReplyEvent → Type 0) (one : IsOnce spells) where
  -- a row of more replies goes on after fewer
  rows-front : (n m k : ℕ) → k ≡ n + m → (s t q r : List ℕ) (es fs : List ReplyEvent)
      → SpellsRow spells n s es → SpellsRow spells k t fs → s ++ q ≡ t ++ r
      → (p : List ℕ) × ((rest : List ReplyEvent) × ((q ≡ p ++ r) × Begins es fs rest × SpellsRow spells m p rest))
  rows-front zero m k e s t q r es fs (a, ea) row same =
      let count : k ≡ m = omega (arith, e) in
      (t, (fs, (ap (λ l. l ++ q) (sym a) ∙ same, begins-none es fs ea, subst (λ c. SpellsRow spells c t fs) count row)))
  rows-front (suc n) m zero e s t q r es fs a b same = absurd (omega (arith, e))
  rows-front (suc n) m (suc k) e s t q r es fs (s1, (s2, (e1, (e2, (sa, ea, h1, row1))))) (t1, (t2, (f1, (f2, (ta, fa, h2, row2))))) same =
      let first = one s1 t1 (s2 ++ q) (t2 ++ r) e1 f1 h1 h2 (two-parts s1 s2 q t1 t2 r s t sa ta same) in
      let more = rows-front n m k (omega (arith, e)) s2 t2 q r e2 f2 row1 row2 first.1 in
      (more.0, (more.1.0, (more.1.1.0, begins-join es e1 e2 fs f1 f2 more.1.0 ea fa first.0 more.1.1.1, more.1.1.2)))

  -- a row that is not empty has a first reply
  row-head : (k : ℕ) (q : List ℕ) (es : List ReplyEvent) → 0 < k → SpellsRow spells k q es
      → SpellsRow spells (suc (k - 1)) q es
  row-head k q es some row =
      let count : k ≡ suc (k - 1) = omega (arith, some) in subst (λ c. SpellsRow spells c q es) count row

-- in an array too the bytes have their events alone
inside-once : (longest depth : ℕ) → IsOnce (SpellsInside longest depth)
inside-once longest zero s t q r es fs a b same = absurd a
inside-once longest (suc depth) s t q r es fs a b same =
    reply-once longest depth s t q r es fs a b same

-- whole replies go on after fewer
top-front : (longest depth n m : ℕ) (s t q : List ℕ) (es fs : List ReplyEvent)
    → SpellsRow (SpellsEvents longest depth) n s es → SpellsRow (SpellsEvents longest depth) m t fs
    → s ++ q ≡ t → (rest : List ReplyEvent) × (Begins es fs rest × AreReplies longest depth q rest)
top-front longest depth zero m s t q es fs (a, ea) row same =
    let all : t ≡ q = sym same ∙ ap (λ l. l ++ q) a in
    (fs, (begins-none es fs ea, (m, subst (λ l. SpellsRow (SpellsEvents longest depth) m l fs) all row)))
top-front longest depth (suc n) zero s t q es fs (s1, (s2, (e1, (e2, (sa, ea, h1, row1))))) (b, f) same =
    absurd (first-some longest depth s1 (s2 ++ q) e1 h1 (sym (append_assoc s1 s2 q) ∙ ap (λ l. l ++ q) (sym sa) ∙ same ∙ b))
top-front longest depth (suc n) (suc m) s t q es fs (s1, (s2, (e1, (e2, (sa, ea, h1, row1))))) (t1, (t2, (f1, (f2, (ta, fa, h2, row2))))) same =
    let both : s1 ++ (s2 ++ q) ≡ t1 ++ t2 = sym (append_assoc s1 s2 q) ∙ ap (λ l. l ++ q) (sym sa) ∙ same ∙ ta in
    let first = reply-once longest depth s1 t1 (s2 ++ q) t2 e1 f1 h1 h2 both in
    let more = top-front longest depth n m s2 t2 q e2 f2 row1 row2 first.1 in
    (more.0, (begins-join es e1 e2 fs f1 f2 more.0 ea fa first.0 more.1.0, more.1.1))

-- ---- What open arrays lack

-- the bytes are what the open arrays lack, and then whole replies, with these events. Of the
-- innermost array that many replies are begun
abbrev Left : ℕ → ℕ → ℕ → List ℕ → List ℕ → List ReplyEvent → Type 0
Left longest depth begun [] q es = AreReplies longest depth q es
Left longest depth begun (n ∷ lacks) q es = (p : List ℕ) × ((r : List ℕ) × ((e : List ReplyEvent) × ((f : List ReplyEvent)
    × ((q ≡ p ++ r) × (es ≡ e ++ event.EndArray ∷ f)
    × SpellsRow (SpellsInside longest (depth - length lacks)) (n - begun) p e × Left longest depth 1 lacks r f))))

-- a reply in an array is one of less depth
inside-down : (longest m k : ℕ) (bytes : List ℕ) (events : List ReplyEvent) → m - 1 ≡ k
    → SpellsInside longest m bytes events → SpellsEvents longest k bytes events
inside-down longest zero k bytes events e h = absurd h
inside-down longest (suc m) k bytes events e h =
    let same : m ≡ k = omega (arith, e) in subst (λ d. SpellsEvents longest d bytes events) same h

-- the first reply of what is left where one is due, and the rest
record First (longest depth : ℕ) (lacks q : List ℕ) (es : List ReplyEvent) : Type 0 where
  one : List ℕ
  more : List ℕ
  first : List ReplyEvent
  others : List ReplyEvent
  bytes : q ≡ one ++ more
  events : es ≡ first ++ others
  spells : SpellsEvents longest (depth - length lacks) one first
  left : Left longest depth 1 lacks more others

-- it is there, if any bytes are
first-left : (longest depth : ℕ) (lacks q : List ℕ) (es : List ReplyEvent) → IsDue lacks
    → ¬ (q ≡ []) → Left longest depth 0 lacks q es → First longest depth lacks q es
first-left longest depth [] q es due some (zero, (none, e)) = absurd (some none)
first-left longest depth [] q es due some (suc m, (s1, (s2, (e1, (e2, (sa, ea, h, row)))))) =
    let level : depth ≡ depth - 0 = omega arith in
    record {
      one = s1;
      more = s2;
      first = e1;
      others = e2;
      bytes = sa;
      events = ea;
      spells = subst (λ d. SpellsEvents longest d s1 e1) level h;
      left = (m, row);
    }
first-left longest depth (n ∷ lacks) q es due some (p, (r, (e, (f, (qa, ea, row, left))))) =
    let k = row-head (SpellsInside longest (depth - length lacks)) (inside-once longest (depth - length lacks)) (n - 0) p e
    (omega (arith, due-some n lacks due)) row in
    let s1 = k.0 in
    let s2 = k.1.0 in
    let e1 = k.1.1.0 in
    let e2 = k.1.1.1.0 in
    let parts = k.1.1.1.1 in
    let count : n - 0 - 1 ≡ n - 1 = omega arith in
    record {
      one = s1;
      more = s2 ++ r;
      first = e1;
      others = e2 ++ event.EndArray ∷ f;
      bytes = qa ∙ ap (λ l. l ++ r) parts.0 ∙ append_assoc s1 s2 r;
      events = ea ∙ ap (λ l. l ++ event.EndArray ∷ f) parts.1 ∙ append_assoc e1 e2 (event.EndArray ∷ f);
      spells = inside-down longest (depth - length lacks) (depth - length (n ∷ lacks)) s1 e1 (omega arith) parts.2;
      left = (s2, (r, (e2, (f, (refl, refl, subst (λ c. SpellsRow (SpellsInside longest (depth - length lacks)) c s2 e2) count parts.3, left)))));
    }

-- ---- An array that has begun

-- what is left of an array that has begun, and its events
record Rest (spells : List ℕ → List ReplyEvent → Type 0) (lacks : ℕ) (q r : List ℕ) (es fs : List ReplyEvent) : Type 0 where
  part : List ℕ
  rest : List ReplyEvent
  bytes : q ≡ part ++ r
  row : SpellsRow spells lacks part rest
  begins : Begins es fs (rest ++ event.EndArray ∷ [])

-- a reply that begins as an array does goes on as it does
array-left : (longest d has n : ℕ) (text more q one r : List ℕ) (inside fs : List ReplyEvent)
    → IsLength greatest_count text (Some (has + n)) → SpellsRow (SpellsInside longest d) has more inside
    → SpellsEvents longest d one fs → 42 ∷ line text ++ (more ++ q) ≡ one ++ r
    → Rest (SpellsInside longest d) n q r (event.StartArray (has + n) ∷ inside) fs
array-left longest d has n text more q one r inside fs is row h same =
    elim (at-either longest d one fs h) [
      | inl (e, (a, told)) ↦
          absurd (scalar-start longest e one (has + n) a (first-once e (event.StartArray (has + n)) one (42 ∷ line text) r (more ++ q)
          (scalar-first longest e one a) (array-first text (has + n) is) (sym same)).0)
      | inr b ↦
          let there : 42 ∷ line text ++ (more ++ q) ≡ 42 ∷ line b.text ++ (b.more ++ r) =
          same ∙ ap (λ l. l ++ r) b.whole ∙ ap (λ l. 42 ∷ l) (append_assoc (line b.text) b.more r) in
          let first = first-once (event.StartArray (has + n)) (event.StartArray b.count) (42 ∷ line text) (42 ∷ line b.text) (more ++ q) (b.more ++ r)
          (array-first text (has + n) is) (array-first b.text b.count b.number) there in
          let k = rows-front (SpellsInside longest d) (inside-once longest d) has n b.count (sym first.0) more b.more q r inside b.inside row b.row first.1 in
          let begins = k.1.1.1 in
          record {
            part = k.0;
            rest = k.1.0;
            bytes = k.1.1.0;
            row = k.1.1.2;
            begins = record {
              front = event.StartArray b.count ∷ begins.front;
              alike = (first.0, begins.alike);
              whole = b.told ∙ ap (λ l. event.StartArray b.count ∷ (l ++ event.EndArray ∷ [])) begins.whole
                  ∙ ap (λ l. event.StartArray b.count ∷ l) (append_assoc begins.front k.1.0 (event.EndArray ∷ []));
            };
          }
    ]

-- the events of what has begun stand first, and what is left has the others
begun-front : (longest depth : ℕ) (lacks s t q : List ℕ) (es fs : List ReplyEvent)
    → AreBegun longest depth lacks s es → AreReplies longest depth t fs → s ++ q ≡ t
    → (rest : List ReplyEvent) × (Begins es fs rest × Left longest depth 0 lacks q rest)
begun-front longest depth [] s t q es fs (n, a) (m, b) same = top-front longest depth n m s t q es fs a b same
begun-front longest depth (n ∷ lacks) s t q es fs (due, deep, b) all same =
    let array = 42 ∷ (line b.text ++ b.more) in
    let there : b.outer ++ (array ++ q) ≡ t =
    sym (append_assoc b.outer array q) ∙ ap (λ l. l ++ q) (sym b.whole) ∙ same in
    let before = begun-front longest depth lacks b.outer t (array ++ q) b.given fs b.ahead all there in
    let first = first-left longest depth lacks (array ++ q) before.0 due (λ e. cc e) before.1.1 in
    let rest = array-left longest (depth - length lacks) b.has n b.text b.more q first.one first.more b.inside first.first b.number b.row first.spells
    (ap (λ l. 42 ∷ l) (sym (append_assoc (line b.text) b.more q)) ∙ first.bytes) in
    let count : n ≡ n - 0 = omega arith in
    let whole : before.0 ≡ rest.begins.front ++ (rest.rest ++ event.EndArray ∷ first.others) =
    first.events ∙ ap (λ l. l ++ first.others) rest.begins.whole
    ∙ append_assoc rest.begins.front (rest.rest ++ event.EndArray ∷ []) first.others
    ∙ ap (λ l. rest.begins.front ++ l) (append_assoc rest.rest (event.EndArray ∷ []) first.others) in (
      rest.rest ++ event.EndArray ∷ first.others,
      (
        begins-join es b.given (event.StartArray (b.has + n) ∷ b.inside) fs before.1.0.front before.0 (rest.rest ++ event.EndArray ∷ first.others)
            b.told before.1.0.whole before.1.0.alike (record { front = rest.begins.front; alike = rest.begins.alike; whole = whole }),
        (rest.part, (first.more, (rest.rest, (first.others, (rest.bytes, refl, subst (λ c. SpellsRow (SpellsInside longest (depth - length lacks)) c rest.part rest.rest) count rest.row, first.left))))),
      ),
    )

-- alike events and then others have the first ones as a front
front-of : (es front rest : List ReplyEvent) → AreAlike SameEvent es front
    → IsFrontOf SameEvent es (front ++ rest)
front-of [] front rest h = tt
front-of (e ∷ es) [] rest h = absurd h
front-of (e ∷ es) (f ∷ front) rest h = (h.0, front-of es front rest h.1)

-- the events of what has begun are the first ones of the replies that the bytes become
pub begun-first : (longest depth : ℕ) (lacks s more : List ℕ) (es fs : List ReplyEvent)
    → AreBegun longest depth lacks s es → AreReplies longest depth (s ++ more) fs
    → IsFrontOf SameEvent es fs
begun-first longest depth lacks s more es fs a b =
    let k = begun-front longest depth lacks s (s ++ more) more es fs a b refl in
    subst (IsFrontOf SameEvent es) (sym k.1.0.whole) (front-of es k.1.0.front k.0 k.1.0.alike)
