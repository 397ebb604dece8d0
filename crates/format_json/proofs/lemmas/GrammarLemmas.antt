-- Values: bytes begin with one in one way, and still do if more follows.
use Rattle.std.proofs.Common.{◌≡◌, ℕ, zero, suc, Bool, true, false, if◌then◌else◌, List, [], ◌∷◌, ◌++◌, ap, sym, ◌∙◌, subst, refl, arith, append_assoc}
use Rattle.std.specs.declared.string.String.{String}
use Rattle.std.specs.declared.alloc.Global.{Global}
use Rattle.std.specs.declared.vec.Vec.{Vec}
use Rattle.format_lemmas.specs.Bytes.{EndsRun}
use Rattle.format_lemmas.proofs.lemmas.ByteLemmas.{heads, tails}
use Rattle.format_json_scalars.specs.Numbers.{IsNumber, is_number_byte}
use Rattle.format_json.specs.Language.{is_blank, after_blanks, null_word, bool_word, WordAhead, MemberAhead, Elements, Inside, Bracketed, Layer, Nested}
use Rattle.format_json_scalars.specs.StringAnswers.{StringHere}
use Rattle.format_json_scalars.specs.NumberAnswers.{NumberHere}
use Rattle.format_json.specs.Founds.{MayFollow}
use Rattle.format_json_scalars.specs.declared.numbers.Number.{Number}
use Rattle.format_json.specs.declared.value.Value.{Value}
use Rattle.format_json.specs.declared.value.Value.TheOpen as open_value
use Rattle.format_json.specs.declared.value.Value.TheOpen.{Value-F, Null}
use Rattle.format_json.specs.declared.value.Value.TheViews.{out-Value}
use Rattle.format_json.specs.TokenLaws.{blanks-more}
use Rattle.format_json_scalars.proofs.lemmas.NumberAnswerLemmas.{number-bytes, number-some}
use Rattle.format_json_scalars.proofs.lemmas.RunLemmas.{split-once}
use Rattle.format_json_scalars.proofs.lemmas.StringLemmas.{string-once}

-- ---- Blanks

-- one step of `blanks-past`
past-if : (t : Bool) (x : ℕ) (b more : List ℕ)
    → (after_blanks b ≡ [] → after_blanks (b ++ more) ≡ after_blanks more)
    → (if t then after_blanks b else x ∷ b) ≡ []
    → (if t then after_blanks (b ++ more) else x ∷ (b ++ more)) ≡ after_blanks more
past-if true x b more on e = on e
past-if false x b more on e = absurd (cc e)

-- where only blanks stand, more bytes come after them
pub blanks-past : (b more : List ℕ) → after_blanks b ≡ []
    → after_blanks (b ++ more) ≡ after_blanks more
blanks-past [] more e = refl
blanks-past (x ∷ b) more e = past-if (is_blank x) x b more (blanks-past b more) e

-- ---- Lists of elements

-- no bytes are followed by two rests
abbrev pub Once : {T : Type 0} → (T → List ℕ → List ℕ → Type 0) → Type 0
Once {T} inner = (v w : T) (b r s : List ℕ) → inner v b r → inner w b s → r ≡ s

-- bytes that begin with a value still do if more follows
abbrev pub Stable : {T : Type 0} → Bool → (T → List ℕ → List ℕ → Type 0) → Type 0
Stable {T} partial inner = (v : T) (b r more : List ℕ) → MayFollow partial more → inner v b r
    → inner v (b ++ more) (r ++ more)

-- if this byte is the first after blanks, the bytes begin with no value
abbrev pub NoneAt : {T : Type 0} → ℕ → (T → List ℕ → List ℕ → Type 0) → Type 0
NoneAt {T} close inner = (v : T) (b r q : List ℕ) → after_blanks b ≡ close ∷ q → ¬ (inner v b r)

module _ {T : Type 0} (inner : T → List ℕ → List ℕ → Type 0) (close : ℕ) where
  -- elements begin with the first of them
  pub elements-first : (v : T) (vs : List T) (b r : List ℕ) → Elements inner close (v ∷ vs) b r
      → (a : List ℕ) × inner v b a
  elements-first v [] b r h = (h.0, h.1.0)
  elements-first v (w ∷ vs) b r h = (h.0, h.1.1.0)

  module _ (comma : ¬ (close ≡ 44)) (once : Once inner) (none : NoneAt close inner) where
    -- elements end in one way
    elements-once : (vs ws : List T) (b r s : List ℕ) → Elements inner close vs b r
        → Elements inner close ws b s → r ≡ s
    elements-once [] ws b r s h g = absurd h
    elements-once (v ∷ vs) [] b r s h g = absurd g
    elements-once (v ∷ []) (w ∷ []) b r s (a, (h, e)) (c, (g, f)) =
        tails close close r s (sym e ∙ ap after_blanks (once v w b a c h g) ∙ f)
    elements-once (v ∷ []) (w ∷ x ∷ ws) b r s (a, (h, e)) (c, (n, (g, f, k))) =
        absurd (comma (heads close 44 r n (sym e ∙ ap after_blanks (once v w b a c h g) ∙ f)))
    elements-once (v ∷ y ∷ vs) (w ∷ []) b r s (a, (m, (h, e, k))) (c, (g, f)) =
        absurd (comma (heads close 44 s m (sym f ∙ ap after_blanks (sym (once v w b a c h g)) ∙ e)))
    elements-once (v ∷ y ∷ vs) (w ∷ x ∷ ws) b r s (a, (m, (h, e, k))) (c, (n, (g, f, l))) =
        let same = tails 44 44 m n (sym e ∙ ap after_blanks (once v w b a c h g) ∙ f) in
        elements-once (y ∷ vs) (x ∷ ws) n r s (subst (λ t. Elements inner close (y ∷ vs) t r) same k) l

    -- two readings of the inside of brackets leave the same rest
    inside-once : (vs ws : List T) (b r s : List ℕ) → Inside inner close vs b r
        → Inside inner close ws b s → r ≡ s
    inside-once [] [] b r s e f = tails close close r s (sym e ∙ f)
    inside-once [] (w ∷ ws) b r s e g =
        let first = elements-first w ws b s g in absurd (none w b first.0 r e first.1)
    inside-once (v ∷ vs) [] b r s h f =
        let first = elements-first v vs b r h in absurd (none v b first.0 s f first.1)
    inside-once (v ∷ vs) (w ∷ ws) b r s h g = elements-once (v ∷ vs) (w ∷ ws) b r s h g

    -- two readings of brackets leave the same rest
    pub bracketed-once : (begin : ℕ) (vs ws : List T) (b r s : List ℕ)
        → Bracketed inner close begin vs b r → Bracketed inner close begin ws b s → r ≡ s
    bracketed-once begin vs ws b r s (m, (e, h)) (n, (f, g)) =
        inside-once vs ws n r s (subst (λ t. Inside inner close vs t r) (tails begin begin m n (sym e ∙ f)) h) g

  module _ (partial : Bool) (stable : Stable partial inner) (more : List ℕ) (may : MayFollow partial more) where
    -- elements stay where more follows
    elements-stable : (vs : List T) (b r : List ℕ) → Elements inner close vs b r
        → Elements inner close vs (b ++ more) (r ++ more)
    elements-stable [] b r h = absurd h
    elements-stable (v ∷ []) b r (a, (h, e)) =
        (a ++ more, (stable v b a more may h, blanks-more a close r more e))
    elements-stable (v ∷ y ∷ vs) b r (a, (n, (h, e, k))) =
        (a ++ more, (n ++ more, (stable v b a more may h, blanks-more a 44 n more e, elements-stable (y ∷ vs) n r k)))

    -- the inside of brackets stands also if more follows
    inside-stable : (vs : List T) (b r : List ℕ) → Inside inner close vs b r
        → Inside inner close vs (b ++ more) (r ++ more)
    inside-stable [] b r e = blanks-more b close r more e
    inside-stable (v ∷ vs) b r h = elements-stable (v ∷ vs) b r h

    -- brackets stand also if more follows
    pub bracketed-stable : (begin : ℕ) (vs : List T) (b r : List ℕ)
        → Bracketed inner close begin vs b r → Bracketed inner close begin vs (b ++ more) (r ++ more)
    bracketed-stable begin vs b r (n, (e, h)) =
        (n ++ more, (ap (λ l. l ++ more) e, inside-stable vs n r h))

-- ---- Members

-- strings end in one way
pub name-once : Once StringHere
name-once v w b r s (cs, (h, has)) (ds, (g, gas)) = (string-once b cs r ds s h g).1

-- a string stays where more follows
pub name-stable : (v : String Global) (b r more : List ℕ) → StringHere v b r
    → StringHere v (b ++ more) (r ++ more)
name-stable v b r more (cs, ((t, (e, spells)), has)) =
    (cs, ((t, (ap (λ l. l ++ more) e ∙ ap (λ l. 34 ∷ l) (append_assoc t (34 ∷ r) more), spells)), has))

-- a string begins with a quote
pub name-quote : (v : String Global) (b r : List ℕ) → StringHere v b r
    → (q : List ℕ) × (b ≡ 34 ∷ q)
name-quote v b r (cs, ((t, (e, spells)), has)) = (t ++ 34 ∷ r, e)

module _ (inner : Value → List ℕ → List ℕ → Type 0) where
  -- members end in one way
  pub member-once : Once inner → Once (MemberAhead inner)
  member-once once v w b r s (a, (m, (h, e, k))) (c, (n, (g, f, l))) =
      let same = name-once v.0 w.0 (after_blanks b) a c h g in
      let next = tails 58 58 m n (sym e ∙ ap after_blanks same ∙ f) in
      once v.1 w.1 n r s (subst (λ t. inner v.1 t r) next k) l

  -- a member stays where more follows
  member-stable : (partial : Bool) → Stable partial inner → Stable partial (MemberAhead inner)
  member-stable partial stable v b r more may (a, (n, (h, e, k))) =
      let quote = name-quote v.0 (after_blanks b) a h in
      let on = blanks-more b 34 quote.0 more quote.1 ∙ ap (λ l. l ++ more) (sym quote.1) in (
        a ++ more,
        (
          n ++ more,
          (
            subst (λ t. StringHere v.0 t (a ++ more)) (sym on) (name-stable v.0 (after_blanks b) a more h),
            blanks-more a 58 n more e,
            stable v.1 n r more may k,
          ),
        ),
      )

  -- no member begins with a closing bracket
  pub member-none : NoneAt 125 (MemberAhead inner)
  member-none v b r q e (a, (n, (h, f, k))) =
      let quote = name-quote v.0 (after_blanks b) a h in
      let same = heads 125 34 q quote.0 (sym e ∙ quote.1) in omega (arith, same)

-- ---- The first byte of a value

-- the kind that a first byte begins: 0 for a number, or the byte
abbrev pub kind_of : ℕ → ℕ
kind_of byte = if is_number_byte byte then 0 else byte

-- the kind of a layer
abbrev pub kind : Value-F Value → ℕ
kind Null = 110
kind (open_value.Bool true) = 116
kind (open_value.Bool false) = 102
kind (open_value.Number n) = 0
kind (open_value.String v) = 34
kind (open_value.Array vs) = 91
kind (open_value.Object ms) = 123

-- a number begins with one of its bytes
number-head : (t : List ℕ) → IsNumber t
    → (c : ℕ) × ((q : List ℕ) × ((t ≡ c ∷ q) × (is_number_byte c ≡ true)))
number-head [] h = absurd (let l = number-some [] h in omega (arith, l))
number-head (c ∷ q) h = (c, (q, (refl, (number-bytes (c ∷ q) h).0)))

-- a layer begins with this byte, which is of its kind
abbrev pub BeginsKind : ℕ → List ℕ → Type 0
BeginsKind k b = (c : ℕ) × ((q : List ℕ) × ((b ≡ c ∷ q) × (kind_of c ≡ k)))

module _ (partial : Bool) (inner : Value → List ℕ → List ℕ → Type 0) where
  -- a layer begins with a byte of its kind
  pub layer-kind : (x : Value-F Value) (b r : List ℕ) → Layer partial inner x b r
      → BeginsKind (kind x) b
  layer-kind Null b r e = (110, (_, (e, refl)))
  layer-kind (open_value.Bool true) b r e = (116, (_, (e, refl)))
  layer-kind (open_value.Bool false) b r e = (102, (_, (e, refl)))
  layer-kind (open_value.Number n) b r (t, ((e, is, ends), of)) =
      let head = number-head t is in
      (head.0, (head.1.0 ++ r, (e ∙ ap (λ l. l ++ r) head.1.1.0, ap (λ z. if z then 0 else head.0) head.1.1.1)))
  layer-kind (open_value.String v) b r (cs, ((t, (e, spells)), has)) = (34, (_, (e, refl)))
  layer-kind (open_value.Array vs) b r (n, (e, h)) = (91, (n, (e, refl)))
  layer-kind (open_value.Object ms) b r (n, (e, h)) = (123, (n, (e, refl)))

  -- layers that begin with the same byte are of one kind
  pub kind-at : (c : ℕ) (q : List ℕ) (x : Value-F Value) (b r : List ℕ) → b ≡ c ∷ q
      → Layer partial inner x b r → kind x ≡ kind_of c
  kind-at c q x b r e h =
      let k = layer-kind x b r h in
      sym k.1.1.1 ∙ ap kind_of (heads k.0 c k.1.0 q (sym k.1.1.0 ∙ e))

  -- two layers of the same bytes are of one kind
  pub same-kind : (x y : Value-F Value) (b r s : List ℕ) → Layer partial inner x b r
      → Layer partial inner y b s → kind y ≡ kind x
  same-kind x y b r s h g =
      let k = layer-kind x b r h in kind-at k.0 k.1.0 y b s k.1.1.0 g ∙ k.1.1.1

  -- a layer of this kind is null
  pub null-only : (y : Value-F Value) (b s : List ℕ) → kind y ≡ 110 → Layer partial inner y b s
      → WordAhead null_word tt b s
  null-only Null b s e h = h
  null-only (open_value.Bool true) b s e h = absurd (omega (arith, e))
  null-only (open_value.Bool false) b s e h = absurd (omega (arith, e))
  null-only (open_value.Number n) b s e h = absurd (omega (arith, e))
  null-only (open_value.String v) b s e h = absurd (omega (arith, e))
  null-only (open_value.Array vs) b s e h = absurd (omega (arith, e))
  null-only (open_value.Object ms) b s e h = absurd (omega (arith, e))

  -- a layer of this kind is true
  pub true-only : (y : Value-F Value) (b s : List ℕ) → kind y ≡ 116 → Layer partial inner y b s
      → WordAhead (bool_word true) tt b s
  true-only Null b s e h = absurd (omega (arith, e))
  true-only (open_value.Bool true) b s e h = h
  true-only (open_value.Bool false) b s e h = absurd (omega (arith, e))
  true-only (open_value.Number n) b s e h = absurd (omega (arith, e))
  true-only (open_value.String v) b s e h = absurd (omega (arith, e))
  true-only (open_value.Array vs) b s e h = absurd (omega (arith, e))
  true-only (open_value.Object ms) b s e h = absurd (omega (arith, e))

  -- a layer of this kind is false
  pub false-only : (y : Value-F Value) (b s : List ℕ) → kind y ≡ 102 → Layer partial inner y b s
      → WordAhead (bool_word false) tt b s
  false-only Null b s e h = absurd (omega (arith, e))
  false-only (open_value.Bool true) b s e h = absurd (omega (arith, e))
  false-only (open_value.Bool false) b s e h = h
  false-only (open_value.Number n) b s e h = absurd (omega (arith, e))
  false-only (open_value.String v) b s e h = absurd (omega (arith, e))
  false-only (open_value.Array vs) b s e h = absurd (omega (arith, e))
  false-only (open_value.Object ms) b s e h = absurd (omega (arith, e))

  -- a layer of this kind is number
  pub number-only : (y : Value-F Value) (b s : List ℕ) → kind y ≡ 0 → Layer partial inner y b s
      → (n : Number) × NumberHere partial n b s
  number-only Null b s e h = absurd (omega (arith, e))
  number-only (open_value.Bool true) b s e h = absurd (omega (arith, e))
  number-only (open_value.Bool false) b s e h = absurd (omega (arith, e))
  number-only (open_value.Number n) b s e h = (n, h)
  number-only (open_value.String v) b s e h = absurd (omega (arith, e))
  number-only (open_value.Array vs) b s e h = absurd (omega (arith, e))
  number-only (open_value.Object ms) b s e h = absurd (omega (arith, e))

  -- a layer of this kind is string
  pub string-only : (y : Value-F Value) (b s : List ℕ) → kind y ≡ 34 → Layer partial inner y b s
      → (v : String Global) × StringHere v b s
  string-only Null b s e h = absurd (omega (arith, e))
  string-only (open_value.Bool true) b s e h = absurd (omega (arith, e))
  string-only (open_value.Bool false) b s e h = absurd (omega (arith, e))
  string-only (open_value.Number n) b s e h = absurd (omega (arith, e))
  string-only (open_value.String v) b s e h = (v, h)
  string-only (open_value.Array vs) b s e h = absurd (omega (arith, e))
  string-only (open_value.Object ms) b s e h = absurd (omega (arith, e))

  -- a layer of this kind is array
  pub array-only : (y : Value-F Value) (b s : List ℕ) → kind y ≡ 91 → Layer partial inner y b s
      → (vs : Vec Value Global) × Bracketed inner 93 91 vs.items b s
  array-only Null b s e h = absurd (omega (arith, e))
  array-only (open_value.Bool true) b s e h = absurd (omega (arith, e))
  array-only (open_value.Bool false) b s e h = absurd (omega (arith, e))
  array-only (open_value.Number n) b s e h = absurd (omega (arith, e))
  array-only (open_value.String v) b s e h = absurd (omega (arith, e))
  array-only (open_value.Array vs) b s e h = (vs, h)
  array-only (open_value.Object ms) b s e h = absurd (omega (arith, e))

  -- a layer of this kind is object
  pub object-only : (y : Value-F Value) (b s : List ℕ) → kind y ≡ 123 → Layer partial inner y b s
      → (ms : Vec (String Global × Value) Global) × Bracketed (MemberAhead inner) 125 123 ms.items b s
  object-only Null b s e h = absurd (omega (arith, e))
  object-only (open_value.Bool true) b s e h = absurd (omega (arith, e))
  object-only (open_value.Bool false) b s e h = absurd (omega (arith, e))
  object-only (open_value.Number n) b s e h = absurd (omega (arith, e))
  object-only (open_value.String v) b s e h = absurd (omega (arith, e))
  object-only (open_value.Array vs) b s e h = absurd (omega (arith, e))
  object-only (open_value.Object ms) b s e h = (ms, h)

  -- no layer is of the kind of a closing bracket
  no-bracket : (y : Value-F Value) → kind y ≡ 93 → ⊥
  no-bracket Null e = omega (arith, e)
  no-bracket (open_value.Bool true) e = omega (arith, e)
  no-bracket (open_value.Bool false) e = omega (arith, e)
  no-bracket (open_value.Number n) e = omega (arith, e)
  no-bracket (open_value.String v) e = omega (arith, e)
  no-bracket (open_value.Array vs) e = omega (arith, e)
  no-bracket (open_value.Object ms) e = omega (arith, e)

  -- the rest after a word is one
  word-once : (w r s : List ℕ) → w ++ r ≡ w ++ s → r ≡ s
  word-once [] r s e = e
  word-once (x ∷ w) r s e = word-once w r s (tails x x (w ++ r) (w ++ s) e)

  -- numbers end in one way
  number-once : (n m : Number) (b r s : List ℕ) → NumberHere partial n b r
      → NumberHere partial m b s → r ≡ s
  number-once n m b r s (t, ((e, is, ends), of)) (u, ((f, js, fends), og)) =
      (split-once is_number_byte t r u s (number-bytes t is) ends.0 (number-bytes u js) fends.0 (sym e ∙ f)).1

  module _ (once : Once inner) (none : NoneAt 93 inner) where
    -- layers end in one way
    layer-once : (x y : Value-F Value) (b r s : List ℕ) → Layer partial inner x b r
        → Layer partial inner y b s → r ≡ s
    layer-once Null y b r s h g =
        word-once null_word r s (sym h ∙ null-only y b s (same-kind Null y b r s h g) g)
    layer-once (open_value.Bool true) y b r s h g =
        word-once (bool_word true) r s (sym h ∙ true-only y b s (same-kind (open_value.Bool true) y b r s h g) g)
    layer-once (open_value.Bool false) y b r s h g =
        word-once (bool_word false) r s (sym h ∙ false-only y b s (same-kind (open_value.Bool false) y b r s h g) g)
    layer-once (open_value.Number n) y b r s h g =
        let o = number-only y b s (same-kind (open_value.Number n) y b r s h g) g in
        number-once n o.0 b r s h o.1
    layer-once (open_value.String v) y b r s h g =
        let o = string-only y b s (same-kind (open_value.String v) y b r s h g) g in
        name-once v o.0 b r s h o.1
    layer-once (open_value.Array vs) y b r s h g =
        let o = array-only y b s (same-kind (open_value.Array vs) y b r s h g) g in
        bracketed-once inner 93 (λ e. omega (arith, e)) once none 91 vs.items o.0.items b r s h o.1
    layer-once (open_value.Object ms) y b r s h g =
        let o = object-only y b s (same-kind (open_value.Object ms) y b r s h g) g in
        bracketed-once (MemberAhead inner) 125 (λ e. omega (arith, e)) (member-once inner once) (member-none inner) 123 ms.items o.0.items b r s h o.1

  -- a flag that is not true is false
  not-true : (p : Bool) → ¬ (p ≡ true) → p ≡ false
  not-true true f = absurd (f refl)
  not-true false f = refl

  -- a run still ends where more follows
  ends-more : (r more : List ℕ) → MayFollow partial more → EndsRun is_number_byte partial r
      → EndsRun is_number_byte partial (r ++ more)
  ends-more [] more may ends =
      subst (λ l. EndsRun is_number_byte partial l) (sym (may (not-true partial (λ p. ends.1 p refl)))) ends
  ends-more (x ∷ r) more may ends = (ends.0, λ p e. cc e)

  -- layers stay where more follows
  layer-stable : Stable partial inner → (x : Value-F Value) (b r more : List ℕ)
      → MayFollow partial more → Layer partial inner x b r
      → Layer partial inner x (b ++ more) (r ++ more)
  layer-stable stable Null b r more may e = ap (λ l. l ++ more) e ∙ append_assoc null_word r more
  layer-stable stable (open_value.Bool true) b r more may e =
      ap (λ l. l ++ more) e ∙ append_assoc (bool_word true) r more
  layer-stable stable (open_value.Bool false) b r more may e =
      ap (λ l. l ++ more) e ∙ append_assoc (bool_word false) r more
  layer-stable stable (open_value.Number n) b r more may (t, ((e, is, ends), of)) =
      (t, ((ap (λ l. l ++ more) e ∙ append_assoc t r more, is, ends-more r more may ends), of))
  layer-stable stable (open_value.String v) b r more may h = name-stable v b r more h
  layer-stable stable (open_value.Array vs) b r more may h =
      bracketed-stable inner 93 partial stable more may 91 vs.items b r h
  layer-stable stable (open_value.Object ms) b r more may h =
      bracketed-stable (MemberAhead inner) 125 partial (member-stable inner partial stable) more may 123 ms.items b r h

-- ---- Nested values

module _ (partial : Bool) where
  -- no value begins with a closing bracket
  pub nested-none : (depth : ℕ) → NoneAt 93 (Nested partial depth)
  nested-none zero v b r q e h = h
  nested-none (suc depth) v b r q e h =
      no-bracket partial (Nested partial depth) (out-Value v) (kind-at partial (Nested partial depth) 93 q (out-Value v) (after_blanks b) r e h)

  -- values end in one way
  pub nested-once : (depth : ℕ) → Once (Nested partial depth)
  nested-once zero v w b r s h g = absurd h
  nested-once (suc depth) v w b r s h g =
      layer-once partial (Nested partial depth) (nested-once depth) (nested-none depth) (out-Value v) (out-Value w) (after_blanks b) r s h g

  -- a value stays where more follows
  pub nested-stable : (depth : ℕ) → Stable partial (Nested partial depth)
  nested-stable zero v b r more may h = absurd h
  nested-stable (suc depth) v b r more may h =
      let inner = Nested partial depth in
      let k = layer-kind partial inner (out-Value v) (after_blanks b) r h in
      let on = blanks-more b k.0 k.1.0 more k.1.1.0 ∙ ap (λ l. l ++ more) (sym k.1.1.0) in
      subst (λ t. Layer partial inner (out-Value v) t (r ++ more)) (sym on) (layer-stable partial inner (nested-stable depth) (out-Value v) (after_blanks b) r more may h)

  -- members end in one way
  pub members-once : (depth : ℕ) → Once (MemberAhead (Nested partial depth))
  members-once depth = member-once (Nested partial depth) (nested-once depth)

  -- a member stays where more follows
  pub members-stable : (depth : ℕ) → Stable partial (MemberAhead (Nested partial depth))
  members-stable depth = member-stable (Nested partial depth) partial (nested-stable depth)
