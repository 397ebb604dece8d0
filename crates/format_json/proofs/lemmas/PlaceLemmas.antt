-- A value breaks off in one place, and nowhere where one stands.
use Rattle.std.proofs.Common.{◌≡◌, ℕ, zero, suc, Bool, List, [], ◌∷◌, ◌++◌, inl, inr, ap, sym, ◌∙◌, subst, refl, arith, append_assoc, append-nil}
use Rattle.std.specs.declared.string.String.{String}
use Rattle.std.specs.declared.alloc.Global.{Global}
use Rattle.format_lemmas.specs.Bytes.{StartsWith}
use Rattle.format_lemmas.proofs.lemmas.ByteLemmas.{heads, tails}
use Rattle.format_json_scalars.specs.Strings.{SpellsChars}
use Rattle.format_json_scalars.specs.StringAnswers.{BeginsChar, IsWrong, IsDamagedAt, StringHere}
use Rattle.format_json.specs.Language.{after_blanks, MemberAhead, Elements, Inside, Bracketed, Layer, Nested, ValueHere}
use Rattle.format_json.specs.Damage.{BeginsNoOther, StringBreaksOff, ByteIsMissing, EachWithComma, ElementBreaksOff, ElementsBreakOff, BracketsBreakOff, IsTooDeep, AfterNameBreaksOff, MemberBreaksOff, LayerBreaksOff, HereBreaksOff, BreaksOff}
use Rattle.format_json.specs.declared.value.Value.{Value}
use Rattle.format_json.specs.declared.value.Value.TheOpen as open_value
use Rattle.format_json.specs.declared.value.Value.TheOpen.{Value-F, Null}
use Rattle.format_json.specs.declared.value.Value.TheViews.{out-Value}
use Rattle.format_json_scalars.proofs.lemmas.SpellingLemmas.{spelling-once, spells-past}
use Rattle.format_json.proofs.lemmas.GrammarLemmas.{Once, name-once, name-quote, kind-at, string-only, array-only, object-only, member-once, nested-once}
use Rattle.format_json.proofs.lemmas.FoundLemmas.{none-here}

-- ---- Strings

-- where the rest of a string is wrong, no character begins there
wrong-none : (partial : Bool) (rest : List ℕ) → IsWrong partial rest → ¬ (BeginsChar rest)
wrong-none partial rest wrong begins =
    wrong.1 [] (λ may. refl) (subst BeginsChar (sym (append-nil rest)) begins)

-- characters that stand first, after which none does, end at one place
spells-stop : (partial : Bool) (cs ds t u r s : List ℕ) → SpellsChars cs t → SpellsChars ds u
    → t ++ r ≡ u ++ s → IsWrong partial r → IsWrong partial s → r ≡ s
spells-stop partial [] [] t u r s p q e wr ws =
    sym (ap (λ l. l ++ r) p) ∙ e ∙ ap (λ l. l ++ s) q
spells-stop partial [] (d ∷ ds) t u r s p (h, (k, (so, other, later))) e wr ws =
    absurd (wrong-none partial r wr (d, (h, (k ++ s, (sym (ap (λ l. l ++ r) p) ∙ e ∙ ap (λ l. l ++ s) so ∙ append_assoc h k s, other)))))
spells-stop partial (c ∷ cs) [] t u r s (f, (g, (is, one, more))) q e wr ws =
    absurd (wrong-none partial s ws (c, (f, (g ++ r, (sym (ap (λ l. l ++ s) q) ∙ sym e ∙ ap (λ l. l ++ r) is ∙ append_assoc f g r, one)))))
spells-stop partial (c ∷ cs) (d ∷ ds) t u r s (f, (g, (is, one, more))) (h, (k, (so, other, later))) e wr ws =
    let whole = sym (append_assoc f g r) ∙ sym (ap (λ l. l ++ r) is) ∙ e ∙ ap (λ l. l ++ s) so ∙ append_assoc h k s in
    let same = spelling-once c d f h (g ++ r) (k ++ s) one other whole in
    spells-stop partial cs ds g k r s more later same.1 wr ws

-- a string is damaged at one place
damaged-once : (partial : Bool) (b r s : List ℕ) → IsDamagedAt partial b r
    → IsDamagedAt partial b s → r ≡ s
damaged-once partial b r s (t, (cs, (is, p, wr))) (u, (ds, (so, q, ws))) =
    spells-stop partial cs ds t u r s p q (tails 34 34 (t ++ r) (u ++ s) (sym is ∙ so)) wr ws

-- where it is damaged, no string stands
damaged-no-string : (partial : Bool) (b r : List ℕ) → IsDamagedAt partial b r
    → (v : String Global) (a : List ℕ) → ¬ (StringHere v b a)
damaged-no-string partial b r (t, (cs, (is, p, wr))) v a (ds, ((u, (so, q)), has)) =
    let on = spells-past cs ds t u r a p q (tails 34 34 (t ++ r) (u ++ 34 ∷ a) (sym is ∙ so)) in
    past on.0 on.1.0 on.1.1.1 on.1.1.2
  where
    past : (es w : List ℕ) → SpellsChars es w → r ≡ w ++ 34 ∷ a → ⊥
    past [] w none e = wr.0 (subst (StartsWith 34) (sym (e ∙ ap (λ l. l ++ 34 ∷ a) none)) refl)
    past (c ∷ es) w (f, (g, (split, one, more))) e =
        wrong-none partial r wr (c, (f, (g ++ 34 ∷ a, (e ∙ ap (λ l. l ++ 34 ∷ a) split ∙ append_assoc f g (34 ∷ a), one))))

-- a string that must stand breaks off at one place
string-once : (partial : Bool) (b r s : List ℕ) → StringBreaksOff partial b r
    → StringBreaksOff partial b s → r ≡ s
string-once partial b r s (inl h) (inl g) = h.0 ∙ sym g.0
string-once partial b r s (inl h) (inr (u, (ds, (so, q, wrong)))) = absurd (h.1 (subst (StartsWith 34) (sym so) refl))
string-once partial b r s (inr (t, (cs, (is, p, wrong)))) (inl g) = absurd (g.1 (subst (StartsWith 34) (sym is) refl))
string-once partial b r s (inr h) (inr g) = damaged-once partial b r s h g

-- and none stands there
string-unbroken : (partial : Bool) (b r : List ℕ) → StringBreaksOff partial b r
    → (v : String Global) (a : List ℕ) → ¬ (StringHere v b a)
string-unbroken partial b r (inl h) v a is =
    let quote = name-quote v b a is in h.1 (subst (StartsWith 34) (sym quote.1) refl)
string-unbroken partial b r (inr h) v a is = damaged-no-string partial b r h v a is

-- ---- Elements

-- what breaks off does so at one place
abbrev pub BreaksOnce : (List ℕ → List ℕ → Type 0) → Type 0
BreaksOnce breaks = (b r s : List ℕ) → breaks b r → breaks b s → r ≡ s

-- what breaks off does not stand there
abbrev pub Unbroken : {T : Type 0} → (T → List ℕ → List ℕ → Type 0)
    → (List ℕ → List ℕ → Type 0) → Type 0
Unbroken {T} inner breaks = (b r : List ℕ) → breaks b r → (v : T) (a : List ℕ) → ¬ (inner v b a)

module _ {T : Type 0} (inner : T → List ℕ → List ℕ → Type 0) (breaks : List ℕ → List ℕ → Type 0) (close : ℕ) (apart : ¬ (close ≡ 44)) (once : Once inner) (place : BreaksOnce breaks) (unbroken : Unbroken inner breaks) where
  -- one element breaks off at one place
  element-place : BreaksOnce (ElementBreaksOff inner breaks close)
  element-place b r s (inl h) (inl g) = place b r s h g
  element-place b r s (inl h) (inr (w, (c, (g, comma, bracket)))) = absurd (unbroken b r h w c g)
  element-place b r s (inr (v, (a, (h, comma, bracket)))) (inl g) = absurd (unbroken b s g v a h)
  element-place b r s (inr (v, (a, (h, comma, bracket)))) (inr (w, (c, (g, other, last)))) =
      comma.0 ∙ ap after_blanks (once v w b a c h g) ∙ sym other.0

  -- no element that breaks off has a comma after it
  element-comma : (b r : List ℕ) → ElementBreaksOff inner breaks close b r → (w : T)
      → (c next : List ℕ) → inner w b c → ¬ (after_blanks c ≡ 44 ∷ next)
  element-comma b r (inl h) w c next g e = unbroken b r h w c g
  element-comma b r (inr (v, (a, (h, comma, bracket)))) w c next g e =
      comma.1 (subst (StartsWith 44) (sym (comma.0 ∙ ap after_blanks (once v w b a c h g) ∙ e)) refl)

  -- elements break off at one place
  each-place : (vs ws : List T) (b n m r s : List ℕ) → EachWithComma inner vs b n
      → EachWithComma inner ws b m → ElementBreaksOff inner breaks close n r
      → ElementBreaksOff inner breaks close m s → r ≡ s
  each-place [] [] b n m r s e f h g =
      element-place b r s (subst (λ l. ElementBreaksOff inner breaks close l r) (sym e) h) (subst (λ l. ElementBreaksOff inner breaks close l s) (sym f) g)
  each-place [] (w ∷ ws) b n m r s e (c, (k, (one, comma, more))) h g =
      absurd (element-comma b r (subst (λ l. ElementBreaksOff inner breaks close l r) (sym e) h) w c k one comma)
  each-place (v ∷ vs) [] b n m r s (a, (j, (one, comma, more))) f h g =
      absurd (element-comma b s (subst (λ l. ElementBreaksOff inner breaks close l s) (sym f) g) v a j one comma)
  each-place (v ∷ vs) (w ∷ ws) b n m r s (a, (j, (one, comma, more))) (c, (k, (other, mark, rest))) h g =
      let next = tails 44 44 j k (sym comma ∙ ap after_blanks (once v w b a c one other) ∙ mark) in
      each-place vs ws j n m r s more (subst (λ l. EachWithComma inner ws l m) (sym next) rest) h g

  pub elements-place : BreaksOnce (ElementsBreakOff inner breaks close)
  elements-place b r s (vs, (n, (e, h))) (ws, (m, (f, g))) = each-place vs ws b n m r s e f h g

  -- elements that break off do not stand there
  each-unbroken : (vs ws : List T) (b n r a : List ℕ) → EachWithComma inner vs b n
      → ElementBreaksOff inner breaks close n r → ¬ (Elements inner close ws b a)
  each-unbroken vs [] b n r a e h g = g
  each-unbroken [] (w ∷ []) b n r a e h (c, (g, f)) =
      last b r (subst (λ l. ElementBreaksOff inner breaks close l r) (sym e) h) w c a g f
    where
      last : (b r : List ℕ) → ElementBreaksOff inner breaks close b r → (w : T) (c a : List ℕ)
          → inner w b c → ¬ (after_blanks c ≡ close ∷ a)
      last b r (inl h) w c a g f = unbroken b r h w c g
      last b r (inr (v, (d, (h, comma, bracket)))) w c a g f =
          bracket.1 (subst (StartsWith close) (sym (bracket.0 ∙ ap after_blanks (once v w b d c h g) ∙ f)) refl)
  each-unbroken [] (w ∷ x ∷ ws) b n r a e h (c, (k, (g, f, more))) =
      element-comma b r (subst (λ l. ElementBreaksOff inner breaks close l r) (sym e) h) w c k g f
  each-unbroken (v ∷ vs) (w ∷ []) b n r a (d, (j, (one, comma, more))) h (c, (g, f)) =
      apart (heads close 44 a j (sym f ∙ ap after_blanks (sym (once v w b d c one g)) ∙ comma))
  each-unbroken (v ∷ vs) (w ∷ x ∷ ws) b n r a (d, (j, (one, comma, more))) h (c, (k, (g, f, rest))) =
      let next = tails 44 44 j k (sym comma ∙ ap after_blanks (once v w b d c one g) ∙ f) in
      each-unbroken vs (x ∷ ws) j n r a more h (subst (λ l. Elements inner close (x ∷ ws) l a) (sym next) rest)

  pub elements-unbroken : (b r : List ℕ) → ElementsBreakOff inner breaks close b r → (ws : List T)
      → (a : List ℕ) → ¬ (Elements inner close ws b a)
  elements-unbroken b r (vs, (n, (e, h))) ws a g = each-unbroken vs ws b n r a e h g

-- ---- Brackets

-- bytes begin with one byte
two-firsts : (c d : ℕ) (b : List ℕ) → StartsWith c b → StartsWith d b → c ≡ d
two-firsts c d [] h g = absurd h
two-firsts c d (x ∷ b) h g = sym h ∙ g

module _ (inside : List ℕ → List ℕ → Type 0) (close begin : ℕ) where
  -- brackets that break off begin with the opening one
  brackets-first : (b r : List ℕ) → BracketsBreakOff inside close begin b r → StartsWith begin b
  brackets-first b r (n, (e, never, h)) = subst (StartsWith begin) (sym e) refl

  -- they do so at one place, if what stands inside does
  brackets-place : BreaksOnce inside → BreaksOnce (BracketsBreakOff inside close begin)
  brackets-place once b r s (n, (e, never, h)) (m, (f, other, g)) =
      once m r s (subst (λ l. inside l r) (tails begin begin n m (sym e ∙ f)) h) g

  -- and do not stand there, if what stands inside does not
  brackets-unbroken : {T : Type 0} (inner : T → List ℕ → List ℕ → Type 0)
      → ((b r : List ℕ) → inside b r → (vs : List T) (a : List ℕ) → ¬ (Elements inner close vs b a))
      → (b r : List ℕ) → BracketsBreakOff inside close begin b r → (vs : List T) (a : List ℕ)
      → ¬ (Bracketed inner close begin vs b a)
  brackets-unbroken {T} inner none b r (n, (e, never, h)) vs a (m, (f, is)) =
      within vs (subst (λ l. Inside inner close vs l a) (tails begin begin m n (sym f ∙ e)) is)
    where
      within : (vs : List T) → ¬ (Inside inner close vs n a)
      within [] is = never (subst (StartsWith close) (sym is) refl)
      within (v ∷ vs) is = none n r h (v ∷ vs) a is

-- ---- Members

module _ (partial : Bool) (inner : Value → List ℕ → List ℕ → Type 0) (breaks : List ℕ → List ℕ → Type 0) (place : BreaksOnce breaks) (unbroken : Unbroken inner breaks) where
  -- where a colon is missing, none follows
  no-colon : (a r next : List ℕ) → ByteIsMissing 58 a r → ¬ (after_blanks a ≡ 58 ∷ next)
  no-colon a r next h e = h.1 (subst (StartsWith 58) (sym (h.0 ∙ e)) refl)

  -- what stands after a name breaks off at one place
  after-place : BreaksOnce (AfterNameBreaksOff breaks)
  after-place a r s (inl h) (inl g) = h.0 ∙ sym g.0
  after-place a r s (inl h) (inr (n, (e, g))) = absurd (no-colon a r n h e)
  after-place a r s (inr (n, (e, h))) (inl g) = absurd (no-colon a s n g e)
  after-place a r s (inr (n, (e, h))) (inr (m, (f, g))) =
      place m r s (subst (λ l. breaks l r) (tails 58 58 n m (sym e ∙ f)) h) g

  -- a member breaks off at one place
  member-place : BreaksOnce (MemberBreaksOff partial breaks)
  member-place b r s (inl h) (inl g) = string-once partial (after_blanks b) r s h g
  member-place b r s (inl h) (inr (w, (c, (is, g)))) =
      absurd (string-unbroken partial (after_blanks b) r h w c is)
  member-place b r s (inr (v, (a, (is, h)))) (inl g) =
      absurd (string-unbroken partial (after_blanks b) s g v a is)
  member-place b r s (inr (v, (a, (is, h)))) (inr (w, (c, (so, g)))) =
      after-place c r s (subst (λ l. AfterNameBreaksOff breaks l r) (name-once v w (after_blanks b) a c is so) h) g

  -- and does not stand there
  member-unbroken : Unbroken (MemberAhead inner) (MemberBreaksOff partial breaks)
  member-unbroken b r (inl h) m a (c, (n, (so, e, g))) = string-unbroken partial (after_blanks b) r h m.0 c so
  member-unbroken b r (inr (v, (d, (is, h)))) m a (c, (n, (so, e, g))) =
      rest (subst (λ l. AfterNameBreaksOff breaks l r) (name-once v m.0 (after_blanks b) d c is so) h)
    where
      rest : ¬ (AfterNameBreaksOff breaks c r)
      rest (inl missing) = no-colon c r n missing e
      rest (inr (k, (f, h))) =
          unbroken n r (subst (λ l. breaks l r) (tails 58 58 k n (sym f ∙ e)) h) m.1 a g

-- ---- Values

-- a damaged string begins with a quote
damaged-first : (partial : Bool) (b r : List ℕ) → IsDamagedAt partial b r → StartsWith 34 b
damaged-first partial b r (t, (cs, (is, p, wrong))) = subst (StartsWith 34) (sym is) refl

module _ (partial : Bool) (elements members : List ℕ → List ℕ → Type 0) (one : BreaksOnce elements) (other : BreaksOnce members) where
  -- a layer breaks off at one place
  layer-place : BreaksOnce (LayerBreaksOff partial elements members)
  layer-place b r s (inl h) (inl g) = h.0.0 ∙ sym g.0.0
  layer-place b r s (inl h) (inr (inl g)) = absurd (h.0.1 (damaged-first partial b s g))
  layer-place b r s (inl h) (inr (inr (inl g))) = absurd (h.0.2 (brackets-first elements 93 91 b s g))
  layer-place b r s (inl h) (inr (inr (inr g))) = absurd (h.0.3 (brackets-first members 125 123 b s g))
  layer-place b r s (inr (inl h)) (inl g) = absurd (g.0.1 (damaged-first partial b r h))
  layer-place b r s (inr (inl h)) (inr (inl g)) = damaged-once partial b r s h g
  layer-place b r s (inr (inl h)) (inr (inr (inl g))) =
      let f = two-firsts 34 91 b (damaged-first partial b r h) (brackets-first elements 93 91 b s g) in absurd (omega (arith, f))
  layer-place b r s (inr (inl h)) (inr (inr (inr g))) =
      let f = two-firsts 34 123 b (damaged-first partial b r h) (brackets-first members 125 123 b s g) in absurd (omega (arith, f))
  layer-place b r s (inr (inr (inl h))) (inl g) = absurd (g.0.2 (brackets-first elements 93 91 b r h))
  layer-place b r s (inr (inr (inl h))) (inr (inl g)) =
      let f = two-firsts 91 34 b (brackets-first elements 93 91 b r h) (damaged-first partial b s g) in absurd (omega (arith, f))
  layer-place b r s (inr (inr (inl h))) (inr (inr (inl g))) = brackets-place elements 93 91 one b r s h g
  layer-place b r s (inr (inr (inl h))) (inr (inr (inr g))) =
      let f = two-firsts 91 123 b (brackets-first elements 93 91 b r h) (brackets-first members 125 123 b s g) in absurd (omega (arith, f))
  layer-place b r s (inr (inr (inr h))) (inl g) = absurd (g.0.3 (brackets-first members 125 123 b r h))
  layer-place b r s (inr (inr (inr h))) (inr (inl g)) =
      let f = two-firsts 123 34 b (brackets-first members 125 123 b r h) (damaged-first partial b s g) in absurd (omega (arith, f))
  layer-place b r s (inr (inr (inr h))) (inr (inr (inl g))) =
      let f = two-firsts 123 91 b (brackets-first members 125 123 b r h) (brackets-first elements 93 91 b s g) in absurd (omega (arith, f))
  layer-place b r s (inr (inr (inr h))) (inr (inr (inr g))) = brackets-place members 125 123 other b r s h g

-- a layer that begins neither an array nor an object has nothing inside
scalar-layer : (partial : Bool) (inner outer : Value → List ℕ → List ℕ → Type 0)
    (x : Value-F Value) (b r a : List ℕ)
    → BeginsNoOther b r → Layer partial inner x b a → Layer partial outer x b a
scalar-layer partial inner outer Null b r a none h = h
scalar-layer partial inner outer (open_value.Bool t) b r a none h = h
scalar-layer partial inner outer (open_value.Number n) b r a none h = h
scalar-layer partial inner outer (open_value.String v) b r a none h = h
scalar-layer partial inner outer (open_value.Array vs) b r a none (n, (e, h)) =
    absurd (none.2 (subst (StartsWith 91) (sym e) refl))
scalar-layer partial inner outer (open_value.Object ms) b r a none (n, (e, h)) =
    absurd (none.3 (subst (StartsWith 123) (sym e) refl))

module _ (partial : Bool) (depth : ℕ) (elements members : List ℕ → List ℕ → Type 0) (one : (b r : List ℕ) → elements b r → (vs : List Value) (a : List ℕ) → ¬ (Elements (Nested partial depth) 93 vs b a)) (other : (b r : List ℕ) → members b r → (ms : List (String Global × Value)) (a : List ℕ) → ¬ (Elements (MemberAhead (Nested partial depth)) 125 ms b a)) where
  -- a layer that breaks off does not stand there
  layer-unbroken : (b r : List ℕ) → LayerBreaksOff partial elements members b r → (v : Value)
      → (a : List ℕ) → ¬ (ValueHere partial depth v b a)
  layer-unbroken b r (inl h) v a is =
      none-here (ValueHere partial zero) partial b h.1 v a (scalar-layer partial (Nested partial depth) (Nested partial zero) (out-Value v) b r a h.0 is)
  layer-unbroken b r (inr (inl h)) v a is =
      let k = kind-at partial (Nested partial depth) 34 (h.0 ++ r) (out-Value v) b a h.1.1.0 is in
      let string = string-only partial (Nested partial depth) (out-Value v) b a k is in
      damaged-no-string partial b r h string.0 a string.1
  layer-unbroken b r (inr (inr (inl h))) v a is =
      let k = kind-at partial (Nested partial depth) 91 h.0 (out-Value v) b a h.1.0 is in
      let array = array-only partial (Nested partial depth) (out-Value v) b a k is in
      brackets-unbroken elements 93 91 (Nested partial depth) one b r h array.0.items a array.1
  layer-unbroken b r (inr (inr (inr h))) v a is =
      let k = kind-at partial (Nested partial depth) 123 h.0 (out-Value v) b a h.1.0 is in
      let object = object-only partial (Nested partial depth) (out-Value v) b a k is in
      brackets-unbroken members 125 123 (MemberAhead (Nested partial depth)) other b r h object.0.items a object.1

-- no elements stand where none may
none-deep : {T : Type 0} (inner : T → List ℕ → List ℕ → Type 0) (close : ℕ)
    → ((v : T) (b a : List ℕ) → ¬ (inner v b a)) → (b r : List ℕ) → IsTooDeep b r → (vs : List T)
    → (a : List ℕ) → ¬ (Elements inner close vs b a)
none-deep inner close none b r deep [] a h = h
none-deep inner close none b r deep (v ∷ []) a (c, (h, e)) = none v b c h
none-deep inner close none b r deep (v ∷ w ∷ vs) a (c, (n, (h, e, more))) = none v b c h

-- both facts of a value without blanks before it
value-both : (partial : Bool) (depth : ℕ) → BreaksOnce (HereBreaksOff partial depth)
    × Unbroken (ValueHere partial depth) (HereBreaksOff partial depth)
value-both partial zero = (
  layer-place partial IsTooDeep IsTooDeep (λ b r s h g. h ∙ sym g) (λ b r s h g. h ∙ sym g),
  layer-unbroken partial zero IsTooDeep IsTooDeep (none-deep (Nested partial zero) 93 (λ v b a h. h)) (none-deep (MemberAhead (Nested partial zero)) 125 (λ m b a h. h.1.1.2)),
)
value-both partial (suc depth) =
    let less = value-both partial depth in
    let inner = Nested partial (suc depth) in
    let breaks = BreaksOff partial depth in
    let place : BreaksOnce breaks = λ b r s h g. less.0 (after_blanks b) r s h g in
    let unbroken : Unbroken inner breaks = λ b r h v a is. less.1 (after_blanks b) r h v a is in
    let once = nested-once partial (suc depth) in
    let fifth : ¬ (93 ≡ 44) = λ e. omega (arith, e) in
    let sixth : ¬ (125 ≡ 44) = λ e. omega (arith, e) in
    let members = member-place partial inner breaks place unbroken in
    let standing = member-unbroken partial inner breaks place unbroken in (
      layer-place partial (ElementsBreakOff inner breaks 93) (ElementsBreakOff (MemberAhead inner) (MemberBreaksOff partial breaks) 125)
          (elements-place inner breaks 93 fifth once place unbroken) (elements-place (MemberAhead inner) (MemberBreaksOff partial breaks) 125 sixth (member-once inner once) members standing),
      layer-unbroken partial (suc depth) (ElementsBreakOff inner breaks 93) (ElementsBreakOff (MemberAhead inner) (MemberBreaksOff partial breaks) 125)
          (elements-unbroken inner breaks 93 fifth once place unbroken) (elements-unbroken (MemberAhead inner) (MemberBreaksOff partial breaks) 125 sixth (member-once inner once) members standing),
    )

-- a value breaks off at one place
pub value-place : (partial : Bool) (depth : ℕ) → BreaksOnce (HereBreaksOff partial depth)
value-place partial depth = (value-both partial depth).0

-- and does not stand there
pub value-unbroken : (partial : Bool) (depth : ℕ) (b r : List ℕ) (v : Value) (a : List ℕ)
    → HereBreaksOff partial depth b r → ¬ (ValueHere partial depth v b a)
value-unbroken partial depth b r v a h is = (value-both partial depth).1 b r h v a is
