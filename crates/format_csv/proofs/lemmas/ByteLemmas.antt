-- Fields as bytes: how chunks between quotes make a quoted field, and that a field is spelled in
-- one way.
use Rattle.std.proofs.Common.{◌≡◌, ℕ, ◌≤◌, ◌==◌, true, false, List, [], ◌∷◌, ◌++◌, length, inl, inr, ap, sym, ◌∙◌, subst, refl, arith, append_assoc}
use Rattle.std.specs.Prelude.{⊤, cond}
use Rattle.std.specs.List.{flat_map}
use Rattle.std.proofs.lemmas.Bool.Decides.{nat_tests, eqb_tells}
use Rattle.std.proofs.lemmas.List.{append_cancel_right, append-nil}
use Rattle.std.proofs.lemmas.List.Concat.{flat_map-append}
use Rattle.format_lemmas.specs.Bytes.{Each, StartsWith, Starts}
use Rattle.format_lemmas.proofs.lemmas.ByteLemmas.{heads, tails, begins}
use Rattle.format_csv.specs.Fields.{is_plain, twice, doubled}
use Rattle.format_csv.specs.Meanings.{is_other}

-- ---- Quotes between quotes

-- a quote is written twice
pub twice-quote : (b : ℕ) → 34 ≡ b → twice b ≡ 34 ∷ 34 ∷ []
twice-quote b e = ap twice (sym e)

-- another byte is written once
pub twice-other : (b : ℕ) → (34 == b) ≡ false → twice b ≡ b ∷ []
twice-other b e = ap (λ t. cond t (34 ∷ 34 ∷ []) (b ∷ [])) e

-- the first byte of what is doubled is written before the others
doubled-cons : (b : ℕ) (bs x : List ℕ) → doubled (b ∷ bs) ++ x ≡ twice b ++ (doubled bs ++ x)
doubled-cons b bs x = append_assoc (twice b) (doubled bs) x

-- a first byte that is a quote stands there twice
doubled-quote : (b : ℕ) (bs x : List ℕ) → 34 ≡ b
    → doubled (b ∷ bs) ++ x ≡ 34 ∷ 34 ∷ (doubled bs ++ x)
doubled-quote b bs x e = doubled-cons b bs x ∙ ap (λ t. t ++ (doubled bs ++ x)) (twice-quote b e)

-- another first byte stands there once
doubled-other : (b : ℕ) (bs x : List ℕ) → (34 == b) ≡ false
    → doubled (b ∷ bs) ++ x ≡ b ∷ (doubled bs ++ x)
doubled-other b bs x e = doubled-cons b bs x ∙ ap (λ t. t ++ (doubled bs ++ x)) (twice-other b e)

-- a byte of which `is_other` holds is no quote
other-no : (b : ℕ) → is_other b ≡ true → (34 == b) ≡ false
other-no b e = grind (arith, nat_tests, e)

-- bytes without quotes stand as they are
pub doubled-others : (bs : List ℕ) → Each is_other bs → doubled bs ≡ bs
doubled-others [] h = refl
doubled-others (b ∷ bs) h =
    ap (λ t. t ++ doubled bs) (twice-other b (other-no b h.0)) ∙ ap (λ t. b ∷ t) (doubled-others bs h.1)

-- bytes with a quote among them are not all other bytes
quote-among : (xs ys : List ℕ) → Each is_other (xs ++ 34 ∷ ys) → ⊥
quote-among [] ys h = grind (arith, nat_tests, h.0)
quote-among (x ∷ xs) ys h = quote-among xs ys h.1

-- a closed field and what follows it, where no quote follows, are so in one way
pub closed-once : (v w x y : List ℕ) → ¬ (StartsWith 34 x) → ¬ (StartsWith 34 y)
    → doubled v ++ 34 ∷ x ≡ doubled w ++ 34 ∷ y → (v ≡ w) × (x ≡ y)
closed-once [] [] x y p q e = (refl, tails 34 34 x y e)
closed-once [] (b ∷ w) x y p q e = elim (eqb_tells 34 b) [
  | inl t ↦ absurd (p (begins 34 x (doubled w ++ 34 ∷ y) (tails 34 34 _ _ (e ∙ doubled-quote b w (34 ∷ y) t.1))))
  | inr t ↦ absurd (t.1 (heads 34 b _ _ (e ∙ doubled-other b w (34 ∷ y) t.0)))
]
closed-once (a ∷ v) [] x y p q e = elim (eqb_tells 34 a) [
  | inl t ↦ absurd (q (begins 34 y (doubled v ++ 34 ∷ x) (tails 34 34 _ _ (sym e ∙ doubled-quote a v (34 ∷ x) t.1))))
  | inr t ↦ absurd (t.1 (heads 34 a _ _ (sym e ∙ doubled-other a v (34 ∷ x) t.0)))
]
closed-once (a ∷ v) (b ∷ w) x y p q e = elim (eqb_tells 34 a) [
  | inl s ↦ elim (eqb_tells 34 b) [
    | inl t ↦
        let on = closed-once v w x y p q (tails 34 34 _ _ (tails 34 34 _ _ (sym (doubled-quote a v (34 ∷ x) s.1) ∙ e ∙ doubled-quote b w (34 ∷ y) t.1))) in
        (ap (λ n. n ∷ v) (sym s.1 ∙ t.1) ∙ ap (λ l. b ∷ l) on.0, on.1)
    | inr t ↦ absurd (t.1 (heads 34 b _ _ (sym (doubled-quote a v (34 ∷ x) s.1) ∙ e ∙ doubled-other b w (34 ∷ y) t.0)))
  ]
  | inr s ↦ elim (eqb_tells 34 b) [
    | inl t ↦ absurd (s.1 (heads 34 a _ _ (sym (doubled-quote b w (34 ∷ y) t.1) ∙ sym e ∙ doubled-other a v (34 ∷ x) s.0)))
    | inr t ↦
        let same = sym (doubled-other a v (34 ∷ x) s.0) ∙ e ∙ doubled-other b w (34 ∷ y) t.0 in
        let on = closed-once v w x y p q (tails a b _ _ same) in
        (ap (λ n. n ∷ v) (heads a b _ _ same) ∙ ap (λ l. b ∷ l) on.0, on.1)
  ]
]

-- a field that is not closed does not begin with one that is
pub not-closed : (t v c x : List ℕ) → Each is_other c → ¬ (StartsWith 34 x)
    → doubled t ++ c ≡ doubled v ++ 34 ∷ x → ⊥
not-closed [] v c x h p e = quote-among (doubled v) x (subst (Each is_other) e h)
not-closed (a ∷ t) [] c x h p e = elim (eqb_tells 34 a) [
  | inl s ↦ p (begins 34 x (doubled t ++ c) (tails 34 34 _ _ (sym e ∙ doubled-quote a t c s.1)))
  | inr s ↦ s.1 (heads 34 a _ _ (sym e ∙ doubled-other a t c s.0))
]
not-closed (a ∷ t) (b ∷ v) c x h p e = elim (eqb_tells 34 a) [
  | inl s ↦ elim (eqb_tells 34 b) [
    | inl r ↦ not-closed t v c x h p (tails 34 34 _ _ (tails 34 34 _ _ (sym (doubled-quote a t c s.1) ∙ e ∙ doubled-quote b v (34 ∷ x) r.1)))
    | inr r ↦ r.1 (heads 34 b _ _ (sym (doubled-quote a t c s.1) ∙ e ∙ doubled-other b v (34 ∷ x) r.0))
  ]
  | inr s ↦ elim (eqb_tells 34 b) [
    | inl r ↦ s.1 (heads 34 a _ _ (sym (doubled-quote b v (34 ∷ x) r.1) ∙ sym e ∙ doubled-other a t c s.0))
    | inr r ↦ not-closed t v c x h p (tails a b _ _ (sym (doubled-other a t c s.0) ∙ e ∙ doubled-other b v (34 ∷ x) r.0))
  ]
]

-- ---- Fields without quotes

-- plain bytes and what follows them, where no plain byte follows, are so in one way
pub plain-once : (v w x y : List ℕ) → Each is_plain v → Each is_plain w → ¬ (Starts is_plain x)
    → ¬ (Starts is_plain y) → v ++ x ≡ w ++ y → (v ≡ w) × (x ≡ y)
plain-once [] [] x y hv hw p q e = (refl, e)
plain-once [] (b ∷ w) x y hv hw p q e = absurd (p (subst (Starts is_plain) (sym e) hw.0))
plain-once (a ∷ v) [] x y hv hw p q e = absurd (q (subst (Starts is_plain) e hv.0))
plain-once (a ∷ v) (b ∷ w) x y hv hw p q e =
    let on = plain-once v w x y hv.1 hw.1 p q (tails a b _ _ e) in
    (ap (λ n. n ∷ v) (heads a b _ _ e) ∙ ap (λ l. b ∷ l) on.0, on.1)

-- plain bytes are no quotes
pub plain-other : (bs : List ℕ) → Each is_plain bs → Each is_other bs
plain-other [] h = tt
plain-other (b ∷ bs) h = (grind (arith, nat_tests, h.0), plain-other bs h.1)

-- plain bytes before a rest that does not begin with a quote do not begin with one
pub plain-no-quote : (v x : List ℕ) → Each is_plain v → ¬ (StartsWith 34 x)
    → ¬ (StartsWith 34 (v ++ x))
plain-no-quote [] x h p = p
plain-no-quote (b ∷ v) x h p = λ e. absurd (grind (arith, nat_tests, h.0, e))

-- ---- Chunks between quotes

module _ {S : Type 0} (bytes : S → List ℕ) where
  -- each chunk with a quote after it
  abbrev pub ended : List S → List ℕ
  ended chunks = flat_map (λ chunk. bytes chunk ++ 34 ∷ []) chunks

  -- each chunk between quotes
  abbrev pub quoted : List S → List ℕ
  quoted chunks = flat_map (λ chunk. 34 ∷ (bytes chunk ++ 34 ∷ [])) chunks

  -- no chunk has a quote
  abbrev pub AreOther : List S → Type 0
  AreOther [] = ⊤
  AreOther (chunk ∷ chunks) = Each is_other (bytes chunk) × AreOther chunks

  -- chunks between quotes, before a quote, are a quote and then the doubled bytes of the chunks
  -- with a quote after each
  pub quoted-doubled : (chunks : List S) (x : List ℕ) → AreOther chunks
      → quoted chunks ++ 34 ∷ x ≡ 34 ∷ (doubled (ended chunks) ++ x)
  quoted-doubled [] x h = refl
  quoted-doubled (c ∷ cs) x h =
      let first : doubled (bytes c ++ 34 ∷ []) ≡ bytes c ++ 34 ∷ 34 ∷ [] =
      flat_map-append twice (bytes c) (34 ∷ []) ∙ ap (λ t. t ++ 34 ∷ 34 ∷ []) (doubled-others (bytes c) h.0) in
      let more : doubled (ended (c ∷ cs)) ++ x ≡ bytes c ++ 34 ∷ 34 ∷ (doubled (ended cs) ++ x) =
      ap (λ t. t ++ x) (flat_map-append twice (bytes c ++ 34 ∷ []) (ended cs) ∙ ap (λ t. t ++ doubled (ended cs)) first)
      ∙ append_assoc (bytes c ++ 34 ∷ 34 ∷ []) (doubled (ended cs)) x
      ∙ append_assoc (bytes c) (34 ∷ 34 ∷ []) (doubled (ended cs) ++ x) in
      append_assoc (34 ∷ (bytes c ++ 34 ∷ [])) (quoted cs) (34 ∷ x)
      ∙ ap (λ t. 34 ∷ ((bytes c ++ 34 ∷ []) ++ t)) (quoted-doubled cs x h.1)
      ∙ ap (λ t. 34 ∷ t) (append_assoc (bytes c) (34 ∷ []) (34 ∷ (doubled (ended cs) ++ x)))
      ∙ ap (λ t. 34 ∷ t) (sym more)

  -- chunks between quotes are a closed field, whose value is the chunks with quotes between them
  pub quoted-value : (chunks : List S) (value : List ℕ) → AreOther chunks
      → value ++ 34 ∷ [] ≡ ended chunks → quoted chunks ≡ 34 ∷ (doubled value ++ 34 ∷ [])
  quoted-value chunks value h e =
      let whole : quoted chunks ++ 34 ∷ [] ≡ 34 ∷ doubled (ended chunks) = quoted-doubled chunks [] h ∙ ap (λ t. 34 ∷ t) (append-nil (doubled (ended chunks))) in
      let split : doubled (ended chunks) ≡ (doubled value ++ 34 ∷ []) ++ 34 ∷ [] =
      ap doubled (sym e) ∙ flat_map-append twice value (34 ∷ []) ∙ sym (append_assoc (doubled value) (34 ∷ []) (34 ∷ [])) in
      append_cancel_right (quoted chunks) (34 ∷ (doubled value ++ 34 ∷ [])) (34 ∷ []) (whole ∙ ap (λ t. 34 ∷ t) split)

  -- at least one chunk with a quote after each is some bytes and a quote
  pub ended-front : (chunk : S) (chunks : List S)
      → (front : List ℕ) × (ended (chunk ∷ chunks) ≡ front ++ 34 ∷ [])
  ended-front c [] = (bytes c, append-nil (bytes c ++ 34 ∷ []))
  ended-front c (d ∷ ds) =
      let more = ended-front d ds in
      ((bytes c ++ 34 ∷ []) ++ more.0, ap (λ t. (bytes c ++ 34 ∷ []) ++ t) more.1 ∙ sym (append_assoc (bytes c ++ 34 ∷ []) more.0 (34 ∷ [])))

  -- the same for a list of at least one chunk
  pub ended-some : (chunks : List S) → 1 ≤ length chunks
      → (front : List ℕ) × (ended chunks ≡ front ++ 34 ∷ [])
  ended-some [] l = absurd (omega (arith, l))
  ended-some (c ∷ cs) l = ended-front c cs
