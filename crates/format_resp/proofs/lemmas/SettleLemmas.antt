-- What settles bytes that begin a reply: the reply, or where it breaks off.
use Rattle.std.proofs.Common.{◌≡◌, ℕ, true, false, List, [], ◌∷◌, ◌++◌, length, inl, inr, Some, ap, sym, ◌∙◌, subst, refl, arith, append_assoc, append-nil}
use Rattle.std.specs.Prelude.{◌⊎◌}
use Rattle.std.proofs.lemmas.Option.{none-some, same_Some}
use Rattle.winnow_stream.specs.Source.{Source, units}
use Rattle.format_lemmas.proofs.lemmas.ByteLemmas.{heads, tails}
use Rattle.format_resp.specs.Language.{AreInLine, IsText, line, no_length, IsInteger, IsLength, greatest_count, SpellAll, SpellsLayer}
use Rattle.format_resp.specs.Meanings.{is_kind, most_digits}
use Rattle.format_resp.specs.Parts.{count_of}
use Rattle.format_resp.specs.Damage.{IsWrongInteger, IsWrongLength, LineBreaksOff, NumberBreaksOff, BytesBreakOff, BulkBreaksOff, ElementsBreakOff, ArrayBreaksOff, BodyBreaksOff, LayerBreaksOff, StopsAt}
use Rattle.format_resp.specs.Scan.{IsTextKind, IsNumberKind}
use Rattle.format_resp.specs.declared.causes.Cause.{Cause}
use Rattle.format_resp.specs.declared.causes.Cause.TheVariants.{EndsInside, TooDeep, TooLong}
use Rattle.format_resp.specs.declared.reply.Reply.{Reply}
use Rattle.format_resp.specs.declared.reply.Reply.TheOpen.{Reply-F, Simple, Error, Integer, Bulk, NullBulk, Array, NullArray}
use Rattle.format_resp.proofs.lemmas.NumberLemmas.{integer-line, length-line}
use Rattle.format_resp.proofs.lemmas.PartLemmas.{count-length, null-count}
use Rattle.format_resp.proofs.lemmas.BreakLemmas.{units-ahead, line-once, IsOpenEnd, open-no_line, number-open, number-whole}

-- ---- Lengths

-- a text is one length
pub length-once : (g h : ℕ) (text : List ℕ) (n m : ℕ) → IsLength g text (Some n)
    → IsLength h text (Some m) → n ≡ m
length-once g h text n m is other =
    same_Some n m (sym (count-length g text n is) ∙ count-length h text m other)

-- -1 is none
pub null-no_length : (g : ℕ) (text : List ℕ) (n : ℕ) → text ≡ no_length
    → ¬ (IsLength g text (Some n))
null-no_length g text n e is =
    none-some n (sym (ap count_of e ∙ null-count) ∙ count-length g text n is)

-- ---- A reply that stands first

module _ (longest : ℕ) (spells : Reply → List ℕ → Type 0) where
  -- after the byte of this kind and a line with this text, these bytes end a reply
  abbrev pub Completes : ℕ → List ℕ → List ℕ → Type 0
  Completes kind text more = (IsTextKind kind × (more ≡ []))
      ⊎ (((kind ≡ 58) × (more ≡ []))
      ⊎ (((kind ≡ 36) × (text ≡ no_length) × (more ≡ []))
      ⊎ (((kind ≡ 36) × ((held : List ℕ) × (IsLength longest text (Some (length held)) × (more ≡ line held))))
      ⊎ (((kind ≡ 42) × (text ≡ no_length) × (more ≡ []))
      ⊎ ((kind ≡ 42) × ((replies : List Reply) × (IsLength greatest_count text (Some (length replies)) × SpellAll spells replies more)))))))

  -- a reply is the byte of a kind, a line, and what ends it
  abbrev pub IsShape : List ℕ → Type 0
  IsShape one = (kind : ℕ) × ((text : List ℕ) × ((more : List ℕ)
      × ((one ≡ kind ∷ (line text ++ more)) × AreInLine text × Completes kind text more)))

  -- a line and nothing
  alone : (kind : ℕ) (text one : List ℕ) → one ≡ kind ∷ line text → one ≡ kind ∷ (line text ++ [])
  alone kind text one e = e ∙ ap (λ l. kind ∷ l) (sym (append-nil (line text)))

  -- each layer is one
  pub shape-of : (f : Reply-F Reply) (one : List ℕ) → SpellsLayer longest spells f one → IsShape one
  shape-of (Simple v) one h =
      (43, (v.items, ([], (alone 43 v.items one h.1, h.0.0, inl (inl refl, refl)))))
  shape-of (Error v) one h =
      (45, (v.items, ([], (alone 45 v.items one h.1, h.0.0, inl (inr refl, refl)))))
  shape-of (Integer n) one (text, (is, e)) =
      (58, (text, ([], (alone 58 text one e, (integer-line text n is).0, inr (inl (refl, refl))))))
  shape-of (Bulk v) one (text, (is, e)) = (
    36,
    (text, (line v.items, (e, (length-line longest text (Some (length v.items)) is).0, inr (inr (inr (inl (refl, (v.items, (is, refl))))))))),
  )
  shape-of NullBulk one h =
      (36, (no_length, ([], (alone 36 no_length one h, (refl, (refl, tt)), inr (inr (inl (refl, refl, refl)))))))
  shape-of (Array v) one (text, (more, (is, all, e))) = (
    42,
    (
      text,
      (more, (e, (length-line greatest_count text (Some (length v.items)) is).0, inr (inr (inr (inr (inr (refl, (v.items, (is, all))))))))),
    ),
  )
  shape-of NullArray one h =
      (42, (no_length, ([], (alone 42 no_length one h, (refl, (refl, tt)), inr (inr (inr (inr (inl (refl, refl, refl)))))))))

  -- bytes that begin with a reply, and with the byte of a kind and a line
  pub completes : (kind : ℕ) (text s one rest : List ℕ) → AreInLine text → IsShape one
      → kind ∷ (line text ++ s) ≡ one ++ rest
      → (more : List ℕ) × ((s ≡ more ++ rest) × Completes kind text more)
  completes kind text s one rest h (k, (u, (more, (e, fits, c)))) is =
      let all : kind ∷ (line text ++ s) ≡ k ∷ ((line u ++ more) ++ rest) = is ∙ ap (λ l. l ++ rest) e in
      let same = line-once text u s (more ++ rest) h fits
      (tails kind k (line text ++ s) ((line u ++ more) ++ rest) all ∙ append_assoc (line u) more rest) in
      let first : k ≡ kind = sym (heads kind k (line text ++ s) ((line u ++ more) ++ rest) all) in
      (more, (same.1, subst (λ t. Completes kind t more) (sym same.0) (subst (λ x. Completes x u more) first c)))

  -- no reply stands where a line has not ended
  pub no-shape : (kind : ℕ) (text e one rest : List ℕ) → AreInLine text → IsOpenEnd e → IsShape one
      → ¬ (kind ∷ (text ++ e) ≡ one ++ rest)
  no-shape kind text e one rest h cut (k, (u, (more, (is, fits, c)))) same =
      open-no_line text e u (more ++ rest) h fits cut
      (tails kind k (text ++ e) ((line u ++ more) ++ rest) (same ∙ ap (λ l. l ++ rest) is) ∙ append_assoc (line u) more rest)

  -- nor in no bytes
  pub nothing-shape : (one rest : List ℕ) → IsShape one → ¬ ([] ≡ one ++ rest)
  nothing-shape one rest (k, (u, (more, (is, fits, c)))) same =
      let f : [] ≡ k ∷ ((line u ++ more) ++ rest) = same ∙ ap (λ l. l ++ rest) is in cc f

-- ---- A reply that breaks off

module _ (longest most : ℕ) (spells : Reply → List ℕ → Type 0) (stops : Source ℕ → Source ℕ → Type 0) (cause : Cause) where
  -- after the byte of a kind, what follows it breaks off
  pub body-breaks : (kind : ℕ) (bytes : List ℕ) (rest : Source ℕ) → is_kind kind ≡ true
      → StopsAt cause (LayerBreaksOff spells stops false cause longest most) (units (kind ∷ bytes)) rest
      → BodyBreaksOff spells stops false cause longest most kind (units bytes) rest
  body-breaks kind bytes rest is (inl (same, none, why)) = absurd (let f = sym is ∙ none in cc f)
  body-breaks kind bytes rest is (inr (k, (after, (known, a, body)))) =
      let there = units-ahead (kind ∷ bytes) (k ∷ []) after a in
      let first : k ≡ kind = sym (heads kind k bytes there.0 there.1.0) in
      let others : bytes ≡ there.0 = tails kind k bytes there.0 there.1.0 in
      subst (λ x. BodyBreaksOff spells stops false cause longest most x (units bytes) rest) first
      (subst (λ s. BodyBreaksOff spells stops false cause longest most k s rest) (there.1.1 ∙ ap units (sym others)) body)

  -- of a text, its line
  pub text-breaks : (kind : ℕ) (whole rest : Source ℕ) → IsTextKind kind
      → BodyBreaksOff spells stops false cause longest most kind whole rest
      → LineBreaksOff cause longest whole rest
  text-breaks kind whole rest is (inl (e, h)) = h
  text-breaks kind whole rest (inl is) (inr (inl (e, h))) = absurd (omega (arith, is, e))
  text-breaks kind whole rest (inr is) (inr (inl (e, h))) = absurd (omega (arith, is, e))
  text-breaks kind whole rest (inl is) (inr (inr (inl (e, h)))) = absurd (omega (arith, is, e))
  text-breaks kind whole rest (inr is) (inr (inr (inl (e, h)))) = absurd (omega (arith, is, e))
  text-breaks kind whole rest (inl is) (inr (inr (inr (e, h)))) = absurd (omega (arith, is, e))
  text-breaks kind whole rest (inr is) (inr (inr (inr (e, h)))) = absurd (omega (arith, is, e))

  -- of an integer, its line
  pub integer-breaks : (whole rest : Source ℕ)
      → BodyBreaksOff spells stops false cause longest most 58 whole rest
      → NumberBreaksOff IsInteger (IsWrongInteger cause) cause whole rest
  integer-breaks whole rest (inl (inl e, h)) = absurd (omega (arith, e))
  integer-breaks whole rest (inl (inr e, h)) = absurd (omega (arith, e))
  integer-breaks whole rest (inr (inl (e, h))) = h
  integer-breaks whole rest (inr (inr (inl (e, h)))) = absurd (omega (arith, e))
  integer-breaks whole rest (inr (inr (inr (e, h)))) = absurd (omega (arith, e))

  -- of a bulk string, its length or its bytes
  pub bulk-breaks : (whole rest : Source ℕ)
      → BodyBreaksOff spells stops false cause longest most 36 whole rest
      → BulkBreaksOff false cause longest whole rest
  bulk-breaks whole rest (inl (inl e, h)) = absurd (omega (arith, e))
  bulk-breaks whole rest (inl (inr e, h)) = absurd (omega (arith, e))
  bulk-breaks whole rest (inr (inl (e, h))) = absurd (omega (arith, e))
  bulk-breaks whole rest (inr (inr (inl (e, h)))) = h
  bulk-breaks whole rest (inr (inr (inr (e, h)))) = absurd (omega (arith, e))

  -- of an array, its length or a reply in it
  pub array-breaks : (whole rest : Source ℕ)
      → BodyBreaksOff spells stops false cause longest most 42 whole rest
      → ArrayBreaksOff spells stops cause most whole rest
  array-breaks whole rest (inl (inl e, h)) = absurd (omega (arith, e))
  array-breaks whole rest (inl (inr e, h)) = absurd (omega (arith, e))
  array-breaks whole rest (inr (inl (e, h))) = absurd (omega (arith, e))
  array-breaks whole rest (inr (inr (inl (e, h)))) = absurd (omega (arith, e))
  array-breaks whole rest (inr (inr (inr (e, h)))) = h

  -- where the line of a number has not ended, it breaks off only since the bytes end
  pub number-breaks : (kind : ℕ) (text e : List ℕ) (rest : Source ℕ) → IsNumberKind kind
      → IsText most_digits text → IsOpenEnd e
      → BodyBreaksOff spells stops false cause longest most kind (units (text ++ e)) rest
      → cause ≡ EndsInside
  number-breaks kind text e rest (inl is) fits cut body =
      number-open IsInteger (IsWrongInteger cause) cause text e rest fits cut
      (integer-breaks (units (text ++ e)) rest (subst (λ k. BodyBreaksOff spells stops false cause longest most k (units (text ++ e)) rest) is body))
  number-breaks kind text e rest (inr (inl is)) fits cut body =
      elim (bulk-breaks (units (text ++ e)) rest (subst (λ k. BodyBreaksOff spells stops false cause longest most k (units (text ++ e)) rest) is body)) [
        | inl h ↦ number-open (IsLength longest) (IsWrongLength TooLong cause) cause text e rest fits cut h
        | inr (u, (count, (after, (counts, a, h)))) ↦
            (let there = units-ahead (text ++ e) (line u) after a in
            absurd (open-no_line text e u there.0 fits.0 (length-line longest u (Some count) counts).0 cut there.1.0))
      ]
  number-breaks kind text e rest (inr (inr is)) fits cut body =
      elim (array-breaks (units (text ++ e)) rest (subst (λ k. BodyBreaksOff spells stops false cause longest most k (units (text ++ e)) rest) is body)) [
        | inl h ↦ number-open (IsLength most) (IsWrongLength TooDeep cause) cause text e rest fits cut h
        | inr (u, (count, (after, (counts, a, h)))) ↦
            (let there = units-ahead (text ++ e) (line u) after a in
            absurd (open-no_line text e u there.0 fits.0 (length-line most u (Some count) counts).0 cut there.1.0))
      ]

  -- where a length stands that is one, the bytes of a bulk string break off
  pub bytes-break : (text s : List ℕ) (count : ℕ) (rest : Source ℕ)
      → IsLength longest text (Some count)
      → BodyBreaksOff spells stops false cause longest most 36 (units (line text ++ s)) rest
      → BytesBreakOff false cause count (units s) rest
  bytes-break text s count rest is body =
      let fits = length-line longest text (Some count) is in
      elim (bulk-breaks (units (line text ++ s)) rest body) [
        | inl h ↦ absurd (number-whole (IsLength longest) (IsWrongLength TooLong cause) cause text s (Some count) rest fits is h)
        | inr (u, (n, (after, (counts, a, h)))) ↦
            (let there = units-ahead (line text ++ s) (line u) after a in
            let both = line-once text u s there.0 fits.0 (length-line longest u (Some n) counts).0 there.1.0 in
            let same : n ≡ count = length-once longest longest u n count counts (subst (λ t. IsLength longest t (Some count)) both.0 is) in
            subst (λ b. BytesBreakOff false cause count b rest) (there.1.1 ∙ ap units (sym both.1))
            (subst (λ m. BytesBreakOff false cause m after rest) same h))
      ]

  -- and the replies of an array
  pub elements-break : (text s : List ℕ) (count : ℕ) (rest : Source ℕ)
      → IsLength most text (Some count)
      → BodyBreaksOff spells stops false cause longest most 42 (units (line text ++ s)) rest
      → ElementsBreakOff spells stops count (units s) rest
  elements-break text s count rest is body =
      let fits = length-line most text (Some count) is in
      elim (array-breaks (units (line text ++ s)) rest body) [
        | inl h ↦ absurd (number-whole (IsLength most) (IsWrongLength TooDeep cause) cause text s (Some count) rest fits is h)
        | inr (u, (n, (after, (counts, a, h)))) ↦
            (let there = units-ahead (line text ++ s) (line u) after a in
            let both = line-once text u s there.0 fits.0 (length-line most u (Some n) counts).0 there.1.0 in
            let same : n ≡ count = length-once most most u n count counts (subst (λ t. IsLength most t (Some count)) both.0 is) in
            subst (λ b. ElementsBreakOff spells stops count b rest) (there.1.1 ∙ ap units (sym both.1))
            (subst (λ m. ElementsBreakOff spells stops m after rest) same h))
      ]
