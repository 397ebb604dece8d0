-- What follows a reply that stands first, and that nothing is settled in the middle of one.
use Rattle.std.proofs.Common.{◌≡◌, ◌≢◌, ℕ, zero, suc, true, false, List, [], ◌∷◌, ◌++◌, length, inl, inr, Some, None, ap, sym, ◌∙◌, subst, refl, arith, append_assoc, ℤ}
use Rattle.std.specs.Prelude.{◌⊎◌}
use Rattle.winnow_stream.specs.Source.{Source, units}
use Rattle.format_lemmas.proofs.lemmas.ByteLemmas.{heads, tails}
use Rattle.format_resp.specs.Language.{AreInLine, IsText, line, no_length, IsInteger, IsLength, greatest_count, SpellAll, SpellsLayer, SpellsNone, Spells}
use Rattle.format_resp.specs.Meanings.{is_kind, most_digits}
use Rattle.format_resp.specs.Damage.{IsWrongInteger, IsWrongLength, EndBreaksOff, BytesBreakOff, ElementsBreakOff, BodyBreaksOff, LayerBreaksOff, StopsAt, BreaksOff}
use Rattle.format_resp.specs.Scan.{Settles, IsTextKind}
use Rattle.format_resp.specs.declared.causes.Cause.{Cause}
use Rattle.format_resp.specs.declared.causes.Cause.TheVariants.{EndsInside, TooDeep, TooLong}
use Rattle.format_resp.specs.declared.reply.Reply.{Reply}
use Rattle.format_resp.specs.declared.reply.Reply.TheViews.{out-Reply}
use Rattle.format_resp.proofs.lemmas.AheadLemmas.{conses}
use Rattle.format_resp.proofs.lemmas.NumberLemmas.{integer-line, length-line, no_length-line}
use Rattle.format_resp.proofs.lemmas.PartLemmas.{length-line-of}
use Rattle.format_resp.proofs.lemmas.BreakLemmas.{units-ahead, line-once, end-whole, line-whole, number-whole}
use Rattle.format_resp.proofs.lemmas.SettleLemmas.{length-once, null-no_length, Completes, shape-of, completes, body-breaks, text-breaks, integer-breaks, bulk-breaks, array-breaks, bytes-break, elements-break}

-- ---- Layers

-- what spells the replies in an array that may stand so deep
abbrev pub Inner : ℕ → ℕ → Reply → List ℕ → Type 0
Inner longest zero = SpellsNone
Inner longest (suc depth) = Spells longest depth

-- how one of them breaks off
abbrev pub InnerStops : ℕ → Cause → ℕ → Source ℕ → Source ℕ → Type 0
InnerStops longest cause zero = λ whole rest. ⊥
InnerStops longest cause (suc depth) = StopsAt cause (BreaksOff false cause longest depth)

-- how many there may be
abbrev pub inner_most : ℕ → ℕ
inner_most zero = 0
inner_most (suc depth) = greatest_count

-- a reply is a layer over them
pub spells-layer : (longest depth : ℕ) (y : Reply) (one : List ℕ) → Spells longest depth y one
    → SpellsLayer longest (Inner longest depth) (out-Reply y) one
spells-layer longest zero y one h = h
spells-layer longest (suc depth) y one h = h

-- it breaks off as a layer does
pub stops-layer : (longest depth : ℕ) (cause : Cause) (whole rest : Source ℕ)
    → StopsAt cause (BreaksOff false cause longest depth) whole rest
    → StopsAt cause (LayerBreaksOff (Inner longest depth) (InnerStops longest cause depth) false cause longest (inner_most depth)) whole rest
stops-layer longest zero cause whole rest h = h
stops-layer longest (suc depth) cause whole rest h = h

module _ (longest depth : ℕ) (Then : List ℕ → Type 0) where
  -- the body of a reply breaks off after the byte of a kind
  abbrev pub BodyBreaks : ℕ → List ℕ → Type 0
  BodyBreaks kind bytes = (cause : Cause) × ((rest : Source ℕ) × ((cause ≢ EndsInside)
      × BodyBreaksOff (Inner longest depth) (InnerStops longest cause depth) false cause longest (inner_most depth) kind (units bytes) rest))

  -- where bytes are settled that begin with the byte of a kind and a line, a reply begins with
  -- these, or what follows the kind breaks off
  pub by-line : (kind : ℕ) (text s : List ℕ) → is_kind kind ≡ true → AreInLine text
      → Settles longest depth Then (kind ∷ (line text ++ s))
      → ((more : List ℕ) × ((rest : List ℕ) × ((s ≡ more ++ rest) × Completes longest (Inner longest depth) kind text more × Then rest)))
      ⊎ BodyBreaks kind (line text ++ s)
  by-line kind text s known fits (inl (y, (one, (rest, (e, spells, then))))) =
      let shape = shape-of longest (Inner longest depth) (out-Reply y) one (spells-layer longest depth y one spells) in
      let k = completes longest (Inner longest depth) kind text s one rest fits shape e in
      inl (k.0, (rest, (k.1.0, k.1.1, then)))
  by-line kind text s known fits (inr (cause, (rest, (other, h)))) =
      inr (
        cause,
        (
          rest,
          (
            other,
            body-breaks longest (inner_most depth) (Inner longest depth) (InnerStops longest cause depth) cause kind (line text ++ s) rest known
                (stops-layer longest depth cause (units (kind ∷ (line text ++ s))) rest h),
          ),
        ),
      )

  -- where nothing follows what completes it, what comes then comes after the line
  then-after : (s more rest : List ℕ) → s ≡ more ++ rest → more ≡ [] → Then rest → Then s
  then-after s more rest e none h = subst Then (sym (e ∙ ap (λ l. l ++ rest) none)) h

  -- ---- Texts

  -- the byte of a text's kind is one
  pub text-kind : (kind : ℕ) → IsTextKind kind → is_kind kind ≡ true
  text-kind kind (inl e) = ap is_kind e
  text-kind kind (inr e) = ap is_kind e

  -- nothing completes a text
  text-completes : (kind : ℕ) (text more : List ℕ) → IsTextKind kind
      → Completes longest (Inner longest depth) kind text more → more ≡ []
  text-completes kind text more is (inl (e, none)) = none
  text-completes kind text more (inl is) (inr (inl (e, h))) = absurd (omega (arith, is, e))
  text-completes kind text more (inr is) (inr (inl (e, h))) = absurd (omega (arith, is, e))
  text-completes kind text more (inl is) (inr (inr (inl (e, h, k)))) = absurd (omega (arith, is, e))
  text-completes kind text more (inr is) (inr (inr (inl (e, h, k)))) = absurd (omega (arith, is, e))
  text-completes kind text more (inl is) (inr (inr (inr (inl (e, h))))) = absurd (omega (arith, is, e))
  text-completes kind text more (inr is) (inr (inr (inr (inl (e, h))))) = absurd (omega (arith, is, e))
  text-completes kind text more (inl is) (inr (inr (inr (inr (inl (e, h, k)))))) = absurd (omega (arith, is, e))
  text-completes kind text more (inr is) (inr (inr (inr (inr (inl (e, h, k)))))) = absurd (omega (arith, is, e))
  text-completes kind text more (inl is) (inr (inr (inr (inr (inr (e, h)))))) = absurd (omega (arith, is, e))
  text-completes kind text more (inr is) (inr (inr (inr (inr (inr (e, h)))))) = absurd (omega (arith, is, e))

  -- after a text comes what comes then
  pub text-done : (kind : ℕ) (text s : List ℕ) → IsTextKind kind → IsText longest text
      → Settles longest depth Then (kind ∷ (line text ++ s)) → Then s
  text-done kind text s is fits h = elim (by-line kind text s (text-kind kind is) fits.0 h) [
    | inl (more, (rest, (e, c, then))) ↦ then-after s more rest e (text-completes kind text more is c) then
    | inr (cause, (rest, (other, body))) ↦ absurd (line-whole longest text s cause rest fits
        (text-breaks longest (inner_most depth) (Inner longest depth) (InnerStops longest cause depth) cause kind (units (line text ++ s)) rest is body))
  ]

  -- ---- Integers

  -- nothing completes an integer
  integer-completes : (text more : List ℕ) → Completes longest (Inner longest depth) 58 text more
      → more ≡ []
  integer-completes text more (inl (inl e, h)) = absurd (omega (arith, e))
  integer-completes text more (inl (inr e, h)) = absurd (omega (arith, e))
  integer-completes text more (inr (inl (e, none))) = none
  integer-completes text more (inr (inr (inl (e, h, k)))) = absurd (omega (arith, e))
  integer-completes text more (inr (inr (inr (inl (e, h))))) = absurd (omega (arith, e))
  integer-completes text more (inr (inr (inr (inr (inl (e, h, k)))))) = absurd (omega (arith, e))
  integer-completes text more (inr (inr (inr (inr (inr (e, h)))))) = absurd (omega (arith, e))

  -- after an integer comes what comes then
  pub integer-done : (text s : List ℕ) (n : ℤ) → IsInteger text n
      → Settles longest depth Then (58 ∷ (line text ++ s)) → Then s
  integer-done text s n is h = elim (by-line 58 text s refl (integer-line text n is).0 h) [
    | inl (more, (rest, (e, c, then))) ↦ then-after s more rest e (integer-completes text more c) then
    | inr (cause, (rest, (other, body))) ↦ absurd (number-whole IsInteger (IsWrongInteger cause) cause text s n rest (integer-line text n is) is
        (integer-breaks longest (inner_most depth) (Inner longest depth) (InnerStops longest cause depth) cause (units (line text ++ s)) rest body))
  ]

  -- ---- Bulk strings

  -- what completes a bulk string: nothing after -1, and its bytes after their number
  pub bulk-completes : (text more : List ℕ) → Completes longest (Inner longest depth) 36 text more
      → ((text ≡ no_length) × (more ≡ []))
      ⊎ ((held : List ℕ) × (IsLength longest text (Some (length held)) × (more ≡ line held)))
  bulk-completes text more (inl (inl e, h)) = absurd (omega (arith, e))
  bulk-completes text more (inl (inr e, h)) = absurd (omega (arith, e))
  bulk-completes text more (inr (inl (e, h))) = absurd (omega (arith, e))
  bulk-completes text more (inr (inr (inl (e, null, none)))) = inl (null, none)
  bulk-completes text more (inr (inr (inr (inl (e, h))))) = inr h
  bulk-completes text more (inr (inr (inr (inr (inl (e, h, k)))))) = absurd (omega (arith, e))
  bulk-completes text more (inr (inr (inr (inr (inr (e, h)))))) = absurd (omega (arith, e))

  -- after the null bulk string comes what comes then
  pub null-done : (text s : List ℕ) → text ≡ no_length
      → Settles longest depth Then (36 ∷ (line text ++ s)) → Then s
  null-done text s null h =
      let fits : IsText most_digits text = subst (IsText most_digits) (sym null) no_length-line in
      elim (by-line 36 text s refl fits.0 h) [
        | inl (more, (rest, (e, c, then))) ↦ elim (bulk-completes text more c) [
          | inl k ↦ then-after s more rest e k.1 then
          | inr k ↦ absurd (null-no_length longest text (length k.0) null k.1.0)
        ]
        | inr (cause, (rest, (other, body))) ↦ elim (bulk-breaks longest (inner_most depth) (Inner longest depth) (InnerStops longest cause depth) cause (units (line text ++ s)) rest body) [
          | inl k ↦ absurd (number-whole (IsLength longest) (IsWrongLength TooLong cause) cause text s None rest fits null k)
          | inr (u, (n, (after, (counts, a, k)))) ↦
              (let there = units-ahead (line text ++ s) (line u) after a in
              let both = line-once text u s there.0 fits.0 (length-line longest u (Some n) counts).0 there.1.0 in
              absurd (null-no_length longest u n (sym both.0 ∙ null) counts))
        ]
      ]

  -- bytes begin with one front of a length
  pub same-front : (a b s r : List ℕ) → length a ≡ length b → a ++ s ≡ b ++ r → (a ≡ b) × (s ≡ r)
  same-front [] [] s r l e = (refl, e)
  same-front [] (y ∷ b) s r l e = absurd (omega (arith, l))
  same-front (x ∷ a) [] s r l e = absurd (omega (arith, l))
  same-front (x ∷ a) (y ∷ b) s r l e =
      let more = same-front a b s r (omega (arith, l)) (tails x y (a ++ s) (b ++ r) e) in
      (conses x y a b (heads x y (a ++ s) (b ++ r) e) more.0, more.1)

  -- after a bulk string comes what comes then
  pub bulk-done : (text held s : List ℕ) → IsLength longest text (Some (length held))
      → Settles longest depth Then (36 ∷ (line text ++ (line held ++ s))) → Then s
  bulk-done text held s is h =
      let fits = length-line longest text (Some (length held)) is in
      elim (by-line 36 text (line held ++ s) refl fits.0 h) [
        | inl (more, (rest, (e, c, then))) ↦ elim (bulk-completes text more c) [
          | inl k ↦ absurd (null-no_length longest text (length held) k.0 is)
          | inr k ↦
              (let same : length held ≡ length k.0 = length-once longest longest text (length held) (length k.0) is k.1.0 in
              let long : length (line held) ≡ length (line k.0) = omega (arith, same, length-line-of held, length-line-of k.0) in
              let both = same-front (line held) (line k.0) s rest long (e ∙ ap (λ l. l ++ rest) k.1.1) in
              subst Then (sym both.1) then)
        ]
        | inr (cause, (rest, (other, body))) ↦ absurd (never cause rest other
            (bytes-break longest (inner_most depth) (Inner longest depth) (InnerStops longest cause depth) cause text (line held ++ s) (length held) rest is body))
      ]
    where
      never : (cause : Cause) (rest : Source ℕ) → cause ≢ EndsInside
          → ¬ (BytesBreakOff false cause (length held) (units (line held ++ s)) rest)
      never cause rest other (inl (over, few, left)) = other over
      never cause rest other (inr (other_held, (end, (a, enough, breaks)))) =
          let there = units-ahead (line held ++ s) other_held end a in
          let both = same-front held other_held (13 ∷ 10 ∷ s) there.0 (sym enough) (sym (append_assoc held (13 ∷ 10 ∷ []) s) ∙ there.1.0) in
          end-whole s cause rest (subst (λ r. EndBreaksOff cause r rest) (there.1.1 ∙ ap units (sym both.1)) breaks)

  -- ---- Arrays

  -- what completes an array: nothing after -1, and its replies after their number
  array-completes : (text more : List ℕ) → Completes longest (Inner longest depth) 42 text more
      → ((text ≡ no_length) × (more ≡ []))
      ⊎ ((replies : List Reply) × (IsLength greatest_count text (Some (length replies)) × SpellAll (Inner longest depth) replies more))
  array-completes text more (inl (inl e, h)) = absurd (omega (arith, e))
  array-completes text more (inl (inr e, h)) = absurd (omega (arith, e))
  array-completes text more (inr (inl (e, h))) = absurd (omega (arith, e))
  array-completes text more (inr (inr (inl (e, h, k)))) = absurd (omega (arith, e))
  array-completes text more (inr (inr (inr (inl (e, h))))) = absurd (omega (arith, e))
  array-completes text more (inr (inr (inr (inr (inl (e, null, none)))))) = inl (null, none)
  array-completes text more (inr (inr (inr (inr (inr (e, h)))))) = inr h

  -- after the null array comes what comes then
  pub null_array-done : (text s : List ℕ) → text ≡ no_length
      → Settles longest depth Then (42 ∷ (line text ++ s)) → Then s
  null_array-done text s null h =
      let fits : IsText most_digits text = subst (IsText most_digits) (sym null) no_length-line in
      elim (by-line 42 text s refl fits.0 h) [
        | inl (more, (rest, (e, c, then))) ↦ elim (array-completes text more c) [
          | inl k ↦ then-after s more rest e k.1 then
          | inr k ↦ absurd (null-no_length greatest_count text (length k.0) null k.1.0)
        ]
        | inr (cause, (rest, (other, body))) ↦ elim (array-breaks longest (inner_most depth) (Inner longest depth) (InnerStops longest cause depth) cause (units (line text ++ s)) rest body) [
          | inl k ↦ absurd (number-whole (IsLength (inner_most depth)) (IsWrongLength TooDeep cause) cause text s None rest fits null k)
          | inr (u, (n, (after, (counts, a, k)))) ↦
              (let there = units-ahead (line text ++ s) (line u) after a in
              let both = line-once text u s there.0 fits.0 (length-line (inner_most depth) u (Some n) counts).0 there.1.0 in
              absurd (null-no_length (inner_most depth) u n (sym both.0 ∙ null) counts))
        ]
      ]

  -- after the length of an array come its replies, or one of them breaks off
  pub by-elements : (text s : List ℕ) (count : ℕ) → IsLength (inner_most depth) text (Some count)
      → Settles longest depth Then (42 ∷ (line text ++ s))
      → ((replies : List Reply) × ((more : List ℕ) × ((rest : List ℕ) × ((s ≡ more ++ rest) × (length replies ≡ count)
      × SpellAll (Inner longest depth) replies more × Then rest))))
      ⊎ ((cause : Cause) × ((rest : Source ℕ) × ((cause ≢ EndsInside)
      × ElementsBreakOff (Inner longest depth) (InnerStops longest cause depth) count (units s) rest)))
  by-elements text s count is h = elim (by-line 42 text s refl (length-line (inner_most depth) text (Some count) is).0 h) [
    | inl (more, (rest, (e, c, then))) ↦ elim (array-completes text more c) [
      | inl k ↦ absurd (null-no_length (inner_most depth) text count k.0 is)
      | inr k ↦ inl (k.0, (more, (rest, (e, length-once greatest_count (inner_most depth) text (length k.0) count k.1.0 is, k.1.1, then))))
    ]
    | inr (cause, (rest, (other, body))) ↦ inr (
      cause,
      (
        rest,
        (
          other,
          elements-break longest (inner_most depth) (Inner longest depth) (InnerStops longest cause depth) cause text s count rest is body,
        ),
      ),
    )
  ]

  -- after an array without replies comes what comes then
  pub empty-done : (text s : List ℕ) → IsLength (inner_most depth) text (Some 0)
      → Settles longest depth Then (42 ∷ (line text ++ s)) → Then s
  empty-done text s is h = elim (by-elements text s 0 is h) [
    | inl (replies, (more, (rest, (e, none, all, then)))) ↦ then-after s more rest e (no-bytes replies more none all) then
    | inr (cause, (rest, (other, (replies, (bytes, (next, (a, all, few, stops))))))) ↦ absurd (omega (arith, few))
  ]
    where
      no-bytes : (replies : List Reply) (more : List ℕ) → length replies ≡ 0
          → SpellAll (Inner longest depth) replies more → more ≡ []
      no-bytes [] more none all = all
      no-bytes (y ∷ ys) more none all = absurd (omega (arith, none))
