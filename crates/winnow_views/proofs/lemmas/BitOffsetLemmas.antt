-- The items of `BitOffsets`, by the items of the iterator of bytes.
use Rattle.std.proofs.Common.{◌≡◌, ℕ, zero, suc, ◌+◌, ◌-◌, ◌<◌, List, [], ◌∷◌, ◌++◌, drop, Option, Some, None, Bool, refl, sym, ◌∙◌, ap, arith, subst, ◌≤◌, inl, inr}
use Rattle.std.specs.Iterator.{AlwaysYields}
use Rattle.std.proofs.lemmas.Bool.{cases_lt}
use Rattle.std.proofs.lemmas.Iterator.{YieldsList}
use Rattle.std.proofs.lemmas.Option.{none-some, same_Some}
use Rattle.winnow_stream.specs.Source.{Source, units, offsets_from, offsets}
use Rattle.winnow_stream.specs.Fused.{IsFused}
use Rattle.winnow_views.specs.declared.bit_offsets.BitOffsets.{BitOffsets}
use Rattle.winnow_views.specs.BitSource.{HasUnits, bit_of, byte_bits, bits_of, bits_from}
use Rattle.winnow_views.specs.BitSteps.{ReadsByte, BitStep}
use Rattle.winnow_views.proofs.lemmas.BitLemmas.{byte_bits-at, drop-none}

-- ---- any iterator

module _ {S A : Type 0} (steps : S → Option A → S → Type 0) where
  -- an iterator that gives a first item and then yields the others yields all, and one that gives
  -- none yields nothing
  yields-first : (s : S) (y : A) (ys zs : List A) → ys ≡ y ∷ zs → ((j : S) → ¬ (steps s None j))
      → ((x : A) (j : S) → steps s (Some x) j → (x ≡ y) × AlwaysYields steps (λ x. x) j zs)
      → AlwaysYields steps (λ x. x) s ys
  yields-first s y ys zs e n k = subst (λ l. AlwaysYields steps (λ x. x) s l) (sym e) (n, k)

  yields-end : (s : S) (ys : List A) → ys ≡ [] → ((x : A) (j : S) → ¬ (steps s (Some x) j))
      → AlwaysYields steps (λ x. x) s ys
  yields-end s ys e n = subst (λ l. AlwaysYields steps (λ x. x) s l) (sym e) n

-- ---- the bits ahead

-- the bytes of a list of bytes with offsets
abbrev bytes_of : List (ℕ × ℕ) → Source ℕ
bytes_of [] = []
bytes_of (p ∷ ps) = (p.1, 1) ∷ bytes_of ps

-- these bits with their offsets, from this offset on
abbrev told : ℕ → List Bool → List (ℕ × Bool)
told offset bits = offsets_from offset (units bits)

-- the bits of the current byte from one on, and then those of the later bytes from a place on
abbrev at_hand : ℕ → ℕ → ℕ → List (ℕ × ℕ) → List Bool
at_hand byte bit place left = drop bit (byte_bits byte ++ drop place (bits_of (bytes_of left)))

-- the bits ahead of an iterator, with their offsets, if these bytes are ahead of its own iterator
abbrev shown : {J : Type 0} → BitOffsets J → List (ℕ × ℕ) → List (ℕ × Bool)
shown s left = told s.offset (at_hand s.byte s.bit s.place left)

module _ {J : Type 0} (s : BitOffsets J) where
  -- the bits ahead begin with the next bit of the current byte, or with the first one of the next
  -- byte
  shown-bit : (left : List (ℕ × ℕ)) → s.bit < 8
      → shown s left ≡ (s.offset, bit_of s.byte s.bit)
      ∷ told (s.offset + 1) (at_hand s.byte (s.bit + 1) s.place left)
  shown-bit left h = ap (told s.offset) (byte_bits-at s.byte s.bit (drop s.place (bits_of (bytes_of left))) h)

  shown-byte : (p : ℕ × ℕ) (left : List (ℕ × ℕ)) → s.bit ≡ 8 → s.place < 8
      → shown s (p ∷ left) ≡ (s.offset, bit_of p.1 s.place)
      ∷ told (s.offset + 1) (at_hand p.1 (s.place + 1) 0 left)
  shown-byte p left e h =
      ap (λ b. told s.offset (at_hand s.byte b s.place (p ∷ left))) e ∙ ap (told s.offset) (byte_bits-at p.1 s.place (bits_of (bytes_of left)) h)

  -- no bits are ahead at the end
  shown-end : s.bit ≡ 8 → shown s [] ≡ []
  shown-end e = ap (λ b. told s.offset (at_hand s.byte b s.place [])) e ∙ ap (told s.offset) (drop-none s.place)

  -- the bits ahead depend on the fields alone
  shown-at : (left : List (ℕ × ℕ)) (offset byte bit place : ℕ) → s.offset ≡ offset → s.byte ≡ byte
      → s.bit ≡ bit → s.place ≡ place → shown s left ≡ told offset (at_hand byte bit place left)
  shown-at left offset byte bit place e f g h = rw (e, f, g, h) refl

-- ---- the items

module _ {J : Type 0} (steps : J → Option (ℕ × ℕ) → J → Type 0) where
  -- the iterator yields the bits ahead
  abbrev Shows : BitOffsets J → List (ℕ × ℕ) → Type 0
  Shows s left = AlwaysYields (BitStep steps) (λ x. x) s (shown s left)

  -- the last `count` bits of the current byte, and then the later bytes
  in-byte : (left : List (ℕ × ℕ)) (count : ℕ)
      → ((s : BitOffsets J) → s.bit ≡ 8 → s.place < 8 → AlwaysYields steps (λ x. x) s.bytes left
      → Shows s left) → (s : BitOffsets J) → s.bit + count ≡ 8 → s.place < 8
      → AlwaysYields steps (λ x. x) s.bytes left → Shows s left
  in-byte left zero behind s e p h = behind s (omega (arith, e)) p h
  in-byte left (suc count) behind s e p h =
      let l : s.bit < 8 = omega (arith, e) in
      yields-first (BitStep steps) s (s.offset, bit_of s.byte s.bit) (shown s left) (told (s.offset + 1) (at_hand s.byte (s.bit + 1) s.place left)) (shown-bit s left l)
      (λ j t. none-some _ (t.0 l).0)
      (λ x j t.
      let d = t.0 l in (
        same_Some _ _ d.0,
        subst (λ ys. AlwaysYields (BitStep steps) (λ x. x) j ys) (shown-at j left (s.offset + 1) s.byte (s.bit + 1) s.place d.5 d.2 d.3 d.4)
            (in-byte left count behind j (omega (arith, e, d.3)) (omega (arith, p, d.4)) (subst (λ b. AlwaysYields steps (λ x. x) b left) (sym d.1) h)),
      ))

  -- if no byte is ahead, a call after the current byte gives no bit
  no-bit : (s : BitOffsets J) (x : ℕ × Bool) (j : BitOffsets J) (y : Option (ℕ × ℕ))
      → AlwaysYields steps (λ x. x) s.bytes [] → steps s.bytes y j.bytes → ReadsByte s y (Some x) j
      → ⊥
  no-bit s x j None h t r = none-some _ (sym r.0)
  no-bit s x j (Some q) h t r = h q j.bytes t

  -- if a byte is ahead, a call gives a bit
  no-end : (s : BitOffsets J) (p : ℕ
      × ℕ) (left : List (ℕ × ℕ)) (j : BitOffsets J) (y : Option (ℕ × ℕ))
      → AlwaysYields steps (λ x. x) s.bytes (p ∷ left) → steps s.bytes y j.bytes
      → ReadsByte s y None j → ⊥
  no-end s p left j None h t r = h.0 j.bytes t
  no-end s p left j (Some q) h t r = none-some _ r.0

  -- and that bit is the first one of the next byte
  next-byte : (s : BitOffsets J) (p : ℕ × ℕ) (left : List (ℕ × ℕ)) (x : ℕ
      × Bool) (j : BitOffsets J) (y : Option (ℕ × ℕ))
      → AlwaysYields steps (λ x. x) s.bytes (p ∷ left) → steps s.bytes y j.bytes
      → ReadsByte s y (Some x) j
      → (x ≡ (s.offset, bit_of p.1 s.place)) × (j.byte ≡ p.1) × (j.bit ≡ s.place + 1) × (j.place ≡ 0) × (j.offset ≡ s.offset + 1) × AlwaysYields steps (λ x. x) j.bytes left
  next-byte s p left x j None h t r = absurd (none-some _ (sym r.0))
  next-byte s p left x j (Some q) h t r =
      let e = h.1 q j.bytes t in
      (same_Some _ _ r.0 ∙ ap (λ v. (s.offset, bit_of v.1 s.place)) e.0, r.1 ∙ ap (λ v. v.1) e.0, r.2, r.3, r.4, e.1)

  -- between two bytes, the iterator yields the bits ahead
  at-byte : (left : List (ℕ × ℕ)) (s : BitOffsets J) → s.bit ≡ 8 → s.place < 8
      → AlwaysYields steps (λ x. x) s.bytes left → Shows s left
  at-byte [] s e p h = yields-end (BitStep steps) s (shown s []) (shown-end s e) (λ x j t. let d = t.1 (omega (arith, e)) in no-bit s x j d.0 h d.1 d.2)
  at-byte (q ∷ left) s e p h =
      yields-first (BitStep steps) s (s.offset, bit_of q.1 s.place) (shown s (q ∷ left)) (told (s.offset + 1) (at_hand q.1 (s.place + 1) 0 left)) (shown-byte s q left e p)
      (λ j t. let d = t.1 (omega (arith, e)) in no-end s q left j d.0 h d.1 d.2)
      (λ x j t.
      let d = t.1 (omega (arith, e)) in
      let f = next-byte s q left x j d.0 h d.1 d.2 in (
        f.0,
        subst (λ ys. AlwaysYields (BitStep steps) (λ x. x) j ys) (shown-at j left (s.offset + 1) q.1 (s.place + 1) 0 f.4 f.1 f.2 f.3)
            (in-byte left (7 - s.place) (at-byte left) j (omega (arith, f.2, p)) (omega (arith, f.3)) f.5),
      ))

-- ---- the end

module _ {J : Type 0} (steps : J → Option (ℕ × ℕ) → J → Type 0) (fused : IsFused steps) where
  -- a call that gives no bit has seen the end of the bytes
  ended : (s t : BitOffsets J) (y : Option (ℕ × ℕ)) → steps s.bytes y t.bytes
      → ReadsByte s y None t → steps s.bytes None t.bytes × (t.bit ≡ 8)
  ended s t None h r = (h, r.1)
  ended s t (Some q) h r = absurd (none-some _ r.0)

  -- after the end of the bytes, no call gives a bit
  silent : (s t u : BitOffsets J) (x : ℕ × Bool) (y : Option (ℕ × ℕ)) → steps s.bytes None t.bytes
      → steps t.bytes y u.bytes → ReadsByte t y (Some x) u → ⊥
  silent s t u x None h k r = none-some _ (sym r.0)
  silent s t u x (Some q) h k r = fused s.bytes t.bytes u.bytes q h k

  -- a bit number that is not below 8 is at least 8
  past : (n : ℕ) → ¬ (n < 8) → 8 ≤ n
  past n refuted = elim (cases_lt n 8) [ inl below ↦ absurd (refuted below) | inr from ↦ from ]

  -- `BitOffsets` stays at its end, if the iterator of bytes does
  pub IsFused-BitStep : IsFused (BitStep steps)
  IsFused-BitStep s t u x p q =
      let d = p.1 (past s.bit (λ h. none-some _ (p.0 h).0)) in
      let e = ended s t d.0 d.1 d.2 in
      let f = q.1 (omega (arith, e.1)) in
      silent s t u x f.0 e.0 f.1 f.2

-- the bytes of the offsets of bytes are these bytes
bytes_of-offsets_from : (n : ℕ) (r : List (ℕ × ℕ)) → HasUnits r → bytes_of (offsets_from n r) ≡ r
bytes_of-offsets_from n [] h = refl
bytes_of-offsets_from n (x ∷ xs) h =
    ap (λ w. (x.0, w) ∷ bytes_of (offsets_from (n + x.1) xs)) (sym h.0) ∙ ap (λ t. x ∷ t) (bytes_of-offsets_from (n + x.1) xs h.1)

-- `BitOffsets` yields each bit at its offset, as `iter_offsets` states
pub bits-road : {J : Type 0} (steps : J → Option (ℕ × ℕ) → J
    → Type 0) {s : BitOffsets J} (bytes : List (ℕ × ℕ)) (place : ℕ) → HasUnits bytes → place < 8
    → s.offset ≡ 0 → s.bit ≡ 8 → s.place ≡ place
    → AlwaysYields steps (λ x. x) s.bytes (offsets bytes)
    → YieldsList (BitStep steps) (λ x. x) s (offsets (bits_from bytes place))
bits-road steps {s} bytes place u l a b c h =
    let e : shown s (offsets bytes) ≡ offsets (bits_from bytes place) =
    shown-at s (offsets bytes) 0 s.byte 8 place a refl b c ∙ ap (λ r. offsets (bits_from r place)) (bytes_of-offsets_from 0 bytes u)
    in
    record { runs = subst (λ ys. AlwaysYields (BitStep steps) (λ x. x) s ys) e (at-byte steps (offsets bytes) s b (omega (arith, c, l)) h) }
