-- The bits of bytes: the answer of each call of a stream of bits, and what the call leaves.
use Rattle.std.proofs.Common.{◌≡◌, ℕ, zero, suc, ◌+◌, ◌-◌, ◌*◌, ◌/◌, ◌%◌, ◌^◌, ◌≤◌, ◌<◌, leb, true, Bool, List, [], ◌∷◌, ◌++◌, length, map, take, drop, length-take-le, Option, Some, None, Ok, Err, refl, sym, ap, ◌∙◌, subst, arith, IsTrue, zero-add}
use Rattle.std.proofs.lemmas.Bool.Decides.{nat_tests}
use Rattle.std.proofs.lemmas.List.{length-drop, length-map, drop-drop, drop-take}
use Rattle.std.specs.Int.NonZero.{non_zero_usize_get}
use Rattle.std.specs.declared.num.NonZeroUsize.{NonZeroUsize}
use Rattle.winnow_stream.specs.declared.needed.Needed.TheVariants.{Size}
use Rattle.winnow_stream.specs.Source.{Source, units, width, first_token}
use Rattle.winnow_stream.specs.Front.{is_offset, count_to, front, back}
use Rattle.winnow_stream.specs.Location.{location_behind}
use Rattle.winnow_stream.specs.Shortage.{offset_at}
use Rattle.winnow_stream.specs.Units.{width-units}
use Rattle.winnow_stream.proofs.lemmas.UnitLemmas.{length-units, is_offset-units, count_to-units, le-from_is_offset, units-take, units-drop, offset_at-units_short, offset_at-units_fits}
use Rattle.winnow_views.specs.BitSource.{HasUnits, bit_of, byte_bits, bits_of, bits_from, bit_place, IsBitSource, IsBitSlice, IsBitSliceFrom}
use Rattle.winnow_views.specs.BitStream.{location_in_bits}
use Rattle.winnow_stream.specs.SliceWidths.{SlicesHaveWidths}
use Rattle.winnow_stream.specs.SliceBytes.{SlicesHaveBytes}
use Rattle.winnow_views.specs.BitLaws.{units-HasUnits, width-HasUnits, length-bits_past, width-bits_from}

-- ---- the number of bits

-- the number of bits is eight for each byte, less the place
pub width-bits : (bytes : List (ℕ × ℕ)) (place : ℕ) → HasUnits bytes
    → width (bits_from bytes place) ≡ 8 * width bytes - place
width-bits bytes place h = omega (arith, width-bits_from bytes place, width-HasUnits bytes h)

-- the place is at most the number of all bits
pub place-le : (bytes : List (ℕ × ℕ)) (place : ℕ) → IsBitSource bytes place
    → place ≤ 8 * width bytes
place-le [] place h = omega (arith, h.at_end refl)
place-le (x ∷ xs) place h = omega (arith, h.below, h.units.0)

-- an offset is a number of bits up to the number that remain
pub is_offset-bits : (bytes : List (ℕ × ℕ)) (place n : ℕ)
    → is_offset (bits_from bytes place) n ≡ leb n (width (bits_from bytes place))
is_offset-bits bytes place n =
    is_offset-units (drop place (bits_of bytes)) n ∙ ap (leb n) (sym (width-units (drop place (bits_of bytes))))

-- the answer of `offset_at` if bits are missing, and if none is
pub offset_at-bits_short : (bytes : List (ℕ × ℕ)) (place n : ℕ) (m : NonZeroUsize)
    → non_zero_usize_get m ≡ n - width (bits_from bytes place)
    → Err (Size m) ≡ offset_at true (bits_from bytes place) n
offset_at-bits_short bytes place n m e =
    offset_at-units_short (drop place (bits_of bytes)) n m (e ∙ ap (λ k. n - k) (width-units (drop place (bits_of bytes))))

pub offset_at-bits_fits : (bytes : List (ℕ × ℕ)) (place n : ℕ)
    → n - width (bits_from bytes place) ≡ 0 → Ok n ≡ offset_at true (bits_from bytes place) n
offset_at-bits_fits bytes place n e =
    offset_at-units_fits (drop place (bits_of bytes)) n (ap (λ k. n - k) (sym (width-units (drop place (bits_of bytes)))) ∙ e)

-- ---- one bit

-- the bit at a place in a byte, before those after it
pub byte_bits-at : (b place : ℕ) (bits : List Bool) → place < 8
    → drop place (byte_bits b ++ bits) ≡ bit_of b place ∷ drop (place + 1) (byte_bits b ++ bits)
byte_bits-at b zero bits h = refl
byte_bits-at b (suc zero) bits h = refl
byte_bits-at b (suc (suc zero)) bits h = refl
byte_bits-at b (suc (suc (suc zero))) bits h = refl
byte_bits-at b (suc (suc (suc (suc zero)))) bits h = refl
byte_bits-at b (suc (suc (suc (suc (suc zero))))) bits h = refl
byte_bits-at b (suc (suc (suc (suc (suc (suc zero)))))) bits h = refl
byte_bits-at b (suc (suc (suc (suc (suc (suc (suc zero))))))) bits h = refl
byte_bits-at b (suc (suc (suc (suc (suc (suc (suc (suc place)))))))) bits h = absurd (omega (arith, h))

-- the first bit is the bit at the place in the first byte
pub first-bit : (bytes : List (ℕ × ℕ)) (place b : ℕ) → place < 8 → Some b ≡ first_token bytes
    → Some (bit_of b place) ≡ first_token (bits_from bytes place)
first-bit [] place b h e = absurd (cc)
first-bit (x ∷ xs) place b h e =
    let k : b ≡ x.0 = cc in
    ap (λ v. Some (bit_of v place)) k ∙ sym (ap (λ bits. first_token (units bits)) (byte_bits-at x.0 place (bits_of xs) h))

-- dropping a bit before or after bits are made tokens is the same
units-drop_one : (bits : List Bool) → units (drop 1 bits) ≡ drop 1 (units bits)
units-drop_one [] = refl
units-drop_one (x ∷ xs) = refl

-- at the next place, the first bit is gone
pub next-bit : (bytes : List (ℕ × ℕ)) (place : ℕ)
    → bits_from bytes (place + 1) ≡ drop 1 (bits_from bytes place)
next-bit bytes place = ap units (sym (drop-drop 1 place (bits_of bytes))) ∙ units-drop_one (drop place (bits_of bytes))

-- a first bit has width 1, so it takes the location on by one
width-first_bit : (bits : List Bool) (b : Bool) → Some b ≡ first_token (units bits)
    → width (take 1 (units bits)) ≡ 1
width-first_bit [] b e = absurd (cc)
width-first_bit (x ∷ xs) b e = refl

-- the next place in a byte is one further in the whole input
one-behind : (bytes : Option ℕ) (place n : ℕ) → n ≡ 1
    → location_in_bits bytes (place + 1) ≡ location_behind (location_in_bits bytes place) n
one-behind None place n e = refl
one-behind (Some bytes) place n e = let f : 8 * bytes + (place + 1) ≡ 8 * bytes + place + n = omega (arith, e) in ap Some f

-- taking a bit moves the location on by its width
pub location_in_bits-next : (at : Option ℕ) (bytes : List (ℕ × ℕ)) (place : ℕ) (b : Bool)
    → Some b ≡ first_token (bits_from bytes place)
    → location_in_bits at (place + 1)
    ≡ location_behind (location_in_bits at place) (width (take 1 (bits_from bytes place)))
location_in_bits-next at bytes place b e = one-behind at place _ (width-first_bit (drop place (bits_of bytes)) b e)

-- ---- slices

-- nothing is left of nothing
pub drop-none : (n : ℕ) → drop {A = Bool} n [] ≡ []
drop-none zero = refl
drop-none (suc n) = refl

-- after whole bytes come the bits of the other bytes
drop-bits_of : (k e : ℕ) (bytes : List (ℕ × ℕ))
    → drop (8 * k + e) (bits_of bytes) ≡ drop e (bits_of (drop k bytes))
drop-bits_of zero e bytes = ap (λ m. drop m (bits_of bytes)) (zero-add e)
drop-bits_of (suc k) e [] = let m : 8 * suc k + e ≡ suc (7 + 8 * k + e) = omega arith in rw m (sym (drop-none e))
drop-bits_of (suc k) e (x ∷ xs) =
    let m : 8 * suc k + e ≡ suc (suc (suc (suc (suc (suc (suc (suc (8 * k + e)))))))) = omega arith in
    ap (λ n. drop n (bits_of (x ∷ xs))) m ∙ drop-bits_of k e xs

-- an offset is at most the number of bits that remain
le-offset : (bytes : List (ℕ × ℕ)) (place n : ℕ) → IsTrue (is_offset (bits_from bytes place) n)
    → n ≤ 8 * length bytes - place
le-offset bytes place n o = omega (arith, le-from_is_offset (drop place (bits_of bytes)) n o, length-bits_past bytes place)

-- the place is 0 if no byte remains
place_at_end : (bytes : List (ℕ × ℕ)) (place : ℕ) → IsBitSource bytes place → length bytes ≡ 0
    → place ≡ 0
place_at_end [] place h e = h.at_end refl
place_at_end (x ∷ xs) place h e = absurd (omega (arith, e))

-- the whole bytes of a slice are at most the bytes that remain
whole-le : (bytes : List (ℕ × ℕ)) (place n : ℕ) → IsBitSource bytes place
    → IsTrue (is_offset (bits_from bytes place) n) → (n + place) / 8 ≤ length bytes
whole-le bytes place n h o =
    let a : n ≤ 8 * length bytes - place = le-offset bytes place n o in
    let b : length bytes ≡ 0 → place ≡ 0 = place_at_end bytes place h in
    let l : place < 8 = h.below in
    omega (arith, a, b, l)

module _ {T : Type 0} where
  -- bytes of width 1 stay so when some are dropped
  HasUnits-drop : (n : ℕ) (r : List (T × ℕ)) → HasUnits r → HasUnits (drop n r)
  HasUnits-drop zero r h = h
  HasUnits-drop (suc n) [] h = tt
  HasUnits-drop (suc n) (x ∷ xs) h = HasUnits-drop n xs h.1

  -- each number of tokens of width 1, up to all, is an offset
  is_offset-HasUnits : (r : List (T × ℕ)) (n : ℕ) → HasUnits r → n ≤ length r → is_offset r n ≡ true
  is_offset-HasUnits r n h l =
      ap (λ s. is_offset s n) (units-HasUnits r h) ∙ is_offset-units (map (λ x. x.0) r) n ∙ grind (arith, nat_tests, l, length-map r (λ x. x.0))

  -- what follows n tokens of width 1 is the list without them
  back-HasUnits : (r : List (T × ℕ)) (n : ℕ) → HasUnits r → n ≤ length r → back r n ≡ drop n r
  back-HasUnits r n h l =
      ap (λ k. drop k r) (ap (λ s. count_to s n) (units-HasUnits r h) ∙ count_to-units (map (λ x. x.0) r) n (omega (arith, l, length-map r (λ x. x.0))))

-- the whole bytes of n bits are a front of the bytes
pub is_offset-whole : (bytes : List (ℕ × ℕ)) (place n whole : ℕ) → IsBitSource bytes place
    → IsTrue (is_offset (bits_from bytes place) n) → whole ≡ (n + place) / 8
    → is_offset bytes whole ≡ true
is_offset-whole bytes place n whole h o e = is_offset-HasUnits bytes whole h.units (omega (arith, e, whole-le bytes place n h o))

-- a slice that takes all bytes takes no further bit
rest-at_end : (bytes : List (ℕ × ℕ)) (place n : ℕ) → IsBitSource bytes place
    → n ≤ 8 * length bytes - place → length bytes ≤ (n + place) / 8 → (n + place) % 8 ≡ 0
rest-at_end [] place n h a l = let p : place ≡ 0 = h.at_end refl in omega (arith, a, p)
rest-at_end (x ∷ xs) place n h a l = let p : place < 8 = h.below in omega (arith, a, p, l)

-- the bytes and bits that remain after a slice
module _ (bytes left : List (ℕ × ℕ)) (place n whole rest : ℕ) (h : IsBitSource bytes place) (o : IsTrue (is_offset (bits_from bytes place) n)) (w : whole ≡ (n + place) / 8) (r : rest ≡ (n + place) % 8) (b : left ≡ back bytes whole) where
  -- the bytes that remain are those after the whole bytes
  left-drop : left ≡ drop whole bytes
  left-drop = b ∙ back-HasUnits bytes whole h.units (omega (arith, w, whole-le bytes place n h o))

  -- the bits that remain are those after the slice
  pub back-bits : bits_from left rest ≡ back (bits_from bytes place) n
  back-bits =
      ap (λ l. bits_from l rest) left-drop
      ∙ ap units (sym (drop-bits_of whole rest bytes)
      ∙ ap (λ m. drop m (bits_of bytes)) (let m : 8 * whole + rest ≡ place + n = omega (arith, w, r) in m)
      ∙ sym (drop-drop n place (bits_of bytes)))
      ∙ units-drop (drop place (bits_of bytes)) n (le-from_is_offset (drop place (bits_of bytes)) n o)

  -- the bits that remain may be streamed
  pub IsBitSource-left : IsBitSource left rest
  IsBitSource-left =
      let k : whole ≤ length bytes = omega (arith, w, whole-le bytes place n h o) in
      let a : n ≤ 8 * length bytes - place = le-offset bytes place n o in
      let f : 8 * length bytes - place < 2 ^ 64 = omega (arith, h.fits, width-bits_from bytes place) in
      let l : length left ≡ length bytes - whole = ap length left-drop ∙ length-drop whole bytes in
      record {
        units = subst HasUnits (sym left-drop) (HasUnits-drop whole bytes h.units);
        below = omega (arith, r);
        at_end = λ e. r ∙ rest-at_end bytes place n h a (omega (arith, ap length e, l, w));
        fits = omega (arith, width-bits_from left rest, l, k, a, f, w, r);
      }

-- a slice of n bits moves the location on by n
pub location_in_bits-behind : (bytes : Option ℕ) (place n whole rest : ℕ) → whole ≡ (n + place) / 8
    → rest ≡ (n + place) % 8
    → location_in_bits (location_behind bytes whole) rest
    ≡ location_behind (location_in_bits bytes place) n
location_in_bits-behind None place n whole rest w r = refl
location_in_bits-behind (Some bytes) place n whole rest w r = let e : 8 * (bytes + whole) + rest ≡ 8 * bytes + place + n = omega (arith, w, r) in ap Some e

-- ---- facts for the laws

-- each element as a token has width 1
HasUnits-units : {T : Type 0} (xs : List T) → HasUnits (units xs)
HasUnits-units [] = tt
HasUnits-units (x ∷ xs) = (refl, HasUnits-units xs)

-- `bit_source_law`, from its premises
pub IsBitSource-units : (bytes : List ℕ) (place : ℕ) → place < 8 → (length bytes ≡ 0 → place ≡ 0)
    → 8 * length bytes - place < 2 ^ 64 → IsBitSource (units bytes) place
IsBitSource-units bytes place below at_end fits = record {
  units = HasUnits-units bytes;
  below = below;
  at_end = λ e. at_end (sym (length-units bytes) ∙ ap length e);
  fits = omega (arith, fits, width-bits_from (units bytes) place, length-units bytes);
}

-- a slice of bits is as long as the offset that it was taken at, if slices of bytes are
module _ {S : Type 0} (is_slice : S → Source ℕ → ℕ → Type 0) (has_width : S → Type 0) (width_of : S → ℕ) (known : SlicesHaveWidths is_slice has_width width_of) where
  -- `bit_slice_law` for one slice
  pub bits-have-widths : (s : S × ℕ × ℕ) (r : Source Bool) (n : ℕ) → IsTrue (is_offset r n)
      → IsBitSlice is_slice s r n
      → (has_width s.0 × (s.1 ≤ 8 * width_of s.0 + s.2) × (8 * width_of s.0 + s.2 - s.1 < 2 ^ 64)) × (8 * width_of s.0 + s.2 - s.1 ≡ n)
  bits-have-widths s r n o h =
      let bytes : Source ℕ = h.0 in
      let source : IsBitSource bytes s.1 = h.1 in
      let offset : IsTrue (is_offset (bits_from bytes s.1) n) = h.2 in
      let inner = known s.0 bytes ((n + s.1) / 8) (is_offset-whole bytes s.1 n ((n + s.1) / 8) source offset refl) h.4.0 in
      let rest : s.2 ≡ (n + s.1) % 8 = h.4.2 in
      let short : n < 2 ^ 64 = omega (arith, le-offset bytes s.1 n offset, source.fits, width-bits_from bytes s.1) in
      let same : 8 * width_of s.0 + s.2 - s.1 ≡ n = omega (arith, inner.1, rest) in
      ((inner.0, omega (arith, inner.1, rest), omega (arith, same, short)), same)

-- the number of bits determines the place
pub place-of_width : (bytes : List (ℕ × ℕ)) (place : ℕ) → IsBitSource bytes place
    → (width (bits_from bytes place) + place) % 8 ≡ 0
place-of_width bytes place h =
    let e : width (bits_from bytes place) ≡ 8 * width bytes - place = width-bits bytes place h.units in
    let l : place ≤ 8 * width bytes = place-le bytes place h in
    omega (arith, e, l)

-- the bits that remain reach to the end of the bytes
pub width-bits_whole : (bytes : List (ℕ × ℕ)) (place : ℕ) → IsBitSource bytes place
    → (width (bits_from bytes place) + place) / 8 ≡ width bytes
width-bits_whole bytes place h =
    let e : width (bits_from bytes place) ≡ 8 * width bytes - place = width-bits bytes place h.units in
    let l : place ≤ 8 * width bytes = place-le bytes place h in
    omega (arith, e, l)

-- the bits of the first k bytes are the first 8 * k bits
bits_of-take : (k : ℕ) (bytes : List (ℕ × ℕ))
    → bits_of (take k bytes) ≡ take (8 * k) (bits_of bytes)
bits_of-take zero bytes = refl
bits_of-take (suc k) [] = let m : 8 * suc k ≡ suc (7 + 8 * k) = omega arith in rw m refl
bits_of-take (suc k) (x ∷ xs) =
    let m : 8 * suc k ≡ suc (suc (suc (suc (suc (suc (suc (suc (8 * k)))))))) = omega arith in
    rw m (ap (λ bits. byte_bits x.0 ++ bits) (bits_of-take k xs))

-- the front of width n of tokens of width 1 is the first n of them
front-HasUnits : {T : Type 0} (r : List (T × ℕ)) (n : ℕ) → HasUnits r → n ≤ length r
    → front r n ≡ take n r
front-HasUnits r n h l =
    ap (λ k. take k r) (ap (λ s. count_to s n) (units-HasUnits r h) ∙ count_to-units (map (λ x. x.0) r) n (omega (arith, l, length-map r (λ x. x.0))))

-- dropping p of the first n bits leaves n - p of those after p
drop-take_within : (p n : ℕ) (bits : List Bool) → p ≤ n
    → drop p (take n bits) ≡ take (n - p) (drop p bits)
drop-take_within p n bits h = let e : n ≡ p + (n - p) = omega (arith, h) in ap (λ m. drop p (take m bits)) e ∙ drop-take p (n - p) bits

-- the bits of a front of the bytes are a front of the bits
pub bits_from-front : (bytes : List (ℕ × ℕ)) (place count : ℕ) → IsBitSource bytes place
    → count ≤ length bytes
    → bits_from (front bytes count) place ≡ front (bits_from bytes place) (8 * count - place)
bits_from-front bytes place zero h l = ap (λ b. bits_from b place) (front-HasUnits bytes 0 h.units l) ∙ ap units (drop-none place) ∙ let z : 8 * 0 - place ≡ 0 = omega arith in rw z (units-take (drop place (bits_of bytes)) 0 (omega arith))
bits_from-front bytes place (suc k) h l =
    ap (λ b. bits_from b place) (front-HasUnits bytes (suc k) h.units l)
    ∙ ap (λ bits. units (drop place bits)) (bits_of-take (suc k) bytes)
    ∙ ap units (drop-take_within place (8 * suc k) (bits_of bytes) (omega (arith, h.below)))
    ∙ units-take (drop place (bits_of bytes)) (8 * suc k - place) (omega (arith, l, length-bits_past bytes place))

-- ---- where a slice of bits begins

-- the place below 8 that makes whole bytes with a number of bits
place-only : (bits place : ℕ) → place < 8 → (bits + place) % 8 ≡ 0 → place ≡ (8 - bits % 8) % 8
place-only bits place below whole = omega (arith, below, whole)

module _ {S : Type 0} (is_slice : S → Source ℕ → ℕ → Type 0) (s : S × ℕ × ℕ) (r : Source Bool) (n : ℕ) (h : IsBitSliceFrom is_slice s r n) where
  -- the list tells the place of a slice that was taken from it
  pub place-of_slice : s.1 ≡ bit_place r
  place-of_slice =
      let bytes : Source ℕ = h.0 in
      let source : IsBitSource bytes s.1 = h.1 in
      let whole : (width (bits_from bytes s.1) + s.1) % 8 ≡ 0 = place-of_width bytes s.1 source in
      place-only (width r) s.1 source.below (ap (λ l. (width l + s.1) % 8) h.2 ∙ whole)

  -- and the number of bits beyond the whole bytes
  pub beyond-of_slice : s.2 ≡ (n + bit_place r) % 8
  beyond-of_slice = let e : s.2 ≡ (n + s.1) % 8 = h.3.2 in e ∙ ap (λ p. (n + p) % 8) place-of_slice

  module _ (contents : S → List ℕ) (known : SlicesHaveBytes is_slice contents) (o : IsTrue (is_offset r n)) where
    -- the bytes of the slice are the whole bytes
    contents-of_slice : units (contents s.0) ≡ front h.0 ((n + s.1) / 8)
    contents-of_slice =
        let offset : IsTrue (is_offset (bits_from h.0 s.1) n) = subst (λ l. IsTrue (is_offset l n)) h.2 o in
        known s.0 h.0 ((n + s.1) / 8) (is_offset-whole h.0 s.1 n ((n + s.1) / 8) h.1 offset refl) h.3.0

    -- the whole bytes are at most the bytes
    whole-of_slice : (n + s.1) / 8 ≤ length h.0
    whole-of_slice = whole-le h.0 s.1 n h.1 (subst (λ l. IsTrue (is_offset l n)) h.2 o)

    -- there are as many as the bits fill
    length-contents : length (contents s.0) ≡ (n + s.1) / 8
    length-contents =
        let source : IsBitSource h.0 s.1 = h.1 in
        sym (length-units (contents s.0)) ∙ ap length contents-of_slice ∙ ap length (front-HasUnits h.0 ((n + s.1) / 8) source.units whole-of_slice)
        ∙ length-take-le ((n + s.1) / 8) h.0 whole-of_slice

    pub count-of_slice : length (contents s.0) ≡ (n + bit_place r) / 8
    count-of_slice = length-contents ∙ ap (λ p. (n + p) / 8) place-of_slice

    -- their bits from the place on are the first bits of the list
    pub bits-of_slice : bits_from (units (contents s.0)) (bit_place r)
        ≡ front r (8 * length (contents s.0) - bit_place r)
    bits-of_slice =
        let there : bits_from (units (contents s.0)) s.1 ≡ front r (8 * length (contents s.0) - s.1) =
        ap (λ l. bits_from l s.1) contents-of_slice
        ∙ bits_from-front h.0 s.1 ((n + s.1) / 8) h.1 whole-of_slice
        ∙ ap (λ l. front l (8 * ((n + s.1) / 8) - s.1)) (sym h.2)
        ∙ ap (λ k. front r (8 * k - s.1)) (sym length-contents) in
        subst (λ p. bits_from (units (contents s.0)) p ≡ front r (8 * length (contents s.0) - p)) place-of_slice there

-- the rules for the calls of streams of bits
pub ruleset bit_steps = (width-bits, place-le, is_offset-bits, offset_at-bits_short, offset_at-bits_fits, first-bit, next-bit)
