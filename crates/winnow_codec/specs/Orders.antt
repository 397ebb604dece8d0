-- The two orders of bytes tell their numbers.
use Rattle.std.specs.Prelude.{◌≡◌, ℕ, ◌+◌, ◌*◌, ◌/◌, ◌^◌, ◌<◌, List, length, [], ◌∷◌, ◌++◌, ◌%◌}
use Rattle.std.proofs.Common.{ap, sym, ◌∙◌, refl, arith}
use Rattle.std.specs.Int.{w16, w32, w64, from_be_bytes, from_le_bytes, byte_at}
use Rattle.std.proofs.lemmas.Nat.{from_be_bytes-to_be_bytes_2, from_be_bytes-to_be_bytes_4, from_be_bytes-to_be_bytes_8, from_le_bytes-to_le_bytes_2, from_le_bytes-to_le_bytes_4, from_le_bytes-to_le_bytes_8}
use Rattle.std.proofs.lemmas.List.{append_cancel_left}
use Rattle.winnow_codec.specs.Bytes.{same-front}
use native.Mathlib.Nat as nat
use Rattle.winnow_codec.specs.FormatNumbers.{bytes_in, big_endian, little_endian, IsOneToOne, IsOrder}
use Rattle.winnow_codec.specs.declared.widths.Width.{Width}
use Rattle.winnow_codec.specs.declared.widths.Width.TheVariants.{One, Two, Three, Four, Eight}

big-count : (width : Width) (number : ℕ) → length
    (big_endian (bytes_in width) number) ≡ bytes_in width
big-count One n = refl
big-count Two n = refl
big-count Three n = refl
big-count Four n = refl
big-count Eight n = refl

little-count : (width : Width) (number : ℕ) → length
    (little_endian (bytes_in width) number) ≡ bytes_in width
little-count One n = refl
little-count Two n = refl
little-count Three n = refl
little-count Four n = refl
little-count Eight n = refl

-- equal lists of one or three bytes have equal bytes
same-one : (a b : ℕ) → a ∷ [] ≡ b ∷ [] → a ≡ b
same-one a b e = cc

same-three : (a b c x y z : ℕ) → a ∷ b ∷ c ∷ [] ≡ x ∷ y ∷ z ∷ [] → (a ≡ x) × (b ≡ y) × (c ≡ z)
same-three a b c x y z e = let f : a ≡ x = cc in let g : b ≡ y = cc in let h : c ≡ z = cc in (f, g, h)

big-tells : (width : Width) → IsOneToOne (256 ^ bytes_in width) (big_endian (bytes_in width))
big-tells One m n p q e = let f = same-one (m % 256) (n % 256) e in omega (arith, p, q, f)
big-tells Two m n p q e = sym (from_be_bytes-to_be_bytes_2 m p) ∙ ap (from_be_bytes w16) e ∙ from_be_bytes-to_be_bytes_2 n q
big-tells Three m n p q e = let f = same-three _ _ _ _ _ _ e in omega (arith, p, q, f.0, f.1, f.2)
big-tells Four m n p q e = sym (from_be_bytes-to_be_bytes_4 m p) ∙ ap (from_be_bytes w32) e ∙ from_be_bytes-to_be_bytes_4 n q
big-tells Eight m n p q e = sym (from_be_bytes-to_be_bytes_8 m p) ∙ ap (from_be_bytes w64) e ∙ from_be_bytes-to_be_bytes_8 n q

little-tells : (width : Width) → IsOneToOne (256 ^ bytes_in width) (little_endian (bytes_in width))
little-tells One m n p q e = let f = same-one (m % 256) (n % 256) e in omega (arith, p, q, f)
little-tells Two m n p q e = sym (from_le_bytes-to_le_bytes_2 m p) ∙ ap (from_le_bytes w16) e ∙ from_le_bytes-to_le_bytes_2 n q
little-tells Three m n p q e = let f = same-three _ _ _ _ _ _ e in omega (arith, p, q, f.0, f.1, f.2)
little-tells Four m n p q e = sym (from_le_bytes-to_le_bytes_4 m p) ∙ ap (from_le_bytes w32) e ∙ from_le_bytes-to_le_bytes_4 n q
little-tells Eight m n p q e = sym (from_le_bytes-to_le_bytes_8 m p) ∙ ap (from_le_bytes w64) e ∙ from_le_bytes-to_le_bytes_8 n q

-- ---- Sixteen bytes

-- a part of the upper half of a number of sixteen bytes is that part of the number
upper : (x y n c : ℕ) → y < 256 ^ 8 → n ≡ x * 256 ^ 8 + y → x / c % 256 ≡ n / (256 ^ 8 * c) % 256
upper x y n c q e = ap (λ m. m / c % 256) (omega (arith, q, e)) ∙ ap (λ m. m % 256) (nat.div-div-eq-div-mul n (256 ^ 8) c)

module _ (x y n : ℕ) (q : y < 256 ^ 8) (e : n ≡ x * 256 ^ 8 + y) where
  up-0 : byte_at 0 x ≡ byte_at 8 n
  up-0 = omega (arith, q, e)

  up-1 : byte_at 1 x ≡ byte_at 9 n
  up-1 = upper x y n (256 ^ 1) q e

  up-2 : byte_at 2 x ≡ byte_at 10 n
  up-2 = upper x y n (256 ^ 2) q e

  up-3 : byte_at 3 x ≡ byte_at 11 n
  up-3 = upper x y n (256 ^ 3) q e

  up-4 : byte_at 4 x ≡ byte_at 12 n
  up-4 = upper x y n (256 ^ 4) q e

  up-5 : byte_at 5 x ≡ byte_at 13 n
  up-5 = upper x y n (256 ^ 5) q e

  up-6 : byte_at 6 x ≡ byte_at 14 n
  up-6 = upper x y n (256 ^ 6) q e

  up-7 : byte_at 7 x ≡ byte_at 15 n
  up-7 = upper x y n (256 ^ 7) q e

  low-0 : byte_at 0 y ≡ byte_at 0 n
  low-0 = omega (arith, q, e)

  low-1 : byte_at 1 y ≡ byte_at 1 n
  low-1 = omega (arith, q, e)

  low-2 : byte_at 2 y ≡ byte_at 2 n
  low-2 = omega (arith, q, e)

  low-3 : byte_at 3 y ≡ byte_at 3 n
  low-3 = omega (arith, q, e)

  low-4 : byte_at 4 y ≡ byte_at 4 n
  low-4 = omega (arith, q, e)

  low-5 : byte_at 5 y ≡ byte_at 5 n
  low-5 = omega (arith, q, e)

  low-6 : byte_at 6 y ≡ byte_at 6 n
  low-6 = omega (arith, q, e)

  low-7 : byte_at 7 y ≡ byte_at 7 n
  low-7 = omega (arith, q, e)

  -- the bytes of the upper half and those of the lower half are those of the number
  pub big-halves : big_endian 8 x ++ big_endian 8 y ≡ big_endian 16 n
  big-halves = λ i. up-7 i ∷ up-6 i ∷ up-5 i ∷ up-4 i ∷ up-3 i ∷ up-2 i ∷ up-1 i ∷ up-0 i ∷ low-7 i ∷ low-6 i ∷ low-5 i ∷ low-4 i ∷ low-3 i ∷ low-2 i ∷ low-1 i ∷ low-0 i ∷ []

  -- the bytes of the lower half and those of the upper half are those of the number
  pub little-halves : little_endian 8 y ++ little_endian 8 x ≡ little_endian 16 n
  little-halves = λ i. low-0 i ∷ low-1 i ∷ low-2 i ∷ low-3 i ∷ low-4 i ∷ low-5 i ∷ low-6 i ∷ low-7 i ∷ up-0 i ∷ up-1 i ∷ up-2 i ∷ up-3 i ∷ up-4 i ∷ up-5 i ∷ up-6 i ∷ up-7 i ∷ []

-- numbers whose halves have the same bytes are one
halves-tell : (order : ℕ → ℕ → List ℕ) → ((n : ℕ) → length (order 8 n) ≡ 8)
    → IsOneToOne (256 ^ 8) (order 8) → (a b c d : ℕ) → a < 256 ^ 8 → b < 256 ^ 8 → c < 256 ^ 8 → d < 256 ^ 8
    → order 8 a ++ order 8 b ≡ order 8 c ++ order 8 d → (a ≡ c) × (b ≡ d)
halves-tell order long tells a b c d p q r s e =
    let front = same-front (order 8 a) (order 8 c) (order 8 b) (order 8 d) (long a ∙ sym (long c)) e in
    (tells a c p r front, tells b d q s (append_cancel_left (order 8 a) (order 8 b) (order 8 d) (e ∙ ap (λ l. l ++ order 8 d) (sym front))))

-- a number is its upper half and its lower half
halves : (n : ℕ) → n < 256 ^ 16
    → (n / 256 ^ 8 < 256 ^ 8) × (n % 256 ^ 8 < 256 ^ 8) × (n ≡ n / 256 ^ 8 * 256 ^ 8 + n % 256 ^ 8)
halves n p = (omega (arith, p), omega arith, omega arith)

big-wide-tells : IsOneToOne (256 ^ 16) (big_endian 16)
big-wide-tells m n p q e =
    let f = halves m p in let g = halves n q in
    let parts = halves-tell big_endian (big-count Eight) (big-tells Eight) (m / 256 ^ 8) (m % 256 ^ 8) (n / 256 ^ 8) (n % 256 ^ 8) f.0 f.1 g.0 g.1
    (big-halves _ _ m f.1 f.2 ∙ e ∙ sym (big-halves _ _ n g.1 g.2)) in
    omega (arith, parts.0, parts.1)

little-wide-tells : IsOneToOne (256 ^ 16) (little_endian 16)
little-wide-tells m n p q e =
    let f = halves m p in let g = halves n q in
    let parts = halves-tell little_endian (little-count Eight) (little-tells Eight) (m % 256 ^ 8) (m / 256 ^ 8) (n % 256 ^ 8) (n / 256 ^ 8) f.1 f.0 g.1 g.0
    (little-halves _ _ m f.1 f.2 ∙ e ∙ sym (little-halves _ _ n g.1 g.2)) in
    omega (arith, parts.0, parts.1)

pub IsOrder-big : IsOrder big_endian
IsOrder-big = record { count = big-count; tells = big-tells; wide_count = λ n. refl; wide_tells = big-wide-tells }

pub IsOrder-little : IsOrder little_endian
IsOrder-little = record { count = little-count; tells = little-tells; wide_count = λ n. refl; wide_tells = little-wide-tells }
