-- Bytes, and the number that they write.
use Rattle.std.specs.Prelude.{◌≡◌, ℕ, zero, suc, ◌+◌, ◌*◌, ◌/◌, ◌%◌, ◌^◌, ◌<◌, ◌≤◌, List, [], ◌∷◌, ◌++◌, length, take, drop, Option, Some, None}
use Rattle.std.proofs.Common.{refl, ap, sym, ◌∙◌, subst, arith, length-append, lit<, mul_comm}
use Rattle.std.proofs.Math.Nat.{pow-suc, mul-le-mul_right, pow-le-pow_right, one-le-pow, mod-eq_of_lt}
use Rattle.std.proofs.Math.Seq.{take-add}
use Rattle.std.proofs.lemmas.Nat.{div-mul-add, pow-add}
use Rattle.std.proofs.lemmas.List.{drop-drop, length-take}
use Rattle.winnow_stream.specs.Source.{Source, width}
use Rattle.winnow_stream.specs.Location.{location_behind}
use Rattle.winnow_stream.proofs.lemmas.FrontLemmas.{width-append}
use Rattle.winnow_match.specs.Bytes.{bytes_of}
use Rattle.winnow_match.specs.Staying.{written-append}
use Rattle.winnow_parser.specs.Outcome.{Ahead}
use Rattle.winnow_binary.specs.declared.endianness.Endianness.{Endianness}
use Rattle.winnow_binary.specs.declared.endianness.Endianness.TheVariants.{Big, Little, Native}
use Rattle.winnow_binary.specs.Numerals.{most_first, least_first, number_in, after_tokens}
use Rattle.winnow_binary.specs.Fields.{AreBytes}
use Rattle.winnow_binary.specs.FieldBytes.{with_byte}

-- ---- A byte more

-- a number of bytes of which the most significant comes first, and a byte after them
most_first-push : (xs : List ℕ) (b : ℕ) → most_first (xs ++ b ∷ []) ≡ most_first xs * 256 + b
most_first-push [] b = omega arith
most_first-push (x ∷ xs) b =
    let p : 256 ^ length (xs ++ b ∷ []) ≡ 256 ^ suc (length xs) = ap (λ n. 256 ^ n) (length-append xs (b ∷ []) ∙ omega arith) in
    let q : x * 256 ^ length (xs ++ b ∷ []) ≡ x * (256 ^ length xs * 256) = ap (λ n. x * n) (p ∙ pow-suc 256 (length xs)) in
    omega (arith, q, most_first-push xs b)

-- a number of bytes of which the least significant comes first, and a byte after them
least_first-push : (xs : List ℕ) (b : ℕ)
    → least_first (xs ++ b ∷ []) ≡ least_first xs + 256 ^ length xs * b
least_first-push [] b = omega arith
least_first-push (x ∷ xs) b =
    let p : 256 ^ suc (length xs) * b ≡ (256 ^ length xs * 256) * b = ap (λ n. n * b) (pow-suc 256 (length xs)) in
    omega (arith, p, least_first-push xs b)

-- the number of some bytes and a byte after them
number-push : (order : Endianness) (xs : List ℕ) (b : ℕ)
    → number_in order (xs ++ b ∷ []) ≡ with_byte order (length xs) (number_in order xs) b
number-push Big xs b = most_first-push xs b
number-push Little xs b = least_first-push xs b
number-push Native xs b = least_first-push xs b

-- there are as many bytes as tokens
length-bytes_of : (r : Source ℕ) → length (bytes_of r) ≡ length r
length-bytes_of [] = refl
length-bytes_of (x ∷ xs) = ap suc (length-bytes_of xs)

-- the number of the first k bytes, and then that of one byte more
pub number-more : (order : Endianness) (k : ℕ) (r mid : Source ℕ) (number byte next : ℕ)
    → k < length r → mid ≡ drop k r → number ≡ number_in order (bytes_of (take k r))
    → bytes_of (take 1 mid) ≡ byte ∷ [] → next ≡ with_byte order k number byte
    → next ≡ number_in order (bytes_of (take (k + 1) r))
number-more order k r mid number byte next l e f b h =
    let before = bytes_of (take k r) in
    let count : length before ≡ k = omega (arith, l, length-bytes_of (take k r), length-take k r) in
    let last : bytes_of (take 1 (drop k r)) ≡ byte ∷ [] = ap (λ s. bytes_of (take 1 s)) (sym e) ∙ b in
    let whole : bytes_of (take (k + 1) r) ≡ before ++ byte ∷ [] = ap bytes_of (take-add k 1 r) ∙ written-append (λ x. x ∷ []) (take k r) (take 1 (drop k r)) ∙ ap (λ l. before ++ l) last in
    h ∙ ap (λ n. with_byte order k n byte) f
    ∙ ap (λ c. with_byte order c (number_in order before) byte) (sym count)
    ∙ sym (number-push order before byte) ∙ ap (number_in order) (sym whole)

-- ---- Places

-- a location after two widths is after their sum
location-sum : (a : Option ℕ) (m n : ℕ)
    → location_behind (location_behind a m) n ≡ location_behind a (m + n)
location-sum None m n = refl
location-sum (Some l) m n = ap Some (omega arith)

-- a location after nothing is the same
location-none : (a : Option ℕ) → location_behind a 0 ≡ a
location-none None = refl
location-none (Some l) = ap Some (omega arith)

module _ {T : Type 0} where
  -- the place after no tokens is the same
  pub after-none : (a : Ahead T) → a ≡ after_tokens 0 a
  after-none a = ap (λ l. record { location = l; tokens = a.tokens }) (sym (location-none a.location))

  -- the place after k tokens, and then after one token more
  pub after-more : (k : ℕ) (a b c : Ahead T) → b ≡ after_tokens k a → c ≡ after_tokens 1 b
      → c ≡ after_tokens (k + 1) a
  after-more k a b c e f =
      let w : width (take k a.tokens) + width (take 1 (drop k a.tokens)) ≡ width (take (k + 1) a.tokens) = sym (width-append (take k a.tokens) (take 1 (drop k a.tokens))) ∙ ap width (sym (take-add k 1 a.tokens)) in
      f ∙ ap (after_tokens 1) e
      ∙ ap (λ l. record { location = l; tokens = drop 1 (drop k a.tokens) }) (location-sum a.location (width (take k a.tokens)) (width (take 1 (drop k a.tokens))) ∙ ap (location_behind a.location) w)
      ∙ ap (λ r. record { location = location_behind a.location (width (take (k + 1) a.tokens)); tokens = r }) (drop-drop 1 k a.tokens)

-- ---- Bounds

-- a power of 256 is one of 2
pub byte-power : (k : ℕ) → 256 ^ k ≡ 2 ^ (8 * k)
byte-power zero = refl
byte-power (suc k) =
    let e : 8 * suc k ≡ 8 * k + 8 = omega arith in
    pow-suc 256 k ∙ ap (λ n. n * 256) (byte-power k) ∙ sym (pow-add 2 (8 * k) 8) ∙ ap (λ n. 2 ^ n) (sym e)

-- a byte is below a power of 256 that many times
byte-times : (p b : ℕ) → b < 256 → p * b + p ≤ p * 256
byte-times p b h = let q : (b + 1) * p ≤ 256 * p = mul-le-mul_right p (omega arith) in omega (arith, q)

-- the number of at most eight bytes fits 64 bits
pub bytes-fit : (k : ℕ) → k < 8 → 256 ^ (k + 1) ≤ 18446744073709551616
bytes-fit k h = pow-le-pow_right {n = 256} (lit< tt) {i = k + 1} {j = 8} (omega arith)

-- the number of some bytes and one byte more is below the next power of 256
pub with_byte-below : (order : Endianness) (k n b : ℕ) → n < 256 ^ k → b < 256
    → with_byte order k n b < 256 ^ (k + 1)
with_byte-below Big k n b h l = let e : 256 ^ (k + 1) ≡ 256 ^ k * 256 = ap (λ c. 256 ^ c) (omega arith) ∙ pow-suc 256 k in omega (arith, e, h, l)
with_byte-below Little k n b h l = let e : 256 ^ (k + 1) ≡ 256 ^ k * 256 = ap (λ c. 256 ^ c) (omega arith) ∙ pow-suc 256 k in omega (arith, e, h, byte-times (256 ^ k) b l)
with_byte-below Native k n b h l = let e : 256 ^ (k + 1) ≡ 256 ^ k * 256 = ap (λ c. 256 ^ c) (omega arith) ∙ pow-suc 256 k in omega (arith, e, h, byte-times (256 ^ k) b l)

-- the number of at most eight bytes is below 2 ^ 64
pub with_byte-fits : (order : Endianness) (k n b : ℕ) → k < 8 → n < 256 ^ k → b < 256
    → with_byte order k n b < 18446744073709551616
with_byte-fits order k n b l h i = omega (arith, with_byte-below order k n b h i, bytes-fit k l)

-- a byte that is shifted up by k bytes counts 256 ^ k times as much
pub shifted-byte : (k b : ℕ) → k < 8 → b < 256
    → b * 2 ^ (8 * k) % 18446744073709551616 ≡ 256 ^ k * b
shifted-byte k b l h =
    let e : b * 2 ^ (8 * k) ≡ 256 ^ k * b = ap (λ p. b * p) (sym (byte-power k)) ∙ mul_comm b (256 ^ k) in
    let z : 0 < 256 ^ k = one-le-pow k 256 (lit< tt) in
    let f : 256 ^ k * b < 18446744073709551616 = omega (arith, with_byte-fits Little k 0 b l z h) in
    ap (λ n. n % 18446744073709551616) e ∙ mod-eq_of_lt f

-- ---- Bytes are known by their number

-- the first of some bytes is a byte
head-byte : (x : ℕ) (xs : List ℕ) → AreBytes (x ∷ xs) → x < 256
head-byte x xs h = h 0 0 (omega arith)

-- each byte after the first is a byte
tail-bytes : (x : ℕ) (xs : List ℕ) → AreBytes (x ∷ xs) → AreBytes xs
tail-bytes x xs h k d l = h (suc k) d (omega arith)

-- bytes write a number below the power of 256 of their count, if the most significant comes first
most_first-below : (xs : List ℕ) → AreBytes xs → most_first xs < 256 ^ length xs
most_first-below [] h = omega arith
most_first-below (x ∷ xs) h =
    omega (arith, most_first-below xs (tail-bytes x xs h), pow-suc 256 (length xs), byte-times (256 ^ length xs) x (head-byte x xs h))

-- bytes write a number below the power of 256 of their count, if the least significant comes first
least_first-below : (xs : List ℕ) → AreBytes xs → least_first xs < 256 ^ length xs
least_first-below [] h = omega arith
least_first-below (x ∷ xs) h =
    omega (arith, head-byte x xs h, least_first-below xs (tail-bytes x xs h), pow-suc 256 (length xs))

-- as many bytes that write one number are the same, if the most significant comes first
most_first-tells : (xs ys : List ℕ) → length xs ≡ length ys → AreBytes xs → AreBytes ys
    → most_first xs ≡ most_first ys → xs ≡ ys
most_first-tells [] [] l h k e = refl
most_first-tells [] (y ∷ ys) l h k e = absurd (omega arith)
most_first-tells (x ∷ xs) [] l h k e = absurd (omega arith)
most_first-tells (x ∷ xs) (y ∷ ys) l h k e =
    let lengths : length xs ≡ length ys = omega arith in
    let p = 256 ^ length xs in
    let m = most_first-below xs (tail-bytes x xs h) in
    let n : most_first ys < p = subst (λ c. most_first ys < 256 ^ c) (sym lengths) (most_first-below ys (tail-bytes y ys k)) in
    let whole : x * p + most_first xs ≡ y * p + most_first ys = e ∙ ap (λ c. y * 256 ^ c + most_first ys) (sym lengths) in
    let first : x ≡ y = sym (div-mul-add x p (most_first xs) m) ∙ ap (λ v. v / p) whole ∙ div-mul-add y p (most_first ys) n in
    let scaled : x * p ≡ y * p = ap (λ v. v * p) first in
    let rest : most_first xs ≡ most_first ys = omega (arith, whole, scaled) in
    ap (λ v. v ∷ xs) first ∙ ap (λ l. y ∷ l) (most_first-tells xs ys lengths (tail-bytes x xs h) (tail-bytes y ys k) rest)

-- as many bytes that write one number are the same, if the least significant comes first
least_first-tells : (xs ys : List ℕ) → length xs ≡ length ys → AreBytes xs → AreBytes ys
    → least_first xs ≡ least_first ys → xs ≡ ys
least_first-tells [] [] l h k e = refl
least_first-tells [] (y ∷ ys) l h k e = absurd (omega arith)
least_first-tells (x ∷ xs) [] l h k e = absurd (omega arith)
least_first-tells (x ∷ xs) (y ∷ ys) l h k e =
    let lengths : length xs ≡ length ys = omega arith in
    let a = head-byte x xs h in
    let b = head-byte y ys k in
    let first : x ≡ y = omega (arith, a, b, e) in
    let rest : least_first xs ≡ least_first ys = omega (arith, a, b, e) in
    ap (λ v. v ∷ xs) first ∙ ap (λ l. y ∷ l) (least_first-tells xs ys lengths (tail-bytes x xs h) (tail-bytes y ys k) rest)

-- bytes write a number below the power of 256 of their count, in either order
pub number-below : (order : Endianness) (xs : List ℕ) → AreBytes xs
    → number_in order xs < 256 ^ length xs
number-below Big xs h = most_first-below xs h
number-below Little xs h = least_first-below xs h
number-below Native xs h = least_first-below xs h

-- as many bytes that write one number are the same, in either order
pub number-tells : (order : Endianness) (xs ys : List ℕ) → length xs ≡ length ys → AreBytes xs
    → AreBytes ys → number_in order xs ≡ number_in order ys → xs ≡ ys
number-tells Big xs ys l h k e = most_first-tells xs ys l h k e
number-tells Little xs ys l h k e = least_first-tells xs ys l h k e
number-tells Native xs ys l h k e = least_first-tells xs ys l h k e
