-- The fields of a number, and the number that is joined from them.
use Rattle.std.specs.Prelude.{◌≡◌, ℕ, zero, suc, ◌+◌, ◌*◌, ◌/◌, ◌%◌, ◌^◌, ◌<◌, List, [], ◌∷◌, length, sum}
use Rattle.std.proofs.Common.{refl, ap, sym, ◌∙◌, subst, arith, get_or}
use Rattle.std.proofs.Math.Nat.{mod-eq_of_lt, div-one}
use Rattle.std.proofs.lemmas.Nat.{mod-pow-add, shr-shr, pow_pos}
use Rattle.std.proofs.lemmas.List.Sums.{sum_by-cons}
use Rattle.winnow_binary.specs.declared.endianness.Endianness.{Endianness}
use Rattle.winnow_binary.specs.declared.endianness.Endianness.TheVariants.{Big, Little, Native}
use Rattle.winnow_binary.specs.Numerals.{number_in}
use Rattle.winnow_binary.specs.Fields.{bits_of, fields_down, fields_up, fields_in, joined_down, joined_up, joined_in, HaveWidths, AreBytes}
use Rattle.winnow_binary.proofs.lemmas.ByteLemmas.{byte-power, number-below, number-tells}

-- the sum of a list is its first element and the sum of the others
sum-cons : (x : ℕ) (xs : List ℕ) → sum (x ∷ xs) ≡ x + sum xs
sum-cons x xs = sum_by-cons (λ w. w) x xs

-- there are as many fields as widths, the first one highest
length-down : (ws : List ℕ) (n : ℕ) → length (fields_down ws n) ≡ length ws
length-down [] n = refl
length-down (w ∷ ws) n = ap suc (length-down ws n)

-- there are as many fields as widths, the first one lowest
length-up : (low : ℕ) (ws : List ℕ) (n : ℕ) → length (fields_up low ws n) ≡ length ws
length-up low [] n = refl
length-up low (w ∷ ws) n = ap suc (length-up (low + w) ws n)

-- bits are a number below the power of their width
bits-below : (n low width : ℕ) → bits_of n low width < 2 ^ width
bits-below n low width = let p = pow_pos width in omega (arith, p)

-- each field is below the power of its width, the first one highest
below-down : (ws : List ℕ) (n k : ℕ) → k < length ws
    → get_or (fields_down ws n) k 0 < 2 ^ get_or ws k 0
below-down [] n k h = absurd (omega arith)
below-down (w ∷ ws) n zero h = bits-below n (sum ws) w
below-down (w ∷ ws) n (suc k) h = below-down ws n k (omega arith)

-- each field is below the power of its width, the first one lowest
below-up : (low : ℕ) (ws : List ℕ) (n k : ℕ) → k < length ws
    → get_or (fields_up low ws n) k 0 < 2 ^ get_or ws k 0
below-up low [] n k h = absurd (omega arith)
below-up low (w ∷ ws) n zero h = bits-below n low w
below-up low (w ∷ ws) n (suc k) h = below-up (low + w) ws n k (omega arith)

-- the fields of a number are joined to its lowest bits, as many as they have, the first one highest
joined-down : (ws : List ℕ) (n : ℕ) → joined_down ws (fields_down ws n) ≡ n % 2 ^ sum ws
joined-down [] n = omega arith
joined-down (w ∷ ws) n =
    ap (λ m. bits_of n (sum ws) w * 2 ^ sum ws + m) (joined-down ws n)
    ∙ sym (mod-pow-add n w (sum ws))
    ∙ ap (λ k. n % 2 ^ k) (sym (sum-cons w ws))

-- the fields of a number are joined to its bits from bit `low` up, the first one lowest
joined-up : (low : ℕ) (ws : List ℕ) (n : ℕ)
    → joined_up ws (fields_up low ws n) ≡ n / 2 ^ low % 2 ^ sum ws
joined-up low [] n = omega arith
joined-up low (w ∷ ws) n =
    let m = n / 2 ^ low in
    let rest : n / 2 ^ (low + w) ≡ m / 2 ^ w = sym (shr-shr n low w) in
    let e : joined_up ws (fields_up (low + w) ws n) ≡ m / 2 ^ w % 2 ^ sum ws = joined-up (low + w) ws n ∙ ap (λ k. k % 2 ^ sum ws) rest in
    let f : m % 2 ^ (sum ws + w) ≡ (m / 2 ^ w % 2 ^ sum ws) * 2 ^ w + m % 2 ^ w = mod-pow-add m (sum ws) w in
    let s : sum ws + w ≡ sum (w ∷ ws) = omega (arith, sum-cons w ws) in
    ap (λ k. m % 2 ^ w + 2 ^ w * k) e
    ∙ omega arith
    ∙ sym f ∙ ap (λ k. m % 2 ^ k) s

-- there are as many fields as widths
pub length-fields : (order : Endianness) (ws : List ℕ) (n : ℕ)
    → length (fields_in order ws n) ≡ length ws
length-fields Big ws n = length-down ws n
length-fields Little ws n = length-up 0 ws n
length-fields Native ws n = length-up 0 ws n

-- each field is a number of its width
pub fields-below : (order : Endianness) (ws : List ℕ) (n : ℕ) → HaveWidths ws (fields_in order ws n)
fields-below Big ws n = below-down ws n
fields-below Little ws n = below-up 0 ws n
fields-below Native ws n = below-up 0 ws n

-- a number that has no bits above those of its fields is joined from them, the first one lowest
joined-lowest : (ws : List ℕ) (n : ℕ) → n < 2 ^ sum ws → joined_up ws (fields_up 0 ws n) ≡ n
joined-lowest ws n h = joined-up 0 ws n ∙ ap (λ m. m % 2 ^ sum ws) (div-one n) ∙ mod-eq_of_lt h

-- a number that has no bits above those of its fields is joined from them
pub joined-fields : (order : Endianness) (ws : List ℕ) (n : ℕ) → n < 2 ^ sum ws
    → joined_in order ws (fields_in order ws n) ≡ n
joined-fields Big ws n h = joined-down ws n ∙ mod-eq_of_lt h
joined-fields Little ws n h = joined-lowest ws n h
joined-fields Native ws n h = joined-lowest ws n h

-- the number of bytes, as many as fields fill, has no bits above those of the fields
within-fields : (order : Endianness) (ws xs : List ℕ) → AreBytes xs → 8 * length xs ≡ sum ws
    → number_in order xs < 2 ^ sum ws
within-fields order ws xs h e = subst (λ p. number_in order xs < p) (byte-power (length xs) ∙ ap (λ k. 2 ^ k) e) (number-below order xs h)

-- as many bytes as fields fill are known by the fields
pub fields-tell : (order : Endianness) (ws xs ys : List ℕ) → AreBytes xs → AreBytes ys
    → 8 * length xs ≡ sum ws → 8 * length ys ≡ sum ws
    → fields_in order ws (number_in order xs) ≡ fields_in order ws (number_in order ys) → xs ≡ ys
fields-tell order ws xs ys h k e f same =
    let lengths : length xs ≡ length ys = omega (arith, e, f) in
    let number = sym (joined-fields order ws (number_in order xs) (within-fields order ws xs h e)) ∙ ap (joined_in order ws) same ∙ joined-fields order ws (number_in order ys) (within-fields order ws ys k f) in
    number-tells order xs ys lengths h k number
