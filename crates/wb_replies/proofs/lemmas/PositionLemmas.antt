-- Places after bytes.
use Rattle.std.proofs.Common.{◌≡◌, ℕ, ◌+◌, ◌-◌, ◌<◌, ◌≤◌, Bool, true, false, List, [], ◌∷◌, ◌++◌, length, take, get_or, refl, arith, ap, ◌∙◌}
use Rattle.std.proofs.lemmas.List.{take_more}
use Rattle.std.proofs.lemmas.Bool.Decides.{nat_tests}
use Rattle.wb_base.specs.Positions.{is_inside}
use Rattle.wb_replies.specs.declared.positions.Position.{Position}
use Rattle.std.specs.Prelude.{◌==◌, if◌then◌else◌}
use Rattle.wb_replies.specs.Positions.{start, characters_in, next, position_after, joined_with, IsPosition}

-- the place after one list of bytes, and then another
pub position_after-append : (p : Position) (xs ys : List ℕ)
    → position_after p (xs ++ ys) ≡ position_after (position_after p xs) ys
position_after-append p [] ys = refl
position_after-append p (x ∷ xs) ys = position_after-append (next p x) xs ys

-- the place after bytes is as many bytes on
pub position_after-byte : (p : Position) (xs : List ℕ)
    → (position_after p xs).byte ≡ p.byte + length xs
position_after-byte p [] = omega arith
position_after-byte p (x ∷ xs) =
    let rest = position_after-byte (next p x) xs in omega (arith, rest)

-- the place after one byte more
pub position_after_more : (p : Position) (xs : List ℕ) (i d : ℕ) → i < length xs
    → position_after p (take (i + 1) xs) ≡ next (position_after p (take i xs)) (get_or xs i d)
position_after_more p xs i d h =
    ap (position_after p) (take_more xs i d h) ∙ position_after-append p (take i xs) (get_or xs i d ∷ [])

-- a place from its numbers
abbrev place_of : ℕ → ℕ → ℕ → ℕ → Position
place_of byte line column character =
    record { byte = byte; line = line; column = column; character = character }

-- two places with the same numbers are the same
same-place : (a b l m c d e f : ℕ) → a ≡ b → l ≡ m → c ≡ d → e ≡ f
    → place_of a l c e ≡ place_of b m d f
same-place a b l m c d e f p q r s =
    ap (λ x. place_of x l c e) p ∙ ap (λ y. place_of b y c e) q ∙ ap (λ z. place_of b m z e) r ∙ ap (place_of b m d) s

-- whether a byte begins one or not, it is one character at most
at-most-one : (c : Bool) → (if c then 0 else 1) ≤ 1
at-most-one true = omega arith
at-most-one false = omega arith

-- a byte begins one character at most
few-characters : (b : ℕ) → characters_in b ≤ 1
few-characters b = at-most-one (is_inside b)

-- where the place after a byte is one of positions
next-counted : (c : Bool) (p : Position) (w : ℕ) → w ≤ 1 → IsPosition p
    → IsPosition (place_of (p.byte + 1) (if c then p.line + 1 else p.line)
    (if c then 1 else p.column + 1) (if c then 1 else p.character + w))
next-counted true p w few h = record { a_line = omega arith; lines = omega (arith, h.lines); a_column = omega arith; columns = omega arith; a_character = omega arith; characters = omega arith }
next-counted false p w few h = record { a_line = h.a_line; lines = omega (arith, h.lines); a_column = omega arith; columns = omega (arith, h.columns); a_character = omega (arith, h.a_character); characters = omega (arith, h.characters, few) }

-- the place before all bytes is counted
pub start-counted : IsPosition start
start-counted = record { a_line = omega arith; lines = omega arith; a_column = omega arith; columns = omega arith; a_character = omega arith; characters = omega arith }

-- the place after bytes is counted
pub after-counted : (p : Position) (xs : List ℕ) → IsPosition p → IsPosition (position_after p xs)
after-counted p [] h = h
after-counted p (x ∷ xs) h =
    after-counted (next p x) xs (next-counted (x == 10) p (characters_in x) (few-characters x) h)

-- a number of a line is as much more after a byte, no matter how it is joined
number-next : (c : Bool) (a k w : ℕ) → 1 ≤ k
    → (if c then a + (k + w - 1) else k + w) ≡ (if c then a + (k - 1) else k) + w
number-next true a k w h = omega (arith, h)
number-next false a k w h = refl

-- a later line is not the first
later-line : (n : ℕ) → 1 ≤ n → (n + 1 == 1) ≡ false
later-line n h = grind (arith, nat_tests)

-- a place that is joined with another moves on as the other does, after a byte
joined-byte : (c : Bool) (p q : Position) (w : ℕ) → IsPosition q
    → joined_with p (place_of (q.byte + 1) (if c then q.line + 1 else q.line)
    (if c then 1 else q.column + 1) (if c then 1 else q.character + w))
    ≡ (let j = joined_with p q in place_of (j.byte + 1) (if c then j.line + 1 else j.line) (if c then 1 else j.column + 1) (if c then 1 else j.character + w))
joined-byte true p q w h =
    same-place _ _ _ _ _ _ _ _ (omega arith) (omega (arith, h.a_line))
    (ap (λ t. if t then p.column + (1 - 1) else 1) (later-line q.line h.a_line))
    (ap (λ t. if t then p.character + (1 - 1) else 1) (later-line q.line h.a_line))
joined-byte false p q w h =
    same-place _ _ _ _ _ _ _ _ (omega arith) refl (number-next (q.line == 1) p.column q.column 1 h.a_column)
    (number-next (q.line == 1) p.character q.character w h.a_character)

-- a place that is joined with another moves on as the other does
joined-bytes : (p q : Position) (xs : List ℕ) → IsPosition q
    → joined_with p (position_after q xs) ≡ position_after (joined_with p q) xs
joined-bytes p q [] h = refl
joined-bytes p q (x ∷ xs) h =
    joined-bytes p (next q x) xs (next-counted (x == 10) q (characters_in x) (few-characters x) h)
    ∙ ap (λ r. position_after r xs) (joined-byte (x == 10) p q (characters_in x) h)

-- a place that is joined with the one after some bytes is the place after these
pub joined-after : (p : Position) (xs : List ℕ)
    → joined_with p (position_after start xs) ≡ position_after p xs
joined-after p xs =
    joined-bytes p start xs start-counted
    ∙ ap (λ q. position_after q xs) (same-place _ p.byte _ p.line _ p.column _ p.character (omega arith) (omega arith) (omega arith) (omega arith))
