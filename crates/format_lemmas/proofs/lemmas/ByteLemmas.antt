-- Bytes in a list, and the bytes of a source.
use Rattle.std.proofs.Common.{◌≡◌, ◌≢◌, ℕ, Bool, List, [], ◌∷◌, ◌++◌, length, ap, sym, ◌∙◌, subst, refl, arith}
use Rattle.std.proofs.lemmas.List.{map-append}
use Rattle.winnow_stream.specs.Source.{Source, units, HasPositiveWidths}
use Rattle.format_lemmas.specs.Bytes.{bytes_of, Each, StartsWith}

-- ---- Lists

-- the first number of a list, or 0
head : List ℕ → ℕ
head [] = 0
head (x ∷ xs) = x

-- the rest of a list
tail : List ℕ → List ℕ
tail [] = []
tail (x ∷ xs) = xs

-- equal lists have equal first numbers
pub heads : (x y : ℕ) (xs ys : List ℕ) → x ∷ xs ≡ y ∷ ys → x ≡ y
unfolding head
heads x y xs ys e = ap head e

-- equal lists have equal rests
pub tails : (x y : ℕ) (xs ys : List ℕ) → x ∷ xs ≡ y ∷ ys → xs ≡ ys
unfolding tail
tails x y xs ys e = ap tail e

-- bytes with a byte among them are not nothing
pub some : (xs ys : List ℕ) (y : ℕ) → xs ++ y ∷ ys ≢ []
some [] ys y e = cc
some (x ∷ xs) ys y e = cc

-- a list that is a number and a rest starts with the number
pub begins : (n : ℕ) (r s : List ℕ) → r ≡ n ∷ s → StartsWith n r
begins n r s e = subst (StartsWith n) (sym e) refl

-- the test holds of each byte of the rest, if it holds of all
pub each-after : (test : ℕ → Bool) (xs ys : List ℕ) → Each test (xs ++ ys) → Each test ys
each-after test [] ys h = h
each-after test (x ∷ xs) ys h = each-after test xs ys h.1

-- ---- Sources

-- the bytes of some bytes as tokens
pub bytes-units : (xs : List ℕ) → bytes_of (units xs) ≡ xs
bytes-units [] = refl
bytes-units (x ∷ xs) = ap (λ l. x ∷ l) (bytes-units xs)

-- the bytes of a source and of some bytes after it
pub bytes-longer : (r : Source ℕ) (more : List ℕ) → bytes_of (r ++ units more) ≡ bytes_of r ++ more
bytes-longer r more = map-append (λ x. x.0) r (units more) ∙ ap (λ t. bytes_of r ++ t) (bytes-units more)

-- a source has as many tokens as bytes
pub length-bytes : (r : Source ℕ) → length (bytes_of r) ≡ length r
length-bytes [] = refl
length-bytes (x ∷ xs) = let e = length-bytes xs in omega (arith, e)

-- a source without bytes has no tokens
pub none-left : (r : Source ℕ) → bytes_of r ≡ [] → r ≡ []
none-left [] e = refl
none-left (x ∷ xs) e = absurd (cc)

-- the tokens after a front have positive widths too
pub positive-after : (front rest : Source ℕ) → HasPositiveWidths (front ++ rest)
    → HasPositiveWidths rest
positive-after [] rest h = h
positive-after (x ∷ xs) rest h = positive-after xs rest h.1

-- sources in a row have positive widths if both do
pub positive-both : (xs ys : Source ℕ) → HasPositiveWidths xs → HasPositiveWidths ys
    → HasPositiveWidths (xs ++ ys)
positive-both [] ys h k = k
positive-both (x ∷ xs) ys h k = (h.0, positive-both xs ys h.1 k)
