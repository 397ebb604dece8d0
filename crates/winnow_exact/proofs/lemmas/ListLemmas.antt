-- Facts of lists and tests.
use Rattle.std.proofs.Common.{◌≡◌, Bool, true, false, ◌||◌, List, [], ◌∷◌, ap, refl}
use Rattle.std.specs.Prelude.{⊤}
use Rattle.winnow_exact.specs.Exact.{StartsIn}

head : {T : Type 0} → T → List T → T
head d [] = d
head d (x ∷ xs) = x

tail : {T : Type 0} → List T → List T
tail [] = []
tail (x ∷ xs) = xs

-- equal lists have equal first elements
pub heads : {T : Type 0} (x y : T) (xs ys : List T) → x ∷ xs ≡ y ∷ ys → x ≡ y
unfolding head
heads x y xs ys e = ap (head x) e

-- equal lists have equal rests
pub tails : {T : Type 0} (x y : T) (xs ys : List T) → x ∷ xs ≡ y ∷ ys → xs ≡ ys
unfolding tail
tails x y xs ys e = ap tail e

-- a list with a first element is not empty
pub not-empty : {T : Type 0} (x : T) (xs : List T) → [] ≡ x ∷ xs → ⊥
not-empty x xs e = cc

-- true is not false
pub not-both : (b : Bool) → b ≡ true → b ≡ false → ⊥
not-both b t f = cc

pub or-left : (b c : Bool) → b ≡ true → (b || c) ≡ true
or-left true c h = refl
or-left false c h = absurd (not-both false h refl)

pub or-right : (b c : Bool) → c ≡ true → (b || c) ≡ true
or-right true c h = refl
or-right false c h = h

-- tokens that start with one of a test start with one of a wider test
pub starts-on : {T : Type 0} (f g : T → Bool) → ((t : T) → f t ≡ true → g t ≡ true) → (p : List T)
    → StartsIn f p → StartsIn g p
starts-on f g on [] h = tt
starts-on f g on (t ∷ ts) h = on t h
