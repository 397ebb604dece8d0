-- Two lists of the same length, related element by element.
use Rattle.std.proofs.Common.{List, [], ◌∷◌, ◌++◌, map}
use Rattle.std.specs.List.{AllZip}

-- related lists stay related when a related pair is appended
pub AllZip-push : {A B : Type 0} (R : A → B → Type 0) (xs : List A) (ys : List B) (x : A) (y : B)
    → AllZip R xs ys → R x y → AllZip R (xs ++ x ∷ []) (ys ++ y ∷ [])
AllZip-push R [] [] x y all here = (here, tt)
AllZip-push R [] (b ∷ ys) x y all here = absurd all
AllZip-push R (a ∷ xs) [] x y all here = absurd all
AllZip-push R (a ∷ xs) (b ∷ ys) x y all here = (all.0, AllZip-push R xs ys x y all.1 here)

-- a relation of the values of f is one of the mapped list
pub AllZip-map : {A B C : Type 0} (f : A → B) (R : B → C → Type 0) (xs : List A) (ys : List C)
    → AllZip (λ x y. R (f x) y) xs ys → AllZip R (map f xs) ys
AllZip-map f R [] [] all = tt
AllZip-map f R [] (y ∷ ys) all = absurd all
AllZip-map f R (x ∷ xs) [] all = absurd all
AllZip-map f R (x ∷ xs) (y ∷ ys) all = (all.0, AllZip-map f R xs ys all.1)
