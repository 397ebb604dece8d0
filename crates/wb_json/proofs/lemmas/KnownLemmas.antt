-- Known bytes over several calls.
use Rattle.std.proofs.Common.{ℕ, List, [], ◌++◌, refl, ap, sym, ◌∙◌, append_assoc}
use Rattle.std.specs.Prelude.{Option, None, Some}
use Rattle.std.proofs.lemmas.List.{append-nil}
use Rattle.std.specs.Io.KnownBytes.{Appends, Consumes}

-- at first nothing is taken
pub consumes-start : (a : Option (List ℕ)) → Consumes a a []
consumes-start None = tt
consumes-start (Some xs) = refl

-- what is taken after some bytes is taken with them
pub consumes-more : (a b c : Option (List ℕ)) (bs cs : List ℕ) → Consumes a b bs → Consumes b c cs
    → Consumes a c (bs ++ cs)
consumes-more None b c bs cs h k = tt
consumes-more (Some xs) None c bs cs h k = absurd h
consumes-more (Some xs) (Some ys) None bs cs h k = absurd k
consumes-more (Some xs) (Some ys) (Some zs) bs cs h k = h ∙ ap (λ l. bs ++ l) k ∙ sym (append_assoc bs cs zs)

-- at first nothing is written
pub appends-start : (a : Option (List ℕ)) → Appends a a []
appends-start None = tt
appends-start (Some xs) = sym (append-nil xs)

-- what is written after some bytes is written with them
pub appends-more : (a b c : Option (List ℕ)) (bs cs : List ℕ) → Appends a b bs → Appends b c cs
    → Appends a c (bs ++ cs)
appends-more None b c bs cs h k = tt
appends-more (Some xs) None c bs cs h k = absurd h
appends-more (Some xs) (Some ys) None bs cs h k = absurd k
appends-more (Some xs) (Some ys) (Some zs) bs cs h k = k ∙ ap (λ l. l ++ cs) h ∙ append_assoc xs bs cs
